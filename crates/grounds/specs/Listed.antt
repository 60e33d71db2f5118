-- The words of the letter's first demand: the list of refusal numbers, and that a number is some call's answer. Which answer goes by which
-- conditions is in Conditions.
use Rattle.std.specs.Prelude.{ℕ, ◌≡◌, Bool, false, ◌||◌, List, [], ◌∷◌, eqb, Result}
use Rattle.refusal.specs.Answers.{Reading, Written}
use Rattle.refusal.specs.Numbers.{reading_numbers, written_numbers}
use Rattle.challenge.specs.declared.reading.Challenge.{Challenge}
use Rattle.text.specs.Put.{written_of}
use Rattle.block.specs.Digest.{digest_of}
use Rattle.password.specs.declared.algorithm.Algorithm.{Algorithm}
use Rattle.password.specs.Password.{digest_by, generated}
use Rattle.challenge.specs.Challenges.{challenge_of, challenge_numbers}
use Rattle.extended.specs.declared.reply_texts.ReplyText.{ReplyText}
use Rattle.extended.specs.ReplyTexts.{reply_text_of, reply_numbers}
use Rattle.hex_text.specs.Hex.{hex_of}
use Rattle.cards.specs.Cards.{card_written}
use Rattle.table.specs.Table.{fresh}
use Rattle.reached.specs.Calls.{Call, answer, numbers, run}
use Rattle.refusal.specs.declared.Refusal.{Refusal}

-- One of the numbers is n.
abbrev pub is_in : ℕ → List ℕ → Bool
is_in n [] = false
is_in n (m ∷ ms) = eqb n m || is_in n ms

-- 01, 'Refusal numbers': the numbers of the table, from top to bottom, and R-6's 34 and 35.
abbrev pub listed : List ℕ
listed =
    10 ∷ 11 ∷ 12 ∷ 13 ∷ 20 ∷ 21 ∷ 22 ∷ 23 ∷ 24 ∷ 25 ∷ 30 ∷ 31 ∷ 32 ∷ 33 ∷ 34 ∷ 35 ∷ 40 ∷ 50 ∷ 51 ∷ 52 ∷ 53 ∷ 54 ∷ 55 ∷ 56 ∷ 57 ∷ 58 ∷ 59 ∷ 60
    ∷ 61 ∷ 62 ∷ 63 ∷ 70 ∷ []

-- ---- the number of an answer, 0 where it is no refusal

abbrev pub read_number : Reading → ℕ
read_number reading = (reading_numbers reading).0.0

abbrev pub written_number : Written → ℕ
written_number written = (written_numbers written).0.0

abbrev pub reply_number : Result ReplyText Refusal → ℕ
reply_number reply = (reply_numbers reply).0.0

abbrev pub challenge_number : Result Challenge Refusal → ℕ
challenge_number challenge = (challenge_numbers challenge).0.0

-- The number that the call answers after the others, from the fresh table.
unfoldable pub call_number : List Call → Call → ℕ
call_number before c = (numbers (answer c (run before fresh))).0.0

-- The number n is the answer of some call: of the generator, the digest, the challenge reader, the reply's reader, the hex writer, the
-- card writer, or the table.
pub data Given (n : ℕ) : Type 0 where
  generator : (number : ℕ) (phrase seed : List ℕ) (count : ℕ) → read_number (generated number phrase seed count) ≡ n → Given n
  digest : (algorithm : Algorithm) (m : List ℕ) (room : ℕ) → written_number (digest_of (digest_by algorithm) m room) ≡ n → Given n
  challenge : (text : List ℕ) → challenge_number (challenge_of text) ≡ n → Given n
  reply : (text : List ℕ) → reply_number (reply_text_of text) ≡ n → Given n
  hex : (p room : ℕ) → written_number (written_of room (hex_of p)) ≡ n → Given n
  card : (phrase text : List ℕ) (k room : ℕ) → written_number (card_written phrase text k room) ≡ n → Given n
  call : (before : List Call) (c : Call) → call_number before c ≡ n → Given n
