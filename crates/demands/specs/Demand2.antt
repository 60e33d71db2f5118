-- The letter's second demand, for texts: what is written is read back, and six words are accepted exactly if some password is written with
-- them. That the texts are RFC 2289's is not said here: the definitions say it, and the vectors. That every table call does just what the
-- written steps say is the promise of each call of `login`.
use Rattle.std.specs.Prelude.{ℕ, ◌+◌, ◌-◌, ◌^◌, ◌≤◌, ◌<◌, ◌≡◌, Bool, true, false, List, [], ◌∷◌, ◌++◌, map, ◌↔◌, length, take, Ok}
use Rattle.std.proofs.Common.{◌∙◌}
use Rattle.text.specs.Kinds.{lower_of}
use Rattle.text.specs.Scan.{tokens, unspaced}
use Rattle.text.specs.Put.{Writes}
use Rattle.password.specs.PhraseAndSeed.{phrase_checked, seed_checked}
use Rattle.password.specs.declared.algorithm.Algorithm.{Algorithm}
use Rattle.password.specs.Algorithm.{algorithm_number, algorithm_name}
use Rattle.password.specs.Password.{password, generated}
use Rattle.password.specs.Laws.{generated_good, generated_numbered}
use Rattle.text.specs.Counts.{width_of, decimal_of}
use Rattle.challenge.specs.Challenges.{challenge_of, algorithm_of, seed_of, challenge_text, a_challenge}
use Rattle.readback.specs.ChallengeRead.{written_read, written_seed_read}
use Rattle.hex_text.specs.Hex.{hex_of}
use Rattle.sixwords.specs.Spelling.{six_words_of, words_of}
use Rattle.reply.specs.Reply.{six_words, upper_text, reading_of}
use Rattle.readback.specs.ReplyRead as Laws
use Rattle.cards.specs.CardLines.{card_text}
use Rattle.cards.specs.CardChecks.{count_of, card_checked}
use Rattle.cards.specs.Cards.{card_of}
use Rattle.readback.specs.CardRead as CardLaws
use Rattle.password.specs.Bounds.{password_bound}

-- "what we write we read back as the same password": the hex that was written at the front of a buffer, and the words.
pub hex_read_back : (p : ℕ) → p < 2 ^ 64 → (b b' : List ℕ) (n : ℕ) → Writes (hex_of p) b b' (Ok n)
    → reading_of (take n b') ≡ Ok p
hex_read_back p h b b' n w = Laws.hex_read_back p b b' n h w

pub words_read_back : (p : ℕ) → p < 2 ^ 64 → (b b' : List ℕ) (n : ℕ) → Writes (words_of p) b b' (Ok n)
    → reading_of (take n b') ≡ Ok p
words_read_back p h b b' n w = Laws.words_read_back p b b' n h w

-- Every password that the generator gives is such a number.
pub generated_fits : (algorithm : Algorithm) (phrase seed : List ℕ) (count : ℕ) → password algorithm phrase seed count < 2 ^ 64
generated_fits algorithm phrase seed count = password_bound algorithm phrase seed count

-- "six words of one to four letters, in either case, in a reply of at most 128 bytes, are accepted exactly if some password is written with
-- them", and then as that password.
pub six_words_accepted : (text : List ℕ) → length text ≤ 128 → six_words (tokens text) ≡ true
    → ((p : ℕ) × (reading_of text ≡ Ok p)) ↔ ((p : ℕ) × (p < 2 ^ 64) × (map upper_text (tokens text) ≡ six_words_of p))
six_words_accepted text h e = (
  λ a. let w = (Laws.words_accepted text h e a.0).0 a.1 in (a.0, w.0, w.1),
  λ a. (a.0, (Laws.words_accepted text h e a.0).1 (a.1, a.2)),
)

pub six_words_accepted_as : (text : List ℕ) → length text ≤ 128 → six_words (tokens text) ≡ true
    → (p : ℕ) → (reading_of text ≡ Ok p) ↔ ((p < 2 ^ 64) × (map upper_text (tokens text) ≡ six_words_of p))
six_words_accepted_as text h e p = Laws.words_accepted text h e p

-- Any other text, exactly if its bytes without white space are the hex digits of a password, in either case.
pub hex_accepted_as : (text : List ℕ) → length text ≤ 128 → six_words (tokens text) ≡ false
    → (p : ℕ) → (reading_of text ≡ Ok p) ↔ ((p < 2 ^ 64) × (map lower_of (unspaced text) ≡ hex_of p))
hex_accepted_as text h e p = Laws.hex_accepted text h e p

-- A challenge that is written is read back: the algorithm, the count, the seed in lower case, all its bytes, and R-6's mark where it was written with
-- it, and only there. The seed starts behind `otp-`, the algorithm's name, the count and two spaces.
pub challenge_read_back : (ext : Bool) (algorithm : Algorithm) (seed : List ℕ) (count : ℕ) → seed_checked seed ≡ Ok tt → count ≤ 9999 →
    let text = challenge_text ext algorithm seed count in
    (challenge_of text ≡ a_challenge algorithm count (6 + length (algorithm_name algorithm) + width_of count) (length seed) (length text) ext)
    × (seed_of text ≡ map lower_of seed)
challenge_read_back ext algorithm seed count good low = (written_read ext algorithm seed count good low, written_seed_read ext algorithm seed count good low)

-- The generator gives the password of this algorithm, pass-phrase, seed and count, for all that it takes. The algorithm is told by its number.
pub generator_gives : (algorithm : Algorithm) (phrase seed : List ℕ) (count : ℕ)
    → phrase_checked phrase ≡ Ok tt → seed_checked seed ≡ Ok tt → count ≤ 9999
    → generated (algorithm_number algorithm) phrase seed count ≡ Ok (password algorithm phrase seed count)
generator_gives algorithm phrase seed count long good low =
    generated_numbered algorithm phrase seed count ∙ generated_good algorithm phrase seed count long good low

-- A card's lines, by the algorithm that the challenge names: what stands on each, before and after it, and that its hex and its words read
-- as the password that the generator gives at that count.
pub card_lines : (phrase challenge : List ℕ) (k : ℕ) → card_checked phrase challenge k ≡ Ok tt → (i : ℕ) → i < k →
    let n = count_of (challenge_of challenge) in
    let algorithm = algorithm_of (challenge_of challenge) in
    let password_at = password algorithm phrase (seed_of challenge) in
    let p = password_at (n - i) in
    (card_of phrase challenge k
    ≡ card_text password_at n i
    ++ (decimal_of (n - i) ++ 32 ∷ [] ++ hex_of p ++ 32 ∷ [] ++ words_of p ++ 10 ∷ [])
    ++ card_text password_at (n - i - 1) (k - i - 1))
    × (reading_of (hex_of p) ≡ generated (algorithm_number algorithm) phrase (seed_of challenge) (n - i))
    × (reading_of (words_of p) ≡ generated (algorithm_number algorithm) phrase (seed_of challenge) (n - i))
card_lines phrase challenge k e i h = CardLaws.card_lines phrase challenge k e i h
