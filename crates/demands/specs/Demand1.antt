-- The letter's first demand: bad input is refused by the number listed for it, and what a refusal changes. The conditions of the
-- refusals are in `grounds`, Conditions.
use Rattle.std.specs.Prelude.{ℕ, ◌≤◌, ◌≡◌, refl, ◌↔◌, true, false, not, List, [], ◌∷◌, ◌++◌, map, ltb, length, Err}
use Rattle.std.proofs.Common.{ap}
use Rattle.refusal.specs.declared.Refusal.{Refusal}
use Rattle.refusal.specs.Numbers.{listing_of, checked_numbers, reading_numbers}
use Rattle.refusal.specs.Each.{Each}
use Rattle.text.specs.Scan.{tokens}
use Rattle.text.specs.Put.{written_of}
use Rattle.block.specs.Digest.{digest_of}
use Rattle.password.specs.declared.algorithm.Algorithm.{Algorithm}
use Rattle.password.specs.PhraseAndSeed.{phrase_checked, seed_checked}
use Rattle.password.specs.Password.{digest_by, generated}
use Rattle.challenge.specs.Challenges.{challenge_of, text_by_number, challenge_written}
use Rattle.hex_text.specs.Hex.{hex_of, sixteen_digits, hex_reading}
use Rattle.sixwords.specs.Spelling.{words_of}
use Rattle.reply.specs.Reply.{six_words, upper_text, reading_of}
use Rattle.reply.specs.Marked.{Marked}
use Rattle.extended.specs.declared.reply_types.ReplyType.{ReplyType}
use Rattle.extended.specs.ReplyTexts.{password_by, reply_text_of, reply_numbers}
use Rattle.extended.specs.ReplyWriting.{text_by_numbers, extended_written}
use Rattle.cards.specs.Cards.{card_of, card_written}
use Rattle.cards.specs.Printed.{answer_of}
use Rattle.accounts.specs.Rooms.{Room}
use Rattle.accounts.specs.Accounts.{values_checked}
use Rattle.table.specs.Table.{State}
use Rattle.readback.specs.ReplyRefusals.{unknown_text, unknown_refused, marks_one}
use Rattle.reached.specs.Calls.{Call, Answer, replied_answer, answer, numbers, after}
use Rattle.reached.specs.Offered.{Offered, Offers}
use Rattle.reached.specs.ReadAndOffered.{read_and_offered, read_and_renewed}
use Rattle.reached.specs.InTurn.{Reached}
use Rattle.grounds.specs.Listed.{is_in, listed, read_number, written_number, reply_number, challenge_number, Given}
use Rattle.grounds.specs.Conditions.{
  NoneHolds,
  FirstHolds,
  Exactly,
  phrase_rows,
  algorithm_rows,
  seed_rows,
  room_rows,
  challenge_rows,
  reply_rows,
  part_rows,
  text_rows,
  extended_rows,
  card_rows,
  program_rows,
  refused_with,
  card_asked,
  values_rows,
  conditions_of,
}
use Rattle.grounds.specs.Given.{numbers_given}
use Rattle.grounds.specs.Keeps.{made}
use Rattle.grounds.specs.Exactly as Rows
use Rattle.grounds.specs.Refusing as Refusing
use Rattle.grounds.proofs.CallsRefused.{call_exactly}
use Rattle.grounds.specs.CardProgram as CardProgram
use Rattle.grounds.specs.Unchanged.{refused_unchanged}
use Rattle.grounds.specs.HandedOn.{call_never, reply_handed_on, renewal_handed_on}

-- ---- the list

-- Each refusal's number is in the list.
pub refusal_listed : (why : Refusal) → is_in (listing_of why).0 listed ≡ true
refusal_listed why = Rows.refusal_listed why

-- And each number of the list is the answer of some call.
pub listed_given : Each Given listed
listed_given = numbers_given

-- ---- 31, by 02, R-2: "a mark for each of the six, set exactly where that word isn't in the dictionary"; it "is given exactly if at
-- least one mark is set". (`reply` Marked says it of the number m: it is 1 to 63, and for k from 1 to 6 bit k - 1 is set exactly where
-- word k isn't in the dictionary; the words are taken in upper case, so either case will do.)
pub marks_of_31 : (text : List ℕ) (m : ℕ)
    → (reading_of text ≡ Err (Refusal.WordUnknown m))
    ↔ ((length text ≤ 128) × (six_words (tokens text) ≡ true) × Marked (map upper_text (tokens text)) m)
marks_of_31 text m = (
  λ e. let six = unknown_text text m e in (six.0, six.1, (unknown_refused text six.0 six.1 m).0 e),
  λ h. (unknown_refused text h.0 h.1 m).1 h.2,
)

-- They are 1 to 63, and one number.
pub marks_1_to_63 : (text : List ℕ) (m : ℕ) → reading_of text ≡ Err (Refusal.WordUnknown m) → (1 ≤ m) × (m ≤ 63)
marks_1_to_63 text m e = let marked = ((marks_of_31 text m).0 e).2 in (marked.some_set, marked.of_six)

pub marks_are_one : (text : List ℕ) → length text ≤ 128 → six_words (tokens text) ≡ true → (m n : ℕ)
    → Marked (map upper_text (tokens text)) m → Marked (map upper_text (tokens text)) n → m ≡ n
marks_are_one text h e m n f g = marks_one text h e m n f g

-- "Every caller up to the panel passes it on". What C and the programs are told of an answer has the marks beside 31; the panel's
-- promise is stated with these numbers.
pub numbers_of_31 : (text : List ℕ) (m : ℕ) → reading_of text ≡ Err (Refusal.WordUnknown m)
    → reading_numbers (reading_of text) ≡ (record { 0 = 31; 1 = m }, 0)
numbers_of_31 text m e = ap reading_numbers e

pub reply_numbers_of_31 : (text : List ℕ) (m : ℕ) → reply_text_of text ≡ Err (Refusal.WordUnknown m)
    → reply_numbers (reply_text_of text) ≡ (record { 0 = 31; 1 = m }, 0, 0, 0, 0, 0, 0, 0)
reply_numbers_of_31 text m e = ap reply_numbers e

-- R-7: a caller that reads a text and offers what it says is answered with the marks exactly if the reading refuses so, whatever the table; Offer itself
-- never answers 31. Of an `init` reply they are the marks of the new password, or else of the present one.
pub reply_passes_marks_on : (port : ℕ) (text : List ℕ) (s : State) (m : ℕ)
    → (replied_answer (read_and_offered port text s).answer ≡ Answer.Refused (Refusal.WordUnknown m))
    ↔ (reply_text_of text ≡ Err (Refusal.WordUnknown m))
reply_passes_marks_on port text s m = reply_handed_on (Refusal.WordUnknown m) refl port text s

pub renewal_passes_marks_on : (port number count : ℕ) (seed : List ℕ) (new : ℕ) (text : List ℕ) (s : State) (m : ℕ)
    → (replied_answer (read_and_renewed port number count seed new text s).answer ≡ Answer.Refused (Refusal.WordUnknown m))
    ↔ (reading_of text ≡ Err (Refusal.WordUnknown m))
renewal_passes_marks_on port number count seed new text s m = renewal_handed_on (Refusal.WordUnknown m) refl port number count seed new text s

-- Nor does it answer any other of 30 to 35, on any table: these are the reading's alone.
pub offer_refuses_no_text : (why : Refusal) → is_in (listing_of why).0 (30 ∷ 31 ∷ 32 ∷ 33 ∷ 34 ∷ 35 ∷ []) ≡ true
    → (port : ℕ) (what : Offered) (c : Call) (s : State) → Offers port what c → answer c s ≡ Answer.Refused why → ⊥
offer_refuses_no_text why text port what c s own e = call_never why text port what c s own e

-- ---- "Bad input is refused by the number listed for it": for every input of each function, the number is the answer exactly if its
-- condition holds and those before it don't, in the order of the checks, and there is no refusal exactly if none holds.

-- MD5 and SHA-1: 12, then 40
pub digest_refusals : (algorithm : Algorithm) (m : List ℕ) (room : ℕ)
    → Exactly (written_number (digest_of (digest_by algorithm) m room)) ((12, ltb 4096 (length m)) ∷ room_rows room (digest_by algorithm m))
digest_refusals algorithm m room = Refusing.digest_exactly (digest_by algorithm) m room

-- "The generator checks 10, 11, 23, 24, 13 in that order", and R-1's 21 "first"
pub generator_refusals : (number : ℕ) (phrase seed : List ℕ) (count : ℕ)
    → Exactly (read_number (generated number phrase seed count)) (algorithm_rows number ++ phrase_rows phrase ++ seed_rows seed ++ (13, ltb 9999 count) ∷ [])
generator_refusals number phrase seed count = Refusing.generator_exactly number phrase seed count

-- 30 to 33, of a plain reply
pub reply_refusals : (text : List ℕ) → Exactly (read_number (reading_of text)) (reply_rows text)
reply_refusals text = Refusing.reply_exactly text

-- R-6: a part with a password, by its type: 31 to 33
pub part_refusals : (kind : ReplyType) (part : List ℕ) → Exactly (read_number (password_by kind part)) (part_rows kind part)
part_refusals kind part = Refusing.part_exactly kind part

-- R-7, reading the text of any reply: "34 unknown type, 35 a missing or extra part, both after 30", "then 31 to 33 for the new password and after it for
-- the present one"; of the parameters nothing is refused. What they are refused with where they are offered is among `call_refusals`.
pub reply_text_refusals : (text : List ℕ) → Exactly (reply_number (reply_text_of text)) (text_rows text)
reply_text_refusals text = Refusing.text_exactly text

-- The writer of extended replies: 34, "then for `init` types 51, 21, 23, 24, then 40"
pub extended_writer_refusals : (type password number count : ℕ) (seed : List ℕ) (new room : ℕ)
    → Exactly (written_number (extended_written type password number count seed new room))
    (extended_rows type number count seed ++ room_rows room (text_by_numbers type password number count seed new))
extended_writer_refusals type password number count seed new room = Refusing.extended_writer_exactly type password number count seed new room

-- 20 to 25
pub challenge_refusals : (text : List ℕ) → Exactly (challenge_number (challenge_of text)) (challenge_rows text)
challenge_refusals text = Refusing.challenge_exactly text

-- "the challenge writer 23, 24, 13, 40", and R-1's 21 "first"
pub challenge_writer_refusals : (number : ℕ) (seed : List ℕ) (count room : ℕ)
    → Exactly (written_number (challenge_written number seed count room))
    (algorithm_rows number ++ seed_rows seed ++ (13, ltb 9999 count) ∷ room_rows room (text_by_number number seed count))
challenge_writer_refusals number seed count room = Refusing.challenge_writer_exactly number seed count room

-- "the word and hex writers only 40"
pub words_writer_refusals : (p room : ℕ) → Exactly (written_number (written_of room (words_of p))) (room_rows room (words_of p))
words_writer_refusals p room = Refusing.writer_exactly room (words_of p)

pub hex_writer_refusals : (p room : ℕ) → Exactly (written_number (written_of room (hex_of p))) (room_rows room (hex_of p))
hex_writer_refusals p room = Refusing.writer_exactly room (hex_of p)

-- The card writer: "Order: 10, 11, 20 to 25, 70, 40".
pub card_refusals : (phrase challenge : List ℕ) (k room : ℕ)
    → Exactly (written_number (card_written phrase challenge k room)) (card_rows phrase challenge k ++ room_rows room (card_of phrase challenge k))
card_refusals phrase challenge k room = Refusing.card_exactly phrase challenge k room

-- The program `card`, 12 and then the same: it prints `refused` and the number, which has four digits at most, or the card where no
-- condition holds.
pub program_refusals : (input : List ℕ) (n : ℕ) → n ≤ 9999 → (answer_of input ≡ refused_with n) ↔ FirstHolds n (program_rows input)
program_refusals input n h = CardProgram.refused_printed input n h

pub program_prints : (input : List ℕ) → (answer_of input ≡ card_asked input) ↔ NoneHolds (program_rows input)
program_prints input = CardProgram.card_printed input

-- Each call of the table, in every table that calls make, the empty one too. The rows of each are `conditions_of`'s.
pub call_refusals : (s : State) → Reached s → (c : Call) → Exactly (numbers (answer c s)).0.0 (conditions_of c s)
call_refusals s r c = call_exactly s (made s r) c

-- What these share: the checks of a pass-phrase, of a seed and of an account's new values, and the reader of hex.
pub phrase_refusals : (phrase : List ℕ) → Exactly (checked_numbers (phrase_checked phrase)).0 (phrase_rows phrase)
phrase_refusals phrase = Refusing.phrase_exactly phrase

pub seed_refusals : (seed : List ℕ) → Exactly (checked_numbers (seed_checked seed)).0 (seed_rows seed)
seed_refusals seed = Refusing.seed_exactly seed

pub values_refusals : (number count : ℕ) (seed : List ℕ) (present : Room)
    → Exactly (checked_numbers (values_checked number count seed present)).0 (values_rows number count seed present)
values_refusals number count seed present = Refusing.values_exactly number count seed present

pub hex_reader_refusals : (s : List ℕ) → Exactly (read_number (hex_reading s)) ((33, not (sixteen_digits s)) ∷ [])
hex_reader_refusals s = Refusing.hex_reader_exactly s

-- ---- "the list says what a refusal changes, which is mostly nothing"

-- A refusal other than 61 and 62 leaves every table as it is.
pub refusal_changes_nothing : (why : Refusal) → is_in (listing_of why).0 (61 ∷ 62 ∷ []) ≡ false
    → (c : Call) (s : State) → answer c s ≡ Answer.Refused why → after c s ≡ s
refusal_changes_nothing why other c s e = refused_unchanged why other c s e
