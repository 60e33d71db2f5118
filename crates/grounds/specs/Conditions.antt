-- The conditions of the refusals, in the words of documents 01 and 02: the rows of each function, in the order of its checks.
use Rattle.std.specs.Prelude.{ℕ, ◌/◌, ◌%◌, ◌≡◌, ◌↔◌, Bool, true, false, cond, not, ◌&&◌, ◌||◌, List}
use Rattle.std.specs.Prelude.{[], ◌∷◌, ◌++◌, map, eqb, leb, ltb, length, take, drop, Option, Some, None}
use Rattle.refusal.specs.Each.{Each}
use Rattle.text.specs.Kinds.{lower_of}
use Rattle.text.specs.Tests.{every, same}
use Rattle.text.specs.Scan.{tokens, unspaced}
use Rattle.text.specs.Quoted.{codes}
use Rattle.text.specs.Counts.{is_count, decimal_of}
use Rattle.password.specs.PhraseAndSeed.{plain}
use Rattle.password.specs.Password.{bytes_of, hash}
use Rattle.dictionary.specs.Dictionary.{place_of}
use Rattle.sixwords.specs.Places.{pair_sum, joined}
use Rattle.hex_text.specs.Hex.{sixteen_digits}
use Rattle.reply.specs.Reply.{six_words, upper_text, place_in}
use Rattle.extended.specs.declared.reply_types.ReplyType.{ReplyType}
use Rattle.extended.specs.ReplyTypes.{typed, type_numbered, type_in, is_init, is_hex}
use Rattle.extended.specs.ReplyTexts.{part_at, present_at, new_at, colons, colons_of}
use Rattle.challenge.specs.Challenges.{opening, token_at, end_of, count_at, seed_at, terminated, challenge_of}
use Rattle.cards.specs.CardChecks.{count_of}
use Rattle.cards.specs.Cards.{card_of}
use Rattle.cards.specs.Printed.{first_line, kept_line, past_line, lines_asked}
use Rattle.accounts.specs.Rooms.{Room, remembered}
use Rattle.accounts.specs.Accounts.{is_one_of}
use Rattle.table.specs.Table.{State, is_there, account_of, port_of, waits, own_account, has_turn}
use Rattle.table.specs.Steps.{challenge_for}
use Rattle.reached.specs.Calls.{Call}
use Rattle.reached.specs.Equal.{accounts_in}

-- ---- what it is that an answer goes by its rows

-- A refusal's number, and whether its condition holds.
abbrev pub Row : Type 0
Row = ℕ × Bool

-- No condition of these holds.
abbrev pub NoneHolds : List Row → Type 0
NoneHolds rows = Each (λ (row : Row). row.1 ≡ false) rows

-- The condition of n holds, and those before it don't.
pub record FirstHolds (n : ℕ) (rows : List Row) : Type 0 where
  pub before : List Row
  pub after : List Row
  pub parted : rows ≡ before ++ (n, true) ∷ after
  pub none : NoneHolds before

-- An answer with this number, 0 where it is no refusal, goes by the rows: it is the refusal n exactly if the condition of n holds and
-- those before it don't, and no refusal exactly if no condition holds.
pub record Exactly (number : ℕ) (rows : List Row) : Type 0 where
  pub refused : (n : ℕ) → (n ≡ 0 → ⊥) → (number ≡ n) ↔ FirstHolds n rows
  pub taken : (number ≡ 0) ↔ NoneHolds rows

-- ---- texts and numbers

-- 10 and 11: "pass-phrase under 10, over 63 bytes"
abbrev pub phrase_rows : List ℕ → List Row
phrase_rows phrase =
    (10, ltb (length phrase) 10) ∷
    (11, ltb 63 (length phrase)) ∷ []

-- 23 and 24, "for any seed": "length 1 to 16, else 23; letters and digits only, else 24"
abbrev pub seed_rows : List ℕ → List Row
seed_rows seed =
    (23, not (leb 1 (length seed) && leb (length seed) 16)) ∷
    (24, not (plain seed)) ∷ []

-- 21, by number: "an unknown algorithm", where 1 is md5 and 2 is sha1
abbrev pub algorithm_rows : ℕ → List Row
algorithm_rows number = (21, not (eqb number 1 || eqb number 2)) ∷ []

-- 40: "buffer shorter than the text to be written"
abbrev pub room_rows : ℕ → List ℕ → List Row
room_rows room text = (40, ltb room (length text)) ∷ []

-- 20 to 25: the steps of 'Challenges', with 21 as R-1 has it, "neither `md5` nor `sha1`"
abbrev pub challenge_rows : List ℕ → List Row
challenge_rows text =
    (20, not (same (take 4 text) opening)) ∷
    (21, not (same (token_at text 4) (codes "md5") || same (token_at text 4) (codes "sha1"))) ∷
    (22, not (is_count (token_at text (count_at text)))) ∷ []
    ++ seed_rows (token_at text (seed_at text))
    ++ (25, not (terminated (drop (end_of text (seed_at text)) text))) ∷ []

-- Where the tokens of a text stand in the dictionary, in either case; whether one does.
abbrev pub places_found : List ℕ → List (Option ℕ)
places_found text = map place_of (map upper_text (tokens text))

abbrev pub is_known : Option ℕ → Bool
is_known (Some place) = true
is_known None = false

-- "the sum modulo 4 is put after the 64 bits as two bits": so it is in the 66 bits of these places.
abbrev pub sum_right : List ℕ → Bool
sum_right places = eqb (pair_sum (joined 0 places / 4) % 4) (joined 0 places % 4)

-- Each token is a word of the dictionary; the pair sum of the words is right.
abbrev pub words_known : List ℕ → Bool
words_known text = every is_known (places_found text)

abbrev pub words_right : List ℕ → Bool
words_right text = sum_right (map place_in (places_found text))

-- 31 and 32, of six words: "a word not in the dictionary"; "words known, pair sum wrong"
abbrev pub word_rows : List ℕ → List Row
word_rows text =
    (31, six_words (tokens text) && not (words_known text)) ∷
    (32, six_words (tokens text) && words_known text && not (words_right text)) ∷ []

-- 30 to 33, of a plain reply: "reply over 128 bytes"; 31 and 32; "neither six words nor sixteen digits"
abbrev pub reply_rows : List ℕ → List Row
reply_rows text =
    (30, ltb 128 (length text)) ∷ []
    ++ word_rows text
    ++ (33, not (six_words (tokens text)) && not (sixteen_digits (unspaced text))) ∷ []

-- ---- the card

-- 70: "card lines not 1 to 99 or more than the count". "Order: 10, 11, 20 to 25, 70", and 40 after these.
abbrev pub card_rows : List ℕ → List ℕ → ℕ → List Row
card_rows phrase challenge k =
    phrase_rows phrase
    ++ challenge_rows challenge
    ++ (70, not (leb 1 k && leb k 99) || ltb (count_of (challenge_of challenge)) k) ∷ []

-- The program `card`: "Input over 256 bytes gives 12 before anything else."
abbrev pub program_rows : List ℕ → List Row
program_rows input =
    (12, ltb 256 (length input)) ∷
    card_rows (first_line input) (kept_line (past_line input)) (lines_asked (first_line (past_line (past_line input))))

-- "it prints `refused`, a space, the number, a newline", or the card that the three lines ask for.
abbrev pub refused_with : ℕ → List ℕ
refused_with n = codes "refused " ++ decimal_of n ++ 10 ∷ []

abbrev pub card_asked : List ℕ → List ℕ
card_asked input = card_of (first_line input) (kept_line (past_line input)) (lines_asked (first_line (past_line (past_line input))))

-- ---- an account's new values

-- 51: "count not 2 to 9,999"
abbrev pub is_outside : ℕ → Bool
is_outside count = not (leb 2 count && leb count 9999)

-- At enrolment: 51, 21 "after 51", 23, 24.
abbrev pub new_rows : ℕ → ℕ → List ℕ → List Row
new_rows number count seed =
    (51, is_outside count) ∷ []
    ++ algorithm_rows number
    ++ seed_rows seed

-- At renewal these and 63, by R-5 "equal to a remembered seed", "case folded".
abbrev pub values_rows : ℕ → ℕ → List ℕ → Room → List Row
values_rows number count seed present =
    new_rows number count seed
    ++ (63, is_one_of (map lower_of seed) (remembered present)) ∷ []

-- ---- R-6 and R-7: reading the text of a reply, plain or extended

-- "A text with a colon is an extended reply ..; others are plain."
abbrev pub is_plain : List ℕ → Bool
is_plain text = eqb (colons text) 0

-- One of the four names.
abbrev pub is_type : List ℕ → Bool
is_type name = same name (codes "hex") || same name (codes "word") || same name (codes "init-hex") || same name (codes "init-word")

-- An extended reply's type, where it is one of the four.
abbrev pub type_of : List ℕ → ReplyType
type_of text = type_in (typed (part_at text 0))

-- "an extended reply, of at most 256 bytes", 30; "34 unknown type, 35 a missing or extra part, both after 30": there is a colon between two parts.
abbrev pub layout_rows : List ℕ → List Row
layout_rows text =
    (30, not (is_plain text) && ltb 256 (length text)) ∷
    (34, not (is_plain text) && not (is_type (part_at text 0))) ∷
    (35, not (is_plain text) && not (eqb (colons text) (colons_of (type_of text)))) ∷ []

-- 31 to 33 of the part with a password: of `hex` types sixteen digits, of the others six words; "33 also where the text isn't of its type".
abbrev pub part_rows : ReplyType → List ℕ → List Row
part_rows kind part =
    cond (is_hex kind) ((33, not (sixteen_digits (unspaced part))) ∷ [])
    (word_rows part ++ (33, not (six_words (tokens part))) ∷ [])

-- "then 31 to 33 for the new password and after it for the present one"; a plain reply's 30 to 33.
abbrev pub password_rows : List ℕ → List Row
password_rows text =
    cond (is_plain text) (reply_rows text)
    (cond (is_init (type_of text)) (part_rows (type_of text) (part_at text (new_at text))) [] ++ part_rows (type_of text) (part_at text (present_at text)))

-- All of these; R-7: "Of the parameters it refuses nothing".
abbrev pub text_rows : List ℕ → List Row
text_rows text = layout_rows text ++ password_rows text

-- The writer of extended replies: 34 for "a type that isn't one of the four", by number, "then for `init` types 51, 21, 23, 24".
abbrev pub extended_rows : ℕ → ℕ → ℕ → List ℕ → List Row
extended_rows type number count seed =
    (34, not (eqb type 1 || eqb type 2 || eqb type 3 || eqb type 4)) ∷ []
    ++ cond (is_init (type_in (type_numbered type))) (new_rows number count seed) []

-- ---- the table's calls, in tables that calls make

-- Challenge and Offer: "55, 59, 60, 58". 55: "port over 3"; 58: "account used up: stored count 1".
abbrev pub turn_rows : ℕ → State → List Row
turn_rows port s =
    (55, ltb 3 port) ∷
    (59, not (waits port s)) ∷
    (60, not (has_turn port s)) ∷
    (58, eqb (own_account port s).count 1) ∷ []

-- "Hash the password once", by the account's algorithm: it does not equal the stored one.
abbrev pub is_wrong : ℕ → ℕ → State → Bool
is_wrong port password s = not (eqb (hash (own_account port s).algorithm (bytes_of password)) (own_account port s).password)

-- Two wrong replies stand in the port's run, so that one more is the third.
abbrev pub is_third : ℕ → State → Bool
is_third port s = eqb (port_of port s).wrong 2

-- 61 and 62: "wrong reply, third wrong in a row"
abbrev pub wrong_rows : ℕ → ℕ → State → List Row
wrong_rows port password s =
    (61, is_wrong port password s && not (is_third port s)) ∷
    (62, is_wrong port password s && is_third port s) ∷ []

-- "Checks run in the order given."
abbrev pub conditions_of : Call → State → List Row
conditions_of (Call.Enrol id number count seed password) s =
    (50, eqb id 0) ∷ []
    ++ new_rows number count seed
    ++ (52, is_there id s) ∷
    (53, eqb (accounts_in s.rooms) 32) ∷ []
conditions_of (Call.Remove id) s =
    (54, not (is_there id s)) ∷ []
conditions_of (Call.Join port id) s =
    (55, ltb 3 port) ∷
    (54, not (is_there id s)) ∷
    (56, waits port s) ∷
    (57, not (eqb (port_of port s).shut 0)) ∷
    (58, eqb (account_of id s).count 1) ∷ []
conditions_of (Call.Leave port) s =
    (55, ltb 3 port) ∷
    (59, not (waits port s)) ∷ []
conditions_of (Call.Challenge port room) s =
    turn_rows port s
    ++ room_rows room (challenge_for port s)
conditions_of (Call.Offer port password) s =
    turn_rows port s
    ++ wrong_rows port password s
conditions_of (Call.OfferRenewal port number count seed new password) s =
    turn_rows port s
    ++ values_rows number count seed (own_account port s)
    ++ wrong_rows port password s
conditions_of Call.Tick s = []
