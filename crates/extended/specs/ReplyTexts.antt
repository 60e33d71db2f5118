-- 02, R-6 and R-7, and RFC 2243: what the text of a reply says, plain or extended, and what it is read to. No table is looked at.
use Rattle.std.specs.Prelude.{ℕ, suc, ◌+◌, cond, List, [], ◌∷◌, eqb, leb, length, take, drop, Ok, Err, Result}
use Rattle.refusal.specs.declared.Refusal.{Refusal}
use Rattle.refusal.specs.Answers.{Checked, Reading}
use Rattle.refusal.specs.declared.Listing.{Listing}
use Rattle.refusal.specs.Numbers.{listing_of, unrefused}
use Rattle.refusal.specs.Checks.{must, unless, in_order}
use Rattle.text.specs.Kinds.{in_part}
use Rattle.text.specs.Scan.{stretch, unspaced}
use Rattle.hex_text.specs.Hex.{hex_reading}
use Rattle.reply.specs.Reply.{six_reading, reading_of}
use Rattle.extended.specs.declared.reply_types.ReplyType.{ReplyType}
use Rattle.extended.specs.declared.parameters.Parameters.{Parameters}
use Rattle.extended.specs.declared.reply_texts.ReplyText.{ReplyText}
use Rattle.extended.specs.ReplyTypes.{typed, type_checked, type_in, is_init, is_hex}
use Rattle.extended.specs.Parameters.{parameters_of}

-- ---- the parts between colons: "type, present password, parameters, new password"

-- The part that starts at a place; nothing past the end.
unfoldable pub part_at : List ℕ → ℕ → List ℕ
part_at text at = stretch in_part text at

-- Where the part after it starts, past the colon.
abbrev pub part_after : List ℕ → ℕ → ℕ
part_after text at = at + length (part_at text at) + 1

unfoldable pub present_at : List ℕ → ℕ
present_at text = part_after text 0

unfoldable pub parameters_at : List ℕ → ℕ
parameters_at text = part_after text (present_at text)

unfoldable pub new_at : List ℕ → ℕ
new_at text = part_after text (parameters_at text)

unfoldable pub colons : List ℕ → ℕ
colons [] = 0
colons (b ∷ s) = cond (in_part b) (colons s) (suc (colons s))

-- Two parts for `hex` and `word`, four for `init-hex` and `init-word`: so many colons.
abbrev pub colons_of : ReplyType → ℕ
colons_of kind = cond (is_init kind) 3 1

-- ---- what they say

-- A password: sixteen hex digits between white space for `hex` types, six words for the others; "33 also where the text isn't of its type".
unfoldable pub password_by : ReplyType → List ℕ → Reading
password_by kind part = cond (is_hex kind) (hex_reading (unspaced part)) (six_reading part)

-- The seed is "the part of the caller's text where it stands"; "Where there is no seed, the part is the empty one at the start of the text."
abbrev pub seed_start : ℕ → Parameters → ℕ
seed_start at values = cond (eqb values.len 0) 0 (at + values.start)

-- A login with the present password, as it is read; a renewal with new values (the algorithm's number, the count, where the seed stands and how long it
-- is), the new password and the present one, as each is read; or a text that is refused as a whole.
pub data Said : Type 0 where
  Login : (present : Reading) → Said
  Renewal : (number count start len : ℕ) (new present : Reading) → Said
  Refused : (why : Refusal) → Said

-- A renewal: algorithm, count and seed of the parameters, which start at a place, then the new password and the present one.
abbrev pub renewal_said : ℕ → Parameters → Reading → Reading → Said
renewal_said at values new present = Said.Renewal values.algorithm values.count (seed_start at values) values.len new present

unfoldable pub renewal_in : ReplyType → List ℕ → Said
renewal_in kind text =
    renewal_said (parameters_at text) (parameters_of (part_at text (parameters_at text)))
    (password_by kind (part_at text (new_at text))) (password_by kind (part_at text (present_at text)))

-- What a text of a type says: "The two `init` types do what Renew does."
unfoldable pub typed_in : ReplyType → List ℕ → Said
typed_in kind text = cond (is_init kind) (renewal_in kind text) (Said.Login (password_by kind (part_at text (present_at text))))

-- "an extended reply, of at most 256 bytes", 30; "34 unknown type, 35 a missing or extra part, both after 30"
unfoldable pub layout_checked : List ℕ → Checked
layout_checked text =
    in_order (must (leb (length text) 256) Refusal.ReplyLong ∷ type_checked (typed (part_at text 0))
    ∷ must (eqb (colons text) (colons_of (type_in (typed (part_at text 0))))) Refusal.PartsWrong ∷ [])

unfoldable pub extended_of : List ℕ → Said
extended_of text = unless Said.Refused (layout_checked text) (typed_in (type_in (typed (part_at text 0))) text)

-- "A text with a colon is an extended reply ..; others are plain."
unfoldable pub said_in : List ℕ → Said
said_in text = cond (eqb (colons text) 0) (Said.Login (reading_of text)) (extended_of text)

-- ---- R-7: what it is read to

-- A text that is read to a password, and one that is read to a renewal.
abbrev pub a_login : ℕ → Result ReplyText Refusal
a_login password = Ok (ReplyText.Login password)

abbrev pub a_renewal : ℕ → ℕ → ℕ → ℕ → ℕ → ℕ → Result ReplyText Refusal
a_renewal number count start len new present = Ok (ReplyText.Renewal number count start len new present)

-- What is done with a password that was read; a refusal to read it is the answer.
abbrev pub with_read : Reading → (ℕ → Result ReplyText Refusal) → Result ReplyText Refusal
with_read (Ok password) next = next password
with_read (Err why) next = Err why

-- "reading a text to a password"; "An `init` text reads to two passwords and its new values", refused with "31 to 33 for the new password, then for the
-- present one. Of the parameters it refuses nothing".
abbrev pub read_to : Said → Result ReplyText Refusal
read_to (Said.Login present) = with_read present a_login
read_to (Said.Renewal number count start len new present) =
    with_read new (λ next. with_read present (λ password. a_renewal number count start len next password))
read_to (Said.Refused why) = Err why

unfoldable pub reply_text_of : List ℕ → Result ReplyText Refusal
reply_text_of text = read_to (said_in text)

-- The number and values of what a text is read to: 1 for a renewal, its algorithm's number and count, where its seed starts and how long it is, and its new
-- password, all 0 for a login; then the password. After a refusal every value is 0.
abbrev pub reply_numbers : Result ReplyText Refusal → Listing × ℕ × ℕ × ℕ × ℕ × ℕ × ℕ × ℕ
reply_numbers (Ok (ReplyText.Login password)) = (unrefused, 0, 0, 0, 0, 0, 0, password)
reply_numbers (Ok (ReplyText.Renewal number count start len new present)) = (unrefused, 1, number, count, start, len, new, present)
reply_numbers (Err why) = (listing_of why, 0, 0, 0, 0, 0, 0, 0)

-- What a text is refused with.
abbrev pub text_checked : Result ReplyText Refusal → Checked
text_checked (Ok said) = Ok tt
text_checked (Err why) = Err why

-- "the part of the caller's text where it stands": the seed of a renewal that starts at a place, and that place, or the start where the text is shorter.
abbrev pub seed_part : List ℕ → ℕ → ℕ → List ℕ
seed_part text start len = take len (drop start text)

abbrev pub seed_place : List ℕ → ℕ → ℕ
seed_place text start = cond (leb start (length text)) start 0
