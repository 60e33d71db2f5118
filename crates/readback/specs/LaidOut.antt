-- 02, R-6 and R-7, and RFC 2243: how a text has to be laid out to have the mark, or to be an extended reply, and what is refused: the words in which
-- `demands` ExtendedTexts says exactly which texts do. Parts are told by what stands in them, and not by how a reader finds them.
use Rattle.std.specs.Prelude.{ℕ, ◌^◌, ◌≤◌, ◌<◌, ◌≡◌, Bool, true, false, cond, List, [], ◌∷◌, ◌++◌, map, eqb, ltb, length, drop, Err}
use Rattle.refusal.specs.declared.Refusal.{Refusal}
use Rattle.refusal.specs.Answers.{Reading}
use Rattle.refusal.specs.Numbers.{listing_of}
use Rattle.text.specs.Kinds.{lower_of, is_white, is_solid, is_blank, in_token}
use Rattle.text.specs.Tests.{every}
use Rattle.text.specs.Scan.{run_of, tokens, unspaced}
use Rattle.password.specs.Algorithm.{named}
use Rattle.challenge.specs.Challenges.{is_mark, terminated}
use Rattle.hex_text.specs.Hex.{hex_of}
use Rattle.dictionary.specs.Dictionary.{word_at}
use Rattle.sixwords.specs.Places.{all_places}
use Rattle.sixwords.specs.Spelling.{six_words_of}
use Rattle.reply.specs.Reply.{upper_text, reading_of}
use Rattle.extended.specs.declared.reply_types.ReplyType.{ReplyType}
use Rattle.extended.specs.ReplyTypes.{type_name, is_init, is_hex}
use Rattle.extended.specs.Parameters.{name_number, count_in}
use Rattle.extended.specs.ReplyTexts.{colons, colons_of, password_by, reply_text_of, seed_part, a_login, a_renewal}

-- All the bytes of a kind at the front of s are t, and rest is what stands past them.
pub record Run (test : ℕ → Bool) (s t rest : List ℕ) : Type 0 where
  pub laid : s ≡ t ++ rest
  pub all : every test t ≡ true
  pub over : run_of test rest ≡ 0

-- ---- the mark of a challenge

-- What stands behind a seed's end: blanks, or none, then a token, each as far as it goes. The token is the mark, and a space or newline ends it.
pub record MarkBehind (text : List ℕ) (end : ℕ) : Type 0 where
  pub blanks : List ℕ
  pub from : List ℕ
  pub blank_run : Run is_blank (drop end text) blanks from
  pub token : List ℕ
  pub behind : List ℕ
  pub token_run : Run in_token from token behind
  pub is_mark_lem : is_mark token ≡ true
  pub ended : terminated behind ≡ true

-- ---- parts

-- The text starts with a type's name and a colon.
abbrev pub OfType : ReplyType → List ℕ → Type 0
OfType kind text = (rest : List ℕ) × (text ≡ type_name kind ++ 58 ∷ rest)

-- "type, colon, password", with no colon in the password
pub record TwoParts (kind : ReplyType) (text present : List ℕ) : Type 0 where
  pub logs_in : is_init kind ≡ false
  pub laid : text ≡ type_name kind ++ 58 ∷ present
  pub whole : colons present ≡ 0

-- "for `init` types type, colon, present password, colon", the parameters, "colon, new password", with no colon in any of them
pub record FourParts (kind : ReplyType) (text present parameters new : List ℕ) : Type 0 where
  pub renews : is_init kind ≡ true
  pub laid : text ≡ type_name kind ++ 58 ∷ (present ++ 58 ∷ (parameters ++ 58 ∷ new))
  pub present_whole : colons present ≡ 0
  pub parameters_whole : colons parameters ≡ 0
  pub new_whole : colons new ≡ 0

-- "for `hex` types what is left without white space is sixteen hex digits ..; for `word` types it is exactly six tokens of one to four letters":
-- those that p is written with, in either case
abbrev pub OfPassword : ℕ → ReplyType → List ℕ → Type 0
OfPassword p kind part = (p < 2 ^ 64) × cond (is_hex kind) (map lower_of (unspaced part) ≡ hex_of p) (map upper_text (tokens part) ≡ six_words_of p)

-- A part that is read as a password, or that is refused so.
abbrev pub ReadAs : Reading → ReplyType → List ℕ → Type 0
ReadAs reading kind part = password_by kind part ≡ reading

-- "Parameters are `algorithm count seed`, .. between white space of the four kinds, blanks around them dropped": white space and words by turns,
-- each as far as it goes, and then the seed, whose last byte, if it has one, is solid.
pub record Spaced (part name count seed : List ℕ) : Type 0 where
  pub white : List ℕ
  pub from_name : List ℕ
  pub before : Run is_white part white from_name
  pub past_name : List ℕ
  pub name_run : Run is_solid from_name name past_name
  pub white₁ : List ℕ
  pub from_count_lem : List ℕ
  pub between : Run is_white past_name white₁ from_count_lem
  pub past_count : List ℕ
  pub count_run : Run is_solid from_count_lem count past_count
  pub white₂ : List ℕ
  pub from_seed : List ℕ
  pub between₂ : Run is_white past_count white₂ from_seed
  pub white₃ : List ℕ
  pub seed_laid : from_seed ≡ seed ++ white₃
  pub seed_ends : (t : List ℕ) (b : ℕ) → seed ≡ t ++ b ∷ [] → is_solid b ≡ true
  pub behind : every is_white white₃ ≡ true

-- ---- whole texts

-- What a renewal's text is made of: the four parts, in the parameters an algorithm's name, a count and the seed, and two passwords, of which so much
-- is known.
pub record RenewalParts (text : List ℕ) (number count : ℕ) (seed : List ℕ) (New Present : ReplyType → List ℕ → Type 0) : Type 0 where
  pub kind : ReplyType
  pub present_part : List ℕ
  pub parameters : List ℕ
  pub new_part : List ℕ
  pub name : List ℕ
  pub word : List ℕ
  pub few : length text ≤ 256
  pub parts : FourParts kind text present_part parameters new_part
  pub spaced : Spaced parameters name word seed
  pub algorithm_is : name_number (named name) ≡ number
  pub count_is : count_in word ≡ count
  pub new_is : New kind new_part
  pub present_is : Present kind present_part

-- What such a text is read to: these values, the seed standing somewhere in it, and these passwords.
abbrev pub SaysRenewal : List ℕ → ℕ → ℕ → List ℕ → ℕ → ℕ → Type 0
SaysRenewal text number count seed new present =
    (start : ℕ) × (reply_text_of text ≡ a_renewal number count start (length seed) new present)
    × (seed_part text start (length seed) ≡ seed)

-- A text is read to what its writer was given: the password; for `init` types the new values and the new password too, the seed as the part of the
-- text where it stands.
pub record Says (kind : ReplyType) (password number count : ℕ) (seed : List ℕ) (new : ℕ) (text : List ℕ) : Type 0 where
  pub start : ℕ
  pub said : reply_text_of text ≡ cond (is_init kind) (a_renewal number count start (length seed) new password) (a_login password)
  pub seed_there : is_init kind ≡ true → seed_part text start (length seed) ≡ seed

-- ---- refusals

-- The number of a refusal is one of these.
abbrev pub Between : ℕ → ℕ → Refusal → Type 0
Between low high why = (low ≤ (listing_of why).0) × ((listing_of why).0 ≤ high)

-- 32: "words known, pair sum wrong"
pub record SumRefused (ws : List (List ℕ)) : Type 0 where
  pub ps : List ℕ
  pub known : all_places ps ≡ true
  pub words : ws ≡ map word_at ps
  pub none : (p : ℕ) → p < 2 ^ 64 → ws ≡ six_words_of p → ⊥

-- How many bytes a text may have: 128 where it is plain; "an extended reply, of at most 256 bytes".
abbrev pub most_bytes : List ℕ → ℕ
most_bytes text = cond (eqb (colons text) 0) 128 256

-- "30, 34, 35, then 31 to 33 for the new password, then for the present one": a text with a colon as a whole; a plain one as it is read; and one of two
-- parts, or of four, for a password that can't be read. For the present one only where the new one is a password.
pub data RefusedBy (text : List ℕ) (why : Refusal) : Type 0 where
  by_30 : why ≡ Refusal.ReplyLong → 1 ≤ colons text → 256 < length text → RefusedBy text why
  by_34 : why ≡ Refusal.TypeUnknown → 1 ≤ colons text → length text ≤ 256 → ((kind : ReplyType) → OfType kind text → ⊥) → RefusedBy text why
  by_35 : why ≡ Refusal.PartsWrong → length text ≤ 256 → (kind : ReplyType) → OfType kind text → (colons text ≡ colons_of kind → ⊥) → RefusedBy text why
  by_plain : colons text ≡ 0 → reading_of text ≡ Err why → RefusedBy text why
  by_login : (kind : ReplyType) (present : List ℕ) → length text ≤ 256 → TwoParts kind text present
      → ReadAs (Err why) kind present → RefusedBy text why
  by_new : (kind : ReplyType) (present parameters new : List ℕ) → length text ≤ 256 → FourParts kind text present parameters new
      → ReadAs (Err why) kind new → RefusedBy text why
  by_present : (kind : ReplyType) (present parameters new : List ℕ) → length text ≤ 256 → FourParts kind text present parameters new
      → (p : ℕ) → OfPassword p kind new → ReadAs (Err why) kind present → RefusedBy text why

-- What a text with a colon is refused with where it is to be plain: 30 over 128 bytes, and 33.
abbrev pub colon_refused : List ℕ → Refusal
colon_refused text = cond (ltb 128 (length text)) Refusal.ReplyLong Refusal.ReplyUnread
