-- 02, R-6 and R-7, for texts: when a challenge has the mark; a written extended reply is read back as the same one; what the text of a reply is read to
-- is told exactly, for every text, and so is what it is refused for; and plain texts are read as before. No table is looked at: what is done with what was
-- read is in ExtendedReplies.
use Rattle.std.specs.Prelude.{ℕ, ◌+◌, ◌^◌, ◌≤◌, ◌<◌, ◌≡◌, Bool, true, false, List, [], map, ◌↔◌, ◌⊎◌, length, take, Ok, Err}
use Rattle.refusal.specs.declared.Refusal.{Refusal}
use Rattle.text.specs.Scan.{tokens, unspaced}
use Rattle.text.specs.Digits.{number_of}
use Rattle.text.specs.Counts.{is_count, decimal_of}
use Rattle.text.specs.Put.{leaves}
use Rattle.password.specs.declared.algorithm.Algorithm.{Algorithm}
use Rattle.password.specs.Algorithm.{algorithm_number, algorithm_name, numbered, named, algorithm_in}
use Rattle.challenge.specs.Challenges.{challenge_of, a_challenge}
use Rattle.hex_text.specs.Hex.{sixteen_digits}
use Rattle.reply.specs.Reply.{six_words, upper_text, reading_of}
use Rattle.reply.specs.Marked.{Marked}
use Rattle.extended.specs.declared.reply_types.ReplyType.{ReplyType}
use Rattle.extended.specs.ReplyTypes.{type_name, type_number, is_init, is_hex}
use Rattle.extended.specs.Parameters.{name_number, count_in}
use Rattle.extended.specs.ReplyTexts.{colons, colons_of, password_by, with_read, reply_text_of, a_login, a_renewal}
use Rattle.extended.specs.ReplyWriting.{extended_text, renewal_checked, text_by_numbers, extended_written}
use Rattle.readback.specs.LaidOut.{
  MarkBehind,
  OfType,
  TwoParts,
  FourParts,
  OfPassword,
  ReadAs,
  Spaced,
  RenewalParts,
  SaysRenewal,
  Says,
  Between,
  SumRefused,
  most_bytes,
  RefusedBy,
}
use Rattle.readback.specs.MarkMeaning as Marks
use Rattle.readback.specs.ParametersRead as Parameters
use Rattle.readback.specs.PartMeaning as Parts
use Rattle.readback.specs.ExtendedMeaning as Meaning
use Rattle.readback.specs.TextRefusals as Refusals
use Rattle.readback.specs.RenewalMeaning as Renewals
use Rattle.readback.specs.ExtendedRead as Laws

-- ---- the mark of a challenge

-- "set when the next token on the seed's line is `ext`, alone or with a comma list, and is ended as a seed is": of every challenge that is read, with a
-- seed of l bytes at s, exactly if that stands behind the seed.
pub mark_exactly : (algorithm : Algorithm) (count s l used : ℕ) (ext : Bool) (text : List ℕ)
    → challenge_of text ≡ a_challenge algorithm count s l used ext → (ext ≡ true) ↔ MarkBehind text (s + l)
mark_exactly = Marks.read_marked

-- "the bytes used then include it", up to and with the byte that ends it; without a mark they end with the byte that ends the seed.
pub used_with_the_mark : (algorithm : Algorithm) (count s l used : ℕ) (ext : Bool) (text : List ℕ)
    → challenge_of text ≡ a_challenge algorithm count s l used ext → ext ≡ true → (m : MarkBehind text (s + l))
    → used ≡ s + l + length m.blanks + length m.token + 1
used_with_the_mark = Marks.used_marked

pub used_without : (algorithm : Algorithm) (count s l used : ℕ) (ext : Bool) (text : List ℕ)
    → challenge_of text ≡ a_challenge algorithm count s l used ext → ext ≡ false → used ≡ s + l + 1
used_without = Marks.used_unmarked

-- ---- written and read back

-- "A written extended reply reads back as the same one": what the writer put at the front of a buffer, for every type, all passwords and all
-- counts, seeds and algorithms that it takes, is read to this password and, for `init` types, to these values and this new password.
pub extended_read_back : (type password number count : ℕ) (seed : List ℕ) (new : ℕ) → password < 2 ^ 64 → new < 2 ^ 64 → (b b' : List ℕ) (n : ℕ)
    → Ok n ≡ extended_written type password number count seed new (length b)
    → b' ≡ leaves (Ok n) (text_by_numbers type password number count seed new) b
    → (kind : ReplyType) × (type_number kind ≡ type) × Says kind password number count seed new (take n b')
extended_read_back type password number count seed new h k b b' n = Laws.extended_read_back type password number count seed new b b' n h k

-- Two replies of a type that are written alike are one.
pub written_alike : (kind : ReplyType) (p number count : ℕ) (seed : List ℕ) (new p' number' count' : ℕ) (seed' : List ℕ) (new' : ℕ)
    → p < 2 ^ 64 → new < 2 ^ 64 → renewal_checked kind number count seed ≡ Ok tt
    → p' < 2 ^ 64 → new' < 2 ^ 64 → renewal_checked kind number' count' seed' ≡ Ok tt
    → extended_text kind p (algorithm_in (numbered number)) count seed new ≡ extended_text kind p' (algorithm_in (numbered number')) count' seed' new'
    → (p ≡ p') × (is_init kind ≡ true → (number ≡ number') × (count ≡ count') × (seed ≡ seed') × (new ≡ new'))
written_alike = Laws.written_alike

-- "at most 96 bytes"
pub extended_length : (kind : ReplyType) (password number count : ℕ) (seed : List ℕ) (new : ℕ) → renewal_checked kind number count seed ≡ Ok tt
    → length (extended_text kind password (algorithm_in (numbered number)) count seed new) ≤ 96
extended_length = Laws.extended_length

-- ---- plain texts

-- "A text with a colon is an extended reply ..; others are plain": without a colon a text is read as it was before, to a password or to a refusal.
pub plain_says_as_before : (text : List ℕ) → colons text ≡ 0 → reply_text_of text ≡ with_read (reading_of text) a_login
plain_says_as_before = Meaning.plain_read

-- "Renew's text stays plain; a colon gives 33", behind 30.
pub colon_is_33 : (text : List ℕ) → 1 ≤ colons text → length text ≤ 128 → reading_of text ≡ Err Refusal.ReplyUnread
colon_is_33 = Meaning.colon_is_33

-- ---- 30, 34, 35

-- 30: "of at most 256 bytes"; a plain one of at most 128, as before.
pub long_text : (text : List ℕ) → (reply_text_of text ≡ Err Refusal.ReplyLong) ↔ (most_bytes text < length text)
long_text = Refusals.long_text

-- 34, "after 30": the text starts with no type's name and a colon.
pub type_unknown : (text : List ℕ) → (reply_text_of text ≡ Err Refusal.TypeUnknown)
    ↔ ((1 ≤ colons text) × (length text ≤ 256) × ((kind : ReplyType) → OfType kind text → ⊥))
type_unknown = Refusals.type_unknown

-- 35: it starts with one, and has another number of colons than replies of that type.
pub parts_wrong : (text : List ℕ) → (reply_text_of text ≡ Err Refusal.PartsWrong)
    ↔ ((length text ≤ 256) × (kind : ReplyType) × OfType kind text × (colons text ≡ colons_of kind → ⊥))
parts_wrong = Refusals.parts_wrong

-- ---- and then 31 to 33

-- A text of two parts is refused exactly as its password is, whose refusals are told below,
pub login_refused : (kind : ReplyType) (text present : List ℕ) → length text ≤ 256 → TwoParts kind text present → (why : Refusal)
    → (reply_text_of text ≡ Err why) ↔ ReadAs (Err why) kind present
login_refused = Refusals.login_refused

-- and one of four as the new one is, and where that is a password as the present one is: "31 to 33 for the new password, then for the present one. Of the
-- parameters it refuses nothing", whatever they are.
pub renewal_refused : (kind : ReplyType) (text present parameters new : List ℕ) → length text ≤ 256 → FourParts kind text present parameters new
    → (why : Refusal) → (reply_text_of text ≡ Err why)
    ↔ (ReadAs (Err why) kind new ⊎ ((p : ℕ) × OfPassword p kind new × ReadAs (Err why) kind present))
renewal_refused = Refusals.renewal_refused

-- "30, 34, 35, then 31 to 33 for the new password, then for the present one": every text that is refused is so in one of these cases, and for no other
-- reason.
pub text_refused : (text : List ℕ) (why : Refusal) → (reply_text_of text ≡ Err why) ↔ RefusedBy text why
text_refused = Refusals.text_refused

-- "Refusals: none new": reading gives 30 to 35 alone. (Offer gives none of these: Demand1, `offer_refuses_no_text`.)
pub none_but_30_to_35 : (text : List ℕ) (why : Refusal) → reply_text_of text ≡ Err why → Between 30 35 why
none_but_30_to_35 = Refusals.refused_why

-- ---- accepted

-- "reading a text to a password": a text with a colon is read to a login of a password exactly if it is the name of `hex` or `word`, a colon and a part
-- that is that password.
pub login_accepted : (text : List ℕ) → 1 ≤ colons text → (p : ℕ) → (reply_text_of text ≡ a_login p)
    ↔ ((kind : ReplyType) × (present : List ℕ) × (length text ≤ 256) × TwoParts kind text present × OfPassword p kind present)
login_accepted = Meaning.login_accepted

-- "An `init` text reads to two passwords and its new values": a text is read to a renewal with these values and passwords exactly if it is made of the
-- four parts, which say them.
pub renewal_accepted : (text : List ℕ) (number count : ℕ) (seed : List ℕ) (new present : ℕ)
    → SaysRenewal text number count seed new present ↔ RenewalParts text number count seed (OfPassword new) (OfPassword present)
renewal_accepted = Renewals.renewal_accepted

-- "Of the parameters it refuses nothing": of the four parts, with two passwords, it is read to a renewal whatever the parameters are. They are a name, a
-- word and a seed, each of which may be missing.
pub parameters_refuse_nothing : (kind : ReplyType) (text present parameters new : List ℕ) → length text ≤ 256
    → FourParts kind text present parameters new → (q p : ℕ) → OfPassword q kind new → OfPassword p kind present
    → (name word seed : List ℕ) × Spaced parameters name word seed × SaysRenewal text (name_number (named name)) (count_in word) seed q p
parameters_refuse_nothing = Renewals.parameters_refuse_nothing

-- "an unknown algorithm reads as 0",
pub algorithm_read : ((algorithm : Algorithm) → name_number (named (algorithm_name algorithm)) ≡ algorithm_number algorithm)
    × ((name : List ℕ) → ((algorithm : Algorithm) → name ≡ algorithm_name algorithm → ⊥) → name_number (named name) ≡ 0)
algorithm_read = (Parameters.name_read, Parameters.name_unknown)

-- "a count that is no one to four digits without a leading zero as 0, any other as the number it is, 0 and 1 too",
pub count_read : ((word : List ℕ) → is_count word ≡ false → count_in word ≡ 0) × ((word : List ℕ) → is_count word ≡ true → count_in word ≡ number_of 10 word)
    × ((n : ℕ) → n ≤ 9999 → count_in (decimal_of n) ≡ n)
count_read = (Parameters.count_unread, Parameters.count_number, Parameters.count_read)

-- and "the seed as the part of the caller's text where it stands, of any length", which lies within the text. "Where there is no seed, the part is the
-- empty one at the start of the text."
pub seed_stands_within : (text : List ℕ) (number count start len new present : ℕ)
    → reply_text_of text ≡ a_renewal number count start len new present → (start + len ≤ length text) × (len ≡ 0 → start ≡ 0)
seed_stands_within = Renewals.seed_stands_within

-- and which part that is: the one behind the count. `Spaced` has the white space around the name and the count.
pub seed_stands_there : (kind : ReplyType) (text present parameters new : List ℕ) → length text ≤ 256 → FourParts kind text present parameters new
    → (name word seed : List ℕ) (s : Spaced parameters name word seed) → 1 ≤ length seed
    → (number count start len q p : ℕ) → reply_text_of text ≡ a_renewal number count start len q p
    → start ≡ length (type_name kind) + length present + 2 + (length s.white + length name + length s.white₁ + length word + length s.white₂)
seed_stands_there = Renewals.seed_stands_there

-- "A missing one is empty": it is read as 0, which is no algorithm's number, and which 51 refuses as a count. Without a name there is no count either,
-- and without a count no seed.
pub missing_is_empty : (name_number (named []) ≡ 0) × (count_in [] ≡ 0)
missing_is_empty = Parameters.missing_said

pub nothing_behind_a_missing_one : (part name count seed : List ℕ)
    → (Spaced part [] count seed → count ≡ []) × (Spaced part name [] seed → seed ≡ [])
nothing_behind_a_missing_one part name count seed = (Parameters.name_missing part count seed, Parameters.count_missing part name seed)

-- A part is a password exactly if it is written with it, apart from case and white space: in hex for `hex` types, in words for the others.
pub part_accepted : (kind : ReplyType) (part : List ℕ) (p : ℕ) → (password_by kind part ≡ Ok p) ↔ OfPassword p kind part
part_accepted = Parts.part_accepted

-- ---- 33, 31 and 32 of a part

-- "33 also where the text isn't of its type"
pub hex_part_refused : (kind : ReplyType) (part : List ℕ) → is_hex kind ≡ true → (why : Refusal)
    → (password_by kind part ≡ Err why) ↔ ((sixteen_digits (unspaced part) ≡ false) × (why ≡ Refusal.ReplyUnread))
hex_part_refused = Parts.hex_part_refused

pub word_part_unread : (kind : ReplyType) (part : List ℕ) → is_hex kind ≡ false
    → (password_by kind part ≡ Err Refusal.ReplyUnread) ↔ (six_words (tokens part) ≡ false)
word_part_unread = Parts.word_part_unread

-- 31 by the marks of R-2, as for plain replies
pub word_part_unknown : (kind : ReplyType) (part : List ℕ) → is_hex kind ≡ false → six_words (tokens part) ≡ true
    → (m : ℕ) → (password_by kind part ≡ Err (Refusal.WordUnknown m)) ↔ Marked (map upper_text (tokens part)) m
word_part_unknown = Parts.word_part_unknown

-- and 32
pub word_part_sum : (kind : ReplyType) (part : List ℕ) → is_hex kind ≡ false → six_words (tokens part) ≡ true
    → (password_by kind part ≡ Err Refusal.PairSumWrong) ↔ SumRefused (map upper_text (tokens part))
word_part_sum = Parts.word_part_sum
