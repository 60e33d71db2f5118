-- 01, Checked examples: a password as it is written; and 02, R-6 and R-7: what texts of replies are read to.
use Prim.Native.String.{String}
use Rattle.std.specs.Prelude.{◌≡◌, refl, Result, Err}
use mathlib.Core.List.{List, [], ◌∷◌, map, flatten}
use Rattle.refusal.specs.declared.Refusal.{Refusal}
use Rattle.text.specs.Tests.{every, same}
use Rattle.text.specs.Scan.{run_of, parted, unspaced}
use Rattle.text.specs.Digits.{digits_of, number_after}
use Rattle.text.specs.Counts.{is_count}
use Rattle.text.specs.Quoted.{codes}
use Rattle.dictionary.specs.Words.{words_in, lines, words}
use Rattle.dictionary.specs.Dictionary.{stands_from, place_of}
use Rattle.sixwords.specs.Places.{pairs, pair_sum, whole, cut, places_of, joined, all_places, number_of}
use Rattle.hex_text.specs.Hex.{hex_of, sixteen_digits, hex_reading}
use Rattle.sixwords.specs.Spelling.{spaced_from, words_of}
use Rattle.password.specs.Algorithm.{algorithm_name}
use Rattle.reply.specs.Reply.{is_word, six_words, marks_of, found_reading, six_reading, reading_of}
use Rattle.extended.specs.declared.reply_texts.ReplyText.{ReplyText}
use Rattle.extended.specs.ReplyTypes.{type_name}
use Rattle.extended.specs.Parameters.{word_at, word_after, trimmed, parameters_of}
use Rattle.extended.specs.ReplyTexts.{part_at, present_at, parameters_at, new_at, colons, password_by, renewal_in}
use Rattle.extended.specs.ReplyTexts.{typed_in, layout_checked, extended_of, said_in, reply_text_of, a_login, a_renewal}

pub parity_words : words_of 0x85c4_3ee0_3857_765b ≡ codes "FOWL KID MASH DEAD DUAL OAF"
unfolding spaced_from places_of cut whole pairs pair_sum codes words_in lines words flatten
parity_words = refl

pub parity_hex : hex_of 0x85c4_3ee0_3857_765b ≡ codes "85c43ee03857765b"
unfolding digits_of codes
parity_hex = refl

-- 02, R-6 and R-7: what texts are read to; the first is RFC 2243's own example.
abbrev pub Example : Type 0
Example = String × Result ReplyText Refusal

abbrev pub examples : List Example
examples = (
  "init-hex:5bf0 75d9 959d 036f:md5 499 ke1235:3712 dcb4 aa53 16c1",
  a_renewal 1 499 37 6 0x3712_dcb4_aa53_16c1 0x5bf0_75d9_959d_036f,
) ∷
    ("hex:85C4 3EE0 3857 765B", a_login 0x85c4_3ee0_3857_765b) ∷
    ("word:fowl kid  MASH Dead dUAL oaf", a_login 0x85c4_3ee0_3857_765b) ∷
    -- the type decides how a part is read, and an empty part is there
    ("hex:FOWL KID MASH DEAD DUAL OAF", Err Refusal.ReplyUnread) ∷
    ("word:85C4 3EE0 3857 765B", Err Refusal.ReplyUnread) ∷
    ("word:FOWL KIDS MASH DEAD DUAL OAFS", Err (Refusal.WordUnknown 34)) ∷
    ("hex:", Err Refusal.ReplyUnread) ∷
    -- types are compared whole and in lower case
    ("HEX:85C4 3EE0 3857 765B", Err Refusal.TypeUnknown) ∷
    (" hex:85C4 3EE0 3857 765B", Err Refusal.TypeUnknown) ∷
    (":85C4 3EE0 3857 765B:", Err Refusal.TypeUnknown) ∷
    ("hex:85C4 3EE0 3857 765B:", Err Refusal.PartsWrong) ∷
    ("init-hex:5bf0 75d9 959d 036f:md5 499 ke1235", Err Refusal.PartsWrong) ∷
    -- what is missing, no count, or no algorithm reads as 0, and 0 and 1 as they are; what follows the count is the seed, of any length
    ("init-hex:5bf075d9959d036f::3712dcb4aa5316c1", a_renewal 0 0 0 0 0x3712_dcb4_aa53_16c1 0x5bf0_75d9_959d_036f) ∷
    ("init-hex:5bf075d9959d036f:md5 0499 ke 1:3712dcb4aa5316c1", a_renewal 1 0 35 4 0x3712_dcb4_aa53_16c1 0x5bf0_75d9_959d_036f) ∷
    ("init-hex:5bf075d9959d036f: MD5 1 :3712dcb4aa5316c1", a_renewal 0 1 0 0 0x3712_dcb4_aa53_16c1 0x5bf0_75d9_959d_036f) ∷
    ("init-hex:5bf075d9959d036f:sha1 0 SeventeenLettersA:3712dcb4aa5316c1", a_renewal 2 0 33 17 0x3712_dcb4_aa53_16c1 0x5bf0_75d9_959d_036f) ∷
    -- the new password's refusal before the present one's
    ("init-word:FOWL KIDS MASH DEAD DUAL OAF::FOWL KID MASH DEAD DUAL OAFS", Err (Refusal.WordUnknown 32)) ∷
    ("init-hex:5bf0:sha1 499 ke1235:3712 dcb4 aa53 16c1", Err Refusal.ReplyUnread) ∷
    ("FOWL KID MASH DEAD DUAL OAF", a_login 0x85c4_3ee0_3857_765b) ∷ []

pub examples_read : map (λ (e : Example). reply_text_of (codes e.0)) examples ≡ map (λ (e : Example). e.1) examples
unfolding reply_text_of said_in extended_of layout_checked typed_in renewal_in password_by parameters_of type_name part_at present_at parameters_at new_at
    colons
    word_at word_after trimmed algorithm_name is_count run_of reading_of six_reading six_words is_word marks_of found_reading sixteen_digits hex_reading
    every parted
    unspaced number_after codes words_in lines words flatten same stands_from place_of pairs pair_sum joined all_places number_of
examples_read = refl
