-- 01, Checked examples: replies, with further ones for the rulings on them. One list, and one theorem.
use Prim.Native.String.{String}
use Rattle.std.specs.Prelude.{◌≡◌, refl, Ok, Err}
use mathlib.Core.List.{List, [], ◌∷◌, map, flatten}
use Rattle.refusal.specs.declared.Refusal.{Refusal}
use Rattle.refusal.specs.Answers.{Reading}
use Rattle.text.specs.Tests.{every, same}
use Rattle.text.specs.Scan.{parted, unspaced}
use Rattle.text.specs.Digits.{number_after}
use Rattle.text.specs.Quoted.{codes}
use Rattle.dictionary.specs.Words.{words_in, lines, words}
use Rattle.dictionary.specs.Dictionary.{stands_from, place_of}
use Rattle.sixwords.specs.Places.{pairs, pair_sum, joined, all_places, number_of}
use Rattle.hex_text.specs.Hex.{sixteen_digits, hex_reading}
use Rattle.reply.specs.Reply.{is_word, six_words, marks_of, found_reading, reading_of}

-- a reply and what it says
abbrev pub Example : Type 0
Example = String × Reading

abbrev pub examples : List Example
examples =
    -- marked [P]
    ("85C4 3EE0 3857 765B", Ok 0x85c4_3ee0_3857_765b) ∷
    ("85C4 3EE0 3857 765", Err Refusal.ReplyUnread) ∷
    ("FOWL KID MASH DEAD DUAL OAF", Ok 0x85c4_3ee0_3857_765b) ∷
    ("FOWL KID MASH DEAD DUAL NUT", Err Refusal.PairSumWrong) ∷
    ("FOWL KID MASH DEAD DUAL O", Err Refusal.PairSumWrong) ∷
    ("FOWL KID MASH DEAD DUAL OAK", Err Refusal.PairSumWrong) ∷
    -- either case, and white space anywhere
    (" fowl kid  MASH Dead dUAL oaf ", Ok 0x85c4_3ee0_3857_765b) ∷
    ("85c43EE03 857765b", Ok 0x85c4_3ee0_3857_765b) ∷
    -- unknown words are marked, the second by 2 and the sixth by 32, also where the letters are hex digits; a digit makes no word
    ("FOWL KIDS MASH DEAD DUAL OAFS", Err (Refusal.WordUnknown 34)) ∷
    ("add ace ace bad bad f", Err (Refusal.WordUnknown 32)) ∷
    ("q q q q q q", Err (Refusal.WordUnknown 63)) ∷
    ("FOWL KID MASH DEAD DUAL 0", Err Refusal.ReplyUnread) ∷
    ("FOWL KID MASH DEAD DUAL", Err Refusal.ReplyUnread) ∷
    ("", Err Refusal.ReplyUnread) ∷ []

pub examples_read : map (λ (e : Example). reading_of (codes e.0)) examples ≡ map (λ (e : Example). e.1) examples
unfolding reading_of six_words is_word marks_of found_reading sixteen_digits hex_reading every parted unspaced number_after codes words_in lines
    words flatten same stands_from place_of pairs pair_sum joined all_places number_of
examples_read = refl
