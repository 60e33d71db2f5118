-- Document 01, 'Checked examples': those marked [P], one list and one theorem.
use Rattle.std.specs.Prelude.{ℕ, ◌%◌, ◌≡◌, refl}
use mathlib.Core.List.{List, [], ◌∷◌, ◌++◌, map, flatten}
use Rattle.refusal.specs.declared.Listing.{Listing}
use Rattle.refusal.specs.Numbers.{unrefused, reading_numbers}
use Rattle.text.specs.Tests.{every}
use Rattle.text.specs.Scan.{run_of, parted, unspaced}
use Rattle.text.specs.Digits as Digits
use Rattle.text.specs.Quoted.{codes}
use Rattle.password.specs.PhraseAndSeed.{plain}
use Rattle.dictionary.specs.Words.{words_in, lines, words}
use Rattle.dictionary.specs.Dictionary.{stands_from, place_of}
use Rattle.sixwords.specs.Places.{pairs, pair_sum, whole, cut, places_of, joined, all_places, number_of}
use Rattle.text.specs.Counts.{is_count}
use Rattle.password.specs.Algorithm.{algorithm_name}
use Rattle.challenge.specs.Challenges.{opening, token_at, next_at, count_at, seed_at, is_mark, has_mark, used_by, challenge_of, challenge_numbers, seed_of}
use Rattle.text.specs.Tests.{same}
use Rattle.hex_text.specs.Hex.{sixteen_digits, hex_reading}
use Rattle.reply.specs.Reply.{is_word, six_words, marks_of, found_reading, reading_of}

-- What an example asks for: the places of a number, its pair sum, what a challenge says, or a reply.
pub data Asked : Type 0 where
  places_for : ℕ → Asked
  sum_for : ℕ → Asked
  challenge_for : List ℕ → Asked
  reply_for : List ℕ → Asked

-- What it prints: places, a pair sum with its remainder by 4, the numbers of a challenge with its seed, or those of a reading.
pub data Said : Type 0 where
  places : List ℕ → Said
  sum : ℕ → ℕ → Said
  challenge : Listing × ℕ × ℕ × ℕ × ℕ × ℕ × ℕ → List ℕ → Said
  reply : Listing × ℕ → Said

-- What the definitions say.
abbrev pub said : Asked → Said
said (Asked.places_for p) = places (places_of p)
said (Asked.sum_for p) = sum (pair_sum p) (pair_sum p % 4)
said (Asked.challenge_for text) = challenge (challenge_numbers (challenge_of text)) (seed_of text)
said (Asked.reply_for text) = reply (reading_numbers (reading_of text))

abbrev pub newline : List ℕ
newline = 10 ∷ []

-- A refusal by its number: of a challenge, of a reply. A reply's password.
abbrev pub unread : ℕ → Said
unread n = challenge (record { 0 = n; 1 = 0 }, 0, 0, 0, 0, 0, 0) []

abbrev pub refused : ℕ → Said
refused n = reply (record { 0 = n; 1 = 0 }, 0)

abbrev pub password : ℕ → Said
password p = reply (unrefused, p)

-- 85c43ee03857765b
abbrev pub printed : ℕ
printed = 0x85c4_3ee0_3857_765b

abbrev pub examples : List (Asked × Said)
examples =
    (places_for 0, places (0 ∷ 0 ∷ 0 ∷ 0 ∷ 0 ∷ 0 ∷ [])) ∷
    (places_for 1, places (0 ∷ 0 ∷ 0 ∷ 0 ∷ 0 ∷ 5 ∷ [])) ∷
    (places_for 0xffff_ffff_ffff_ffff, places (2047 ∷ 2047 ∷ 2047 ∷ 2047 ∷ 2047 ∷ 2044 ∷ [])) ∷
    (sum_for printed, sum 46 2) ∷
    (places_for printed, places (1070 ∷ 271 ∷ 1472 ∷ 901 ∷ 955 ∷ 366 ∷ [])) ∷
    (reply_for (codes "FOWL KID MASH DEAD DUAL OAF"), password printed) ∷
    (reply_for (codes "FOWL KID MASH DEAD DUAL NUT"), refused 32) ∷
    (reply_for (codes "FOWL KID MASH DEAD DUAL O"), refused 32) ∷
    (reply_for (codes "FOWL KID MASH DEAD DUAL OAK"), refused 32) ∷
    (challenge_for (codes "otp-md5 487 dog2" ++ newline), challenge (unrefused, 1, 487, 12, 4, 17, 0) (codes "dog2")) ∷
    (challenge_for (codes "otp-md5 487 dog2"), unread 25) ∷
    (challenge_for (codes "otp-md5 0487 dog2" ++ newline), unread 22) ∷
    (challenge_for (codes "otp-md5 1 SixteenLettersAA" ++ newline), challenge (unrefused, 1, 1, 10, 16, 27, 0) (codes "SixteenLettersAA")) ∷
    (challenge_for (codes "otp-md5 1 SeventeenLettersA" ++ newline), unread 23) ∷
    (challenge_for (codes "otp-md5 1 Length_Okay" ++ newline), unread 24) ∷
    (reply_for (codes "85C4 3EE0 3857 765B"), password printed) ∷
    (reply_for (codes "85C4 3EE0 3857 765"), refused 33) ∷ []

pub examples_hold : map (λ (e : Asked × Said). said e.0) examples ≡ map (λ (e : Asked × Said). e.1) examples
unfolding codes run_of Digits.number_after every plain is_count opening algorithm_name same token_at next_at count_at seed_at is_mark has_mark used_by
    challenge_of
    reading_of six_words is_word marks_of found_reading sixteen_digits hex_reading parted unspaced words_in lines words flatten stands_from place_of
    pairs pair_sum whole cut places_of joined all_places number_of
examples_hold = refl
