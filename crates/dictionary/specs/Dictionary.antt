-- The word at a place of the dictionary and the place of a word in it; then the same of words packed into numbers.
use Rattle.std.specs.Prelude.{ℕ, suc, ◌+◌, ◌*◌, ◌-◌, ◌/◌, ◌%◌, ◌^◌, ◌<◌, ◌≡◌, cond, List, [], ◌∷◌, map, eqb, ltb, length, get_or, Option, Some, None}
use Rattle.text.specs.Tests.{same}
use Rattle.dictionary.specs.Words.{words}

-- 01, Six words and hex: "the place of a word in RFC 2289 Appendix D, places 0 to 2,047"; no letters from 2,048 on
abbrev pub word_at : ℕ → List ℕ
word_at i = get_or words i []

-- where a word first stands in a list whose places count from i
unfoldable pub stands_from : ℕ → List ℕ → List (List ℕ) → Option ℕ
stands_from i w [] = None
stands_from i w (v ∷ vs) = cond (same w v) (Some i) (stands_from (suc i) w vs)

-- the place of a word, if it is in the dictionary
unfoldable pub place_of : List ℕ → Option ℕ
place_of w = stands_from 0 w words

-- a word that stands at no place
abbrev pub Unknown : List ℕ → Type 0
Unknown w = (i : ℕ) → i < 2048 → word_at i ≡ w → ⊥

-- ---- packed words, in which the table of the code is

-- the number whose digits to base 256 are those of v and then cs
unfoldable pub number_from : ℕ → List ℕ → ℕ
number_from v [] = v
number_from v (c ∷ cs) = number_from (v * 256 + c) cs

-- A word as one number, its letters as digits to base 256, filled up with zeros to three. Words of one to three letters are
-- so below 2 ^ 24 and those of four above it: the paper's two runs are one.
unfoldable pub packed : List ℕ → ℕ
packed w = number_from 0 w * 256 ^ (3 - length w)

-- three digits without the zeros at their end
unfoldable pub unfilled : ℕ → ℕ → ℕ → List ℕ
unfilled a b c = cond (eqb b 0) (a ∷ []) (cond (eqb c 0) (a ∷ b ∷ []) (a ∷ b ∷ c ∷ []))

-- the letters of a packed word: its three digits to base 256 below 2 ^ 24, without the zeros at the end, and four from there
unfoldable pub letters_of : ℕ → List ℕ
letters_of v =
    cond (ltb v (2 ^ 24))
    (unfilled (v / 65536) (v / 256 % 256) (v % 256))
    (v / 16777216 ∷ v / 65536 % 256 ∷ v / 256 % 256 ∷ v % 256 ∷ [])

unfoldable pub dictionary : List ℕ
dictionary = map packed words

-- the packed word at a place; 0 from 2,048 on
abbrev pub packed_at : ℕ → ℕ
packed_at i = get_or dictionary i 0

-- where x first stands in a list whose places count from i
unfoldable pub place_from : ℕ → ℕ → List ℕ → Option ℕ
place_from i x [] = None
place_from i x (y ∷ ys) = cond (eqb x y) (Some i) (place_from (suc i) x ys)

-- the place of a packed word
unfoldable pub found_of : ℕ → Option ℕ
found_of x = place_from 0 x dictionary
