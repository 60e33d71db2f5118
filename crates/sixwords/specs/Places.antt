-- 01, Six words and hex: a 64-bit number as six places of the dictionary, and back.
use Rattle.std.specs.Prelude.{ℕ, zero, suc, ◌+◌, ◌*◌, ◌/◌, ◌%◌, ◌^◌, Bool, true, cond, ◌&&◌, List, [], ◌∷◌, eqb, ltb, Option, Some, None}

-- the last n pairs of p's bits, added
unfoldable pub pairs : ℕ → ℕ → ℕ
pairs zero p = 0
pairs (suc n) p = p % 4 + pairs n (p / 4)

-- "Cut it into 32 pairs of bits and add the pairs"
unfoldable pub pair_sum : ℕ → ℕ
pair_sum p = pairs 32 p

-- "the sum modulo 4 is put after the 64 bits as two bits": the 66 bits
unfoldable pub whole : ℕ → ℕ
whole p = p * 4 + pair_sum p % 4

-- "The 66 bits are six 11-bit numbers, most significant first"
unfoldable pub cut : ℕ → List ℕ
cut w =
    w / 2 ^ 55 % 2 ^ 11 ∷
    w / 2 ^ 44 % 2 ^ 11 ∷
    w / 2 ^ 33 % 2 ^ 11 ∷
    w / 2 ^ 22 % 2 ^ 11 ∷
    w / 2 ^ 11 % 2 ^ 11 ∷
    w % 2 ^ 11 ∷ []

-- the six places of a number
unfoldable pub places_of : ℕ → List ℕ
places_of p = cut (whole p)

-- the bits of v, and then 11 bits for each place
unfoldable pub joined : ℕ → List ℕ → ℕ
joined v [] = v
joined v (a ∷ s) = joined (v * 2 ^ 11 + a) s

-- each place is one of 0 to 2,047
unfoldable pub all_places : List ℕ → Bool
all_places [] = true
all_places (a ∷ s) = ltb a 2048 && all_places s

-- The number in front of 66 bits, if its pair sum stands after it. A place from 2,048 on, which no word has, is answered
-- as a wrong sum.
unfoldable pub number_of : List ℕ → Option ℕ
number_of s =
    let w = joined 0 s in
    cond (all_places s && eqb (pair_sum (w / 4) % 4) (w % 4)) (Some (w / 4)) None
