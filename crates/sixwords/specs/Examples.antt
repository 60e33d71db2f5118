-- Document 01, 'Checked examples', on numbers and places.
use Rattle.std.specs.Prelude.{ℕ, ◌%◌, ◌≡◌, refl, List, [], ◌∷◌, map, Option, Some, None}
use Rattle.sixwords.specs.Places.{pairs, pair_sum, whole, cut, places_of, joined, all_places, number_of}

-- what an example shows: six places, a pair sum with its remainder by 4, or what six places are read as
pub data Shown : Type 0 where
  places : List ℕ → Shown
  sum : ℕ → ℕ → Shown
  read : Option ℕ → Shown

-- the places of 85c43ee03857765b, FOWL KID MASH DEAD DUAL, and then a last one
abbrev pub fowl : ℕ → List ℕ
fowl last = 1070 ∷ 271 ∷ 1472 ∷ 901 ∷ 955 ∷ last ∷ []

-- what the definitions give, and what the paper prints
unfoldable pub examples : List (Shown × Shown)
examples =
    (places (places_of 0), places (0 ∷ 0 ∷ 0 ∷ 0 ∷ 0 ∷ 0 ∷ [])) ∷
    (places (places_of 1), places (0 ∷ 0 ∷ 0 ∷ 0 ∷ 0 ∷ 5 ∷ [])) ∷
    (places (places_of 0xffff_ffff_ffff_ffff), places (2047 ∷ 2047 ∷ 2047 ∷ 2047 ∷ 2047 ∷ 2044 ∷ [])) ∷
    (sum (pair_sum 0x85c4_3ee0_3857_765b) (pair_sum 0x85c4_3ee0_3857_765b % 4), sum 46 2) ∷
    (places (places_of 0x85c4_3ee0_3857_765b), places (fowl 366)) ∷
    (read (number_of (fowl 366)), read (Some 0x85c4_3ee0_3857_765b)) ∷
    (read (number_of (fowl 364)), read None) ∷
    (read (number_of (fowl 365)), read None) ∷
    (read (number_of (fowl 367)), read None) ∷
    (read (number_of (fowl 2048)), read None) ∷ []

pub examples_hold : map (λ e. e.0) examples ≡ map (λ e. e.1) examples
unfolding examples pairs pair_sum whole cut places_of joined all_places number_of
examples_hold = refl
