-- A number has six places, each below 2,048.
use Rattle.std.specs.Prelude.{ℕ, ◌/◌, ◌%◌, ◌^◌, ◌≡◌, refl, true, List, [], ◌∷◌, length}
use Rattle.std.proofs.Common.{arith, lt-ltb}
use Rattle.sixwords.specs.Places.{whole, cut, places_of, all_places}

-- a list of six
pub data Six : List ℕ → Type 0 where
  six : (a b c d e f : ℕ) → Six (a ∷ b ∷ c ∷ d ∷ e ∷ f ∷ [])

pub six_of_lem : (s : List ℕ) → length s ≡ 6 → Six s
six_of_lem [] n = absurd (omega arith)
six_of_lem (a ∷ []) n = absurd (omega arith)
six_of_lem (a ∷ b ∷ []) n = absurd (omega arith)
six_of_lem (a ∷ b ∷ c ∷ []) n = absurd (omega arith)
six_of_lem (a ∷ b ∷ c ∷ d ∷ []) n = absurd (omega arith)
six_of_lem (a ∷ b ∷ c ∷ d ∷ e ∷ []) n = absurd (omega arith)
six_of_lem (a ∷ b ∷ c ∷ d ∷ e ∷ f ∷ []) n = six a b c d e f
six_of_lem (a ∷ b ∷ c ∷ d ∷ e ∷ f ∷ g ∷ s) n = absurd (omega arith)

-- 66 bits are cut into places
pub cut_count : (w : ℕ) → length (cut w) ≡ 6
unfolding cut
cut_count w = refl

pub cut_places : (w : ℕ) → all_places (cut w) ≡ true
unfolding cut all_places
cut_places w =
    simp (
      lt-ltb (w / 2 ^ 55 % 2 ^ 11) 2048 (omega arith),
      lt-ltb (w / 2 ^ 44 % 2 ^ 11) 2048 (omega arith),
      lt-ltb (w / 2 ^ 33 % 2 ^ 11) 2048 (omega arith),
      lt-ltb (w / 2 ^ 22 % 2 ^ 11) 2048 (omega arith),
      lt-ltb (w / 2 ^ 11 % 2 ^ 11) 2048 (omega arith),
      lt-ltb (w % 2 ^ 11) 2048 (omega arith),
    )

pub places_count : (p : ℕ) → length (places_of p) ≡ 6
unfolding places_of
places_count p = cut_count (whole p)

pub places_all : (p : ℕ) → all_places (places_of p) ≡ true
unfolding places_of
places_all p = cut_places (whole p)
