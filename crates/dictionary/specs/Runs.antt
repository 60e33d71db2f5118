-- 01, Six words and hex: "the 2,048 words stand in two strictly rising runs".
use Rattle.std.specs.Prelude.{ℕ, ◌≤◌, ◌<◌, ◌≡◌, Bool, true, false, cond, List, [], ◌∷◌, T, eqb, ltb, length, get_or}

-- a word stands before another in the alphabet: the first letter that differs decides, and a word's beginning is before it
abbrev pub before : List ℕ → List ℕ → Bool
before [] [] = false
before [] (y ∷ ys) = true
before (x ∷ xs) [] = false
before (x ∷ xs) (y ∷ ys) = cond (eqb x y) (before xs ys) (ltb x y)

-- "places 0 to 570 have one to three letters, 571 to 2,047 have four", and each run is strictly rising
pub record TwoRuns (words : List (List ℕ)) : Type 0 where
  pub count : length words ≡ 2048
  pub short : (i : ℕ) → i < 571 → (1 ≤ length (get_or words i [])) × (length (get_or words i []) ≤ 3)
  pub long : (i : ℕ) → 571 ≤ i → i < 2048 → length (get_or words i []) ≡ 4
  pub short_rising : (i j : ℕ) → i < j → j < 571 → T (before (get_or words i []) (get_or words j []))
  pub long_rising : (i j : ℕ) → 571 ≤ i → i < j → j < 2048 → T (before (get_or words i []) (get_or words j []))
