-- 02, R-2: "a mark for each of the six, set exactly where that word isn't in the dictionary", said of a number m, word by word.
use Rattle.std.specs.Prelude.{ℕ, ◌-◌, ◌/◌, ◌%◌, ◌^◌, ◌≤◌, ◌≡◌, ◌↔◌, List, [], get_or}
use Rattle.dictionary.specs.Dictionary.{Unknown}

-- m is the marks of six words, given as the dictionary prints words: at least one mark is set, there are none but the six, and for k
-- from 1 to 6 bit k - 1 of m is set exactly where word k isn't in the dictionary.
pub record Marked (ws : List (List ℕ)) (m : ℕ) : Type 0 where
  pub some_set : 1 ≤ m
  pub of_six : m ≤ 63
  pub exactly : (k : ℕ) → 1 ≤ k → k ≤ 6 → (m / 2 ^ (k - 1) % 2 ≡ 1) ↔ Unknown (get_or ws (k - 1) [])
