-- The dictionary's laws that rest on the order of its words: the two runs, and that the look-up finds each word at its one place.
-- They stand here, and not in specs/, so that an edit of a word is refused for the order alone.
use Rattle.std.specs.Prelude.{ℕ, zero, suc, ◌+◌, ◌-◌, ◌<◌, ◌≡◌, refl, ◌↔◌, length, get_or, take, drop, Some, None}
use Rattle.std.proofs.Common.{arith, le_of_suc-le-suc, not-suc-le-zero, sym, ◌∙◌, ap, eq-eqb, ne_eqb}
use Rattle.std.proofs.Math.Decide.{dec_lt}
use mathlib.Core.List.{List, [], ◌∷◌}
use Rattle.dictionary.specs.Words.{words}
use Rattle.dictionary.specs.Dictionary.{packed, dictionary, word_at, packed_at, place_from, found_of, place_of, Unknown}
use Rattle.dictionary.specs.Runs.{TwoRuns}
use Rattle.dictionary.specs.Order.{rising_at, in_order_at}
use Rattle.dictionary.specs.Laws.{
  words_count,
  short_in_order,
  long_in_order,
  packed_rising,
  from_first,
  from_second,
  first_count,
  second_count,
  short_at,
  long_at,
  dictionary_count,
  packed_at_lem,
  no_place,
  found_place,
  Spelt,
  packed_injective,
  word_spelt,
  place_packed,
}

-- 01, Six words and hex: the paper's sentence on the two runs, at each place
pub two_runs : TwoRuns words
two_runs =
    record {
      count = words_count;
      short = short_at;
      long = long_at;
      short_rising = λ i j l h.
          rw (from_first j h, from_first i (omega arith)) at
          (in_order_at (take 571 words) short_in_order i j l (rw first_count h));
      long_rising = λ i j k l h.
          rw (from_second j (omega arith), from_second i k) at
          (in_order_at (drop 571 words) long_in_order (i - 571) (j - 571) (omega arith) (rw second_count (omega arith)));
    }

pub packed_order : (i j : ℕ) → i < j → j < 2048 → packed_at i < packed_at j
packed_order i j l h = rising_at 1 dictionary packed_rising i j l (rw dictionary_count h)

pub packed_one_place : (i j : ℕ) → i < 2048 → j < 2048 → packed_at i ≡ packed_at j → i ≡ j
packed_one_place i j h k e = go (dec_lt i j) (dec_lt j i)
  where
    go : Dec (i < j) → Dec (j < i) → i ≡ j
    go (yes l) d = let o = packed_order i j l k in absurd (omega arith)
    go (no l) (yes m) = let o = packed_order j i m h in absurd (omega arith)
    go (no l) (no m) = omega arith

-- a word has one place
pub one_place : (i j : ℕ) → i < 2048 → j < 2048 → word_at i ≡ word_at j → i ≡ j
one_place i j h k e = packed_one_place i j h k (packed_at_lem i ∙ ap packed e ∙ sym (packed_at_lem j))

place_there : (n x : ℕ) (xs : List ℕ) (k : ℕ) → k < length xs → get_or xs k 0 ≡ x → ((j : ℕ) → j < k → get_or xs j 0 ≡ x → ⊥) →
    place_from n x xs ≡ Some (n + k)
unfolding place_from
place_there n x [] k h e f = absurd (not-suc-le-zero h)
place_there n x (y ∷ ys) zero h e f = rw (eq-eqb x y (sym e)) (ap Some (omega arith))
place_there n x (y ∷ ys) (suc k) h e f =
    rw (ne_eqb x y (λ p. f zero (omega arith) (sym p)))
    (place_there (suc n) x ys k (le_of_suc-le-suc h) e (λ j l. f (suc j) (omega arith)) ∙ ap Some (omega arith))

-- the look-up finds a word at its place, and nothing else
pub at_place : (i : ℕ) → i < 2048 → found_of (packed_at i) ≡ Some i
unfolding found_of
at_place i h =
    place_there 0 (packed_at i) dictionary i (rw dictionary_count h) refl
    (λ j l e. let o = packed_order j i l h in omega arith) ∙
    ap Some (omega arith)

pub found_exactly : (x i : ℕ) → (found_of x ≡ Some i) ↔ ((i < 2048) × (packed_at i ≡ x))
found_exactly x i = (found_place x i, (λ h. ap found_of (sym h.1) ∙ at_place i h.0))

-- a word of one to four letters is found at a place exactly if it stands there
pub found_word : (w : List ℕ) → Spelt w → (i : ℕ) → (place_of w ≡ Some i) ↔ ((i < 2048) × (word_at i ≡ w))
found_word w s i = (there, found)
  where
    there : place_of w ≡ Some i → (i < 2048) × (word_at i ≡ w)
    there e =
        let r = found_place (packed w) i (place_packed w s ∙ e) in
        (r.0, packed_injective (word_at i) w (word_spelt i r.0) s (sym (packed_at_lem i) ∙ r.1))

    found : (i < 2048) × (word_at i ≡ w) → place_of w ≡ Some i
    found h = sym (place_packed w s) ∙ ap found_of (ap packed (sym h.1) ∙ sym (packed_at_lem i)) ∙ at_place i h.0

-- and is not found exactly if it stands nowhere
pub unknown_word : (w : List ℕ) → Spelt w → (place_of w ≡ None) ↔ Unknown w
unknown_word w s = (nowhere, unknown)
  where
    nowhere : place_of w ≡ None → Unknown w
    nowhere e i h f =
        let there = (found_word w s i).1 (h, f) in
        let z : ◌≡◌ {A = ℕ} 0 1 = cc in
        omega arith

    unknown : Unknown w → place_of w ≡ None
    unknown f =
        sym (place_packed w s) ∙ no_place (packed w)
        (λ i h e. f i h (packed_injective (word_at i) w (word_spelt i h) s (sym (packed_at_lem i) ∙ e)))
