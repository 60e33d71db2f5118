-- The ticks still to pass before a port is in front of its line, at most: no quiet call raises them, and each tick lowers them.
use Prim.Native.Nat.{ℕ, suc, ◌+◌, ◌*◌, ◌≤◌, zero-le, suc-le-suc}
use native.Mathlib.Omega.{arith}
use Rattle.std.proofs.Common.{le_refl, sym, ◌∙◌, true≢false, eqb-true, eq-eqb}
use Rattle.std.specs.Prelude.{◌≡◌, Bool, ◌||◌}
use Rattle.std.proofs.Math.Path.{refl, ap}
use Rattle.std.proofs.Math.Bool.{true, false, cond}
use mathlib.Core.List.{List, [], ◌∷◌, ◌++◌}
use Rattle.std.proofs.lemmas.Bool.{eqb-false}
use Rattle.std.proofs.Math.Dec.{eqb}
use Rattle.std.proofs.Math.ListN.{length}
use Rattle.line.specs.Line.{of_port, some, start, turn_joined, others, turn_without}

-- How many stand before the port.
unfoldable pub ahead : ℕ → List ℕ → ℕ
ahead p [] = 0
ahead p (x ∷ l) = cond (of_port p x) 0 (suc (ahead p l))

-- What is left of the turn, and 60 ticks for each port between.
unfoldable pub wait_of : ℕ → List ℕ → ℕ → ℕ
wait_of p [] turn = 0
wait_of p (x ∷ l) turn = cond (of_port p x) 0 (turn + 60 * ahead p l)

module _ (p : ℕ) where
  -- ---- another port leaves

  -- It isn't both ports.
  not_both : (port x : ℕ) → eqb port p ≡ false → eqb x port ≡ true → eqb x p ≡ true → ⊥
  not_both port x n e f = eqb-false port p n (sym (eqb-true x port e) ∙ eqb-true x p f)

  -- The port stays, and no more stand before it.
  pub still_others : (port : ℕ) → eqb port p ≡ false → (l : List ℕ) → some (of_port p) l ≡ true
      → (some (of_port p) (others (of_port port) l) ≡ true) × (ahead p (others (of_port port) l) ≤ ahead p l)
  unfolding some others ahead
  still_others port n [] h = absurd (true≢false (sym h))
  still_others port n (x ∷ l) h = by (eqb x port) (eqb x p) refl refl h (still_others port n l)
    where
      by : (t u : Bool) → eqb x port ≡ t → eqb x p ≡ u → (u || some (of_port p) l) ≡ true
          → (some (of_port p) l ≡ true → (some (of_port p) (others (of_port port) l) ≡ true) × (ahead p (others (of_port port) l) ≤ ahead p l))
          → (some (of_port p) (cond t (others (of_port port) l) (x ∷ others (of_port port) l)) ≡ true)
          × (ahead p (cond t (others (of_port port) l) (x ∷ others (of_port port) l)) ≤ cond u 0 (suc (ahead p l)))
      by true true e f h ih = absurd (not_both port x n e f)
      by true false e f h ih = let below = (ih h).1 in ((ih h).0, omega arith)
      by false true e f h ih = (rw f, rw f zero-le)
      by false false e f h ih = (rw f (ih h).0, rw f (suc-le-suc (ih h).1))

  -- Where a turn begins, the wait is 60 ticks for each that stands before the port, at most.
  pub wait_start : (l : List ℕ) → wait_of p l (start l) ≤ 60 * ahead p l
  unfolding ahead wait_of
  wait_start [] = zero-le
  wait_start (x ∷ l) = by (of_port p x)
    where
      by : (u : Bool) → cond u 0 (60 + 60 * ahead p l) ≤ 60 * cond u 0 (suc (ahead p l))
      by true = zero-le
      by false = omega arith

  -- It waits no longer than before.
  pub wait_others : (port : ℕ) → eqb port p ≡ false → (l : List ℕ) (turn : ℕ) → some (of_port p) l ≡ true
      → wait_of p (others (of_port port) l) (turn_without (of_port port) l turn) ≤ wait_of p l turn
  unfolding some others turn_without wait_of
  wait_others port n [] turn h = zero-le
  wait_others port n (x ∷ l) turn h = by (eqb x port) (eqb x p) refl refl h
    where
      by : (t u : Bool) → eqb x port ≡ t → eqb x p ≡ u → (u || some (of_port p) l) ≡ true
          → wait_of p (cond t (others (of_port port) l) (x ∷ others (of_port port) l)) (cond t (start (others (of_port port) l)) turn)
          ≤ cond u 0 (turn + 60 * ahead p l)
      by true true e f h = absurd (not_both port x n e f)
      by true false e f h =
          let below = (still_others port n l h).1 in
          omega (arith, wait_start (others (of_port port) l))
      by false true e f h = rw f zero-le
      by false false e f h =
          let below = (still_others port n l h).1 in
          rw f (omega arith)

  -- ---- a port comes behind

  -- As many stand before it.
  ahead_append : (l : List ℕ) (port : ℕ) → some (of_port p) l ≡ true → ahead p (l ++ port ∷ []) ≡ ahead p l
  unfolding some ahead
  ahead_append [] port h = absurd (true≢false (sym h))
  ahead_append (x ∷ l) port h = by (of_port p x) h (ahead_append l port)
    where
      by : (u : Bool) → (u || some (of_port p) l) ≡ true → (some (of_port p) l ≡ true → ahead p (l ++ port ∷ []) ≡ ahead p l)
          → cond u 0 (suc (ahead p (l ++ port ∷ []))) ≡ cond u 0 (suc (ahead p l))
      by true h ih = refl
      by false h ih = ap suc (ih h)

  -- It waits no longer than before.
  pub wait_append : (l : List ℕ) (port turn : ℕ) → some (of_port p) l ≡ true → wait_of p (l ++ port ∷ []) (turn_joined l turn) ≤ wait_of p l turn
  unfolding some wait_of
  wait_append [] port turn h = absurd (true≢false (sym h))
  wait_append (x ∷ l) port turn h = by (of_port p x) h
    where
      by : (u : Bool) → (u || some (of_port p) l) ≡ true
          → cond u 0 (turn + 60 * ahead p (l ++ port ∷ [])) ≤ cond u 0 (turn + 60 * ahead p l)
      by true h = zero-le
      by false h = rw (ahead_append l port h) (le_refl _)

  -- At the back of a line, with so many before it.
  ahead_back : (l : List ℕ) → ahead p (l ++ p ∷ []) ≤ length l
  unfolding ahead
  ahead_back [] = rw (eq-eqb p p refl) zero-le
  ahead_back (x ∷ l) = by (of_port p x) (ahead_back l)
    where
      by : (u : Bool) → ahead p (l ++ p ∷ []) ≤ length l → cond u 0 (suc (ahead p (l ++ p ∷ []))) ≤ suc (length l)
      by true ih = zero-le
      by false ih = suc-le-suc ih

  -- 60 ticks for each of them, at most.
  pub wait_back : (l : List ℕ) (turn : ℕ) → turn ≤ 60 → wait_of p (l ++ p ∷ []) turn ≤ 60 * length l
  unfolding wait_of
  wait_back [] turn k = rw (eq-eqb p p refl) zero-le
  wait_back (x ∷ l) turn k = by (of_port p x)
    where
      by : (u : Bool) → cond u 0 (turn + 60 * ahead p (l ++ p ∷ [])) ≤ 60 * suc (length l)
      by true = zero-le
      by false = omega (arith, ahead_back l)
