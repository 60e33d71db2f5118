-- A stretch of bytes that pass a test, and the bytes past it: how far it goes, and what stands where it ends.
use Rattle.std.specs.Prelude.{ℕ, suc, ◌+◌, ◌≤◌, ◌≡◌, refl, Bool, true, false, cond, List, [], ◌∷◌, ◌++◌, length, take, drop}
use Rattle.std.proofs.Common.{sym, ◌∙◌, ap, ap₂, arith, take-append-drop, drop-drop}
use Rattle.std.proofs.Math.Seq.{take-append_seam, drop-append_seam}
use Rattle.text.specs.Tests.{every, both}
use Rattle.text.specs.Scan.{run_of, stretch}
use Rattle.text.specs.ScanLaws.{run_every}
use Rattle.readback.specs.LaidOut.{Run}

-- bytes that pass the test, before others of which the first doesn't, or before nothing
run_before : (test : ℕ → Bool) (t rest : List ℕ) → every test t ≡ true → run_of test rest ≡ 0 → run_of test (t ++ rest) ≡ length t
unfolding every run_of
run_before test [] rest e z = z
run_before test (b ∷ t) rest e z =
    let halves = both (test b) (every test t) e in
    ap (λ (k : Bool). cond k (suc (run_of test (t ++ rest))) 0) halves.0 ∙ ap suc (run_before test t rest halves.1 z)

-- past a run nothing of its kind comes next
run_over : (test : ℕ → Bool) (s : List ℕ) → run_of test (drop (run_of test s) s) ≡ 0
unfolding run_of
run_over test [] = refl
run_over test (b ∷ s) = by (test b) refl (run_over test s)
  where
    by : (k : Bool) → test b ≡ k → run_of test (drop (run_of test s) s) ≡ 0 → run_of test (drop (cond k (suc (run_of test s)) 0) (b ∷ s)) ≡ 0
    by true e over = over
    by false e over = ap (λ (k : Bool). cond k (suc (run_of test s)) 0) e

-- bytes of another kind end a run at once
pub run_stops : (test other : ℕ → Bool) → ((b : ℕ) → other b ≡ true → test b ≡ false)
    → (t rest : List ℕ) → every other t ≡ true → 1 ≤ length t → run_of test (t ++ rest) ≡ 0
unfolding every run_of
run_stops test other f [] rest e h = absurd (omega arith)
run_stops test other f (b ∷ t) rest e h =
    ap (λ (k : Bool). cond k (suc (run_of test (t ++ rest))) 0) (f b (both (other b) (every other t) e).0)

pub run_of_lem : (test : ℕ → Bool) (s : List ℕ) → Run test s (take (run_of test s) s) (drop (run_of test s) s)
run_of_lem test s = record { laid = sym (take-append-drop (run_of test s) s); all = run_every test s; over = run_over test s }

-- those that start at a place
module _ (test : ℕ → Bool) (s : List ℕ) (at : ℕ) (t rest : List ℕ) (r : Run test (drop at s) t rest) where
  pub run_there : run_of test (drop at s) ≡ length t
  run_there = ap (run_of test) r.laid ∙ run_before test t rest r.all r.over

  pub stretch_there : stretch test s at ≡ t
  stretch_there = ap₂ (λ (k : ℕ) (l : List ℕ). take k l) run_there r.laid ∙ take-append_seam t rest

  pub past_there : drop (at + run_of test (drop at s)) s ≡ rest
  past_there =
      sym (drop-drop (run_of test (drop at s)) at s)
      ∙ ap₂ (λ (k : ℕ) (l : List ℕ). drop k l) run_there r.laid
      ∙ drop-append_seam t rest
