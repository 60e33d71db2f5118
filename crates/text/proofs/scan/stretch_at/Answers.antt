-- `stretch_at` meets its promise: the run from that place on.
use Prim.Native.Nat.{ℕ, ◌+◌, ◌-◌, ◌≤◌}
use mathlib.Core.Path.{◌≡◌, ap}
use mathlib.Core.Bool.{Bool}
use mathlib.Core.List.{List}
use native.Mathlib.Omega.{arith}
use lib.ListN.{length, take, drop}
use Rattle.text.specs.Kinds.{of_kind}
use Rattle.text.specs.Scan.{run_of, stretch}
use Rattle.text.specs.ScanLaws.{run_ends_within}
use Rattle.text.proofs.scan.stretch_at.Goals as goal
use Rattle.text.proofs.scan.stretch_at.Goals.{After-run}

within : (c : After-run) → c.args.at + c.run.result ≤ length c.args.s.now
within c =
    let a = c.args in
    rw c.run.ensures (run_ends_within (of_kind a.kind) a.s.now a.at c.requires)

cut : (test : ℕ → Bool) (s : List ℕ) (at n : ℕ) → n ≡ run_of test (drop at s) → take (at + n - at) (drop at s) ≡ stretch test s at
cut test s at n e =
    let back : at + n - at ≡ run_of test (drop at s) = omega arith in
    ap (λ (k : ℕ). take k (drop at s)) back

pub overflow_add-end : goal.overflow_add-end
overflow_add-end c = omega (arith, within (goal.at.overflow_add-end c).After-run)

pub slice_bounds-result-end : goal.slice_bounds-result-end
slice_bounds-result-end c = omega (arith, within (goal.at.slice_bounds-result-end c).After-run)
