-- `next_word` meets its promise: past the word, and past the white space after it.
use Prim.Native.Nat.{ℕ, ◌+◌, ◌≤◌}
use mathlib.Core.Path.{◌≡◌, ◌∙◌, ap}
use native.Mathlib.Omega.{arith}
use lib.ListN.{length, drop}
use Rattle.text.specs.Kinds.{is_white, is_solid}
use Rattle.text.specs.Scan.{run_of}
use Rattle.text.specs.ScanLaws.{run_ends_within}
use Rattle.extended.specs.Parameters.{word_after}
use Rattle.extended.specs.Laws.{word_within}
use Rattle.extended.proofs.parameters.next_word.Goals as goal
use Rattle.extended.proofs.parameters.next_word.Goals.{After-run, After-run-2}

end_within : (c : After-run) → c.args.at + c.run.result ≤ length c.args.part.now
end_within c = rw c.run.ensures (run_ends_within is_solid c.args.part.now c.args.at c.requires)

reached : (c : After-run-2) → c.args.at + c.run.result + c.run-2.result
    ≡ word_after c.args.part.now c.args.at
unfolding word_after
reached c =
    let a = c.args in
    ap (λ (k : ℕ). a.at + c.run.result + k) c.run-2.ensures
    ∙ ap (λ (n : ℕ). a.at + n + run_of is_white (drop (a.at + n) a.part.now)) c.run.ensures

within : (c : After-run-2) → c.args.at + c.run.result + c.run-2.result
    ≤ length c.args.part.now
within c =
    omega (arith, reached c, word_within c.args.part.now c.args.at c.requires)

pub overflow_add-end : goal.overflow_add-end
overflow_add-end c = omega (arith, end_within (goal.at.overflow_add-end c).After-run)

pub overflow_add-result : goal.overflow_add-result
overflow_add-result c = omega (arith, within (goal.at.overflow_add-result c).After-run-2)

pub returns : goal.returns
returns c = (reached (goal.at.returns c).After-run-2, within (goal.at.returns c).After-run-2)
