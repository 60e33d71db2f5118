-- `values_in` meets its promise: the words one after the other, and what follows the count.
use Prim.Native.Nat.{ℕ, ◌-◌, ◌≤◌}
use mathlib.Core.Path.{◌≡◌, ◌∙◌, ap}
use mathlib.Core.List.{List}
use native.Mathlib.Omega.{arith}
use lib.ListN.{length, drop, length-drop}
use lib.Seq.{take_all}
use Rattle.text.specs.Kinds.{is_white}
use Rattle.text.specs.ScanLaws.{run_within}
use Rattle.password.specs.Algorithm.{named}
use Rattle.extended.specs.Parameters as spec
use Rattle.extended.proofs.parameters.values_in.Goals as goal
use Rattle.extended.proofs.parameters.values_in.Goals.{After-run-name_at}

name_within : (c : After-run-name_at) → c.run-name_at.result ≤ length c.args.part.now
name_within c = omega (arith, c.run-name_at.ensures, run_within is_white c.args.part.now)

pub next_word-count_at-requires : goal.next_word-count_at-requires
next_word-count_at-requires c = name_within (goal.at.next_word-count_at-requires c).After-run-name_at

pub stretch_at-requires : goal.stretch_at-requires
stretch_at-requires c = name_within (goal.at.stretch_at-requires c).After-run-name_at

pub returns : goal.returns
unfolding spec.parameters_of spec.word_at
returns c =
    let part = c.args.part.now in
    let name : c.run-name_at.result ≡ spec.name_at part = c.run-name_at.ensures in
    let count : c.next_word-count_at.result ≡ spec.count_after part = c.next_word-count_at.ensures.0 ∙ ap (spec.word_after part) name in
    let start : c.next_word-start.result ≡ spec.seed_after part = c.next_word-start.ensures.0 ∙ ap (spec.word_after part) count in
    let algorithm =
    c.algorithm_number-algorithm.ensures
    ∙ ap (λ (t : List ℕ). spec.name_number (named t)) (c.stretch_at.ensures.0 ∙ ap (spec.word_at part) name) in
    let counts = c.count_in-count.ensures ∙ ap spec.count_in (c.stretch_at-2.ensures.0 ∙ ap (spec.word_at part) count) in
    let behind = c.next_word-start.result in
    let rest = take_all (length part - behind) (drop behind part) (omega (arith, length-drop behind part)) in
    let len = c.trimmed.ensures.0 ∙ ap spec.trimmed (rest ∙ ap (λ (k : ℕ). drop k part) start) in
    λ i. record { algorithm = algorithm i; count = counts i; start = start i; len = len i }
