-- `generate` meets its promise: 21, and behind it the generator by the algorithm.
use Rattle.std.specs.Prelude.{Err}
use Rattle.std.proofs.Common.{sym, ap, ◌∙◌}
use Rattle.refusal.specs.Answers.{Reading}
use Rattle.refusal.specs.Laws.{missing, present, passed_on}
use Rattle.password.specs.declared.algorithm.Algorithm.{Algorithm}
use Rattle.password.specs.AlgorithmLaws.{unknown_refused, known_done}
use Rattle.password.specs.Password.{generated_by, generated}
use Rattle.generator.proofs.generate.Goals as goal

pub returns-in_err-known : goal.returns-in_err-known
unfolding generated
returns-in_err-known c =
    let a = c.args in
    let by : Algorithm → Reading = λ algorithm. generated_by algorithm a.phrase.now a.seed.now a.count in
    let none = missing _ _ _ (sym c.ok_or.ensures.value ∙ c.in_err-known.was) in
    passed_on _ _ c.from_residual.ensures.1 ∙ ap Err (sym none.1) ∙ unknown_refused Err by _ (sym c.numbered.ensures ∙ none.0)

pub returns : goal.returns
unfolding generated
returns c =
    let a = c.args in
    let by : Algorithm → Reading = λ algorithm. generated_by algorithm a.phrase.now a.seed.now a.count in
    let known = present _ _ _ (sym c.ok_or.ensures.value ∙ c.in_ok-known.was) in
    c.generate_by.ensures
    ∙ known_done Err by _ _ (sym c.numbered.ensures ∙ known)
