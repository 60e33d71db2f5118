-- `write` meets its promise: 21, and behind it the writer by the algorithm.
use Rattle.std.specs.Prelude.{Option, Err}
use mathlib.Core.Path.{sym, ap, ◌∙◌}
use Prim.Native.Nat.{ℕ}
use mathlib.Core.Bool.{false}
use mathlib.Core.List.{List}
use lib.ListN.{length}
use Rattle.refusal.specs.Answers.{Written}
use Rattle.refusal.specs.Laws.{missing, present, passed_on}
use Rattle.text.specs.Put.{leaves}
use Rattle.text.specs.PutLaws.{refused_leaves}
use Rattle.password.specs.declared.algorithm.Algorithm.{Algorithm}
use Rattle.password.specs.Algorithm.{algorithm_in}
use Rattle.password.specs.AlgorithmLaws.{unknown_refused, known_done}
use Rattle.challenge.specs.Challenges.{challenge_text, challenge_written_by, challenge_written}
use Rattle.challenge.proofs.writing.write.Goals as goal

pub returns-in_err-known : goal.returns-in_err-known
unfolding challenge_written
returns-in_err-known c =
    let a = c.args in
    let by : Algorithm → Written = λ algorithm. challenge_written_by false algorithm a.seed.now a.count (length a.buf.now) in
    let none = missing _ _ _ (sym c.ok_or.ensures.value ∙ c.in_err-known.was) in
    let refused = passed_on _ _ c.from_residual.ensures.1 ∙ ap Err (sym none.1) in record {
      answered = refused ∙ unknown_refused Err by _ (sym c.numbered.ensures ∙ none.0);
      left = refused_leaves _ _ _ _ refused;
    }

pub returns : goal.returns
unfolding challenge_written
returns c =
    let a = c.args in
    let by : Algorithm → Written = λ algorithm. challenge_written_by false algorithm a.seed.now a.count (length a.buf.now) in
    let known = sym c.numbered.ensures ∙ present _ _ _ (sym c.ok_or.ensures.value ∙ c.in_ok-known.was) in
    let left : Option Algorithm → List ℕ = λ n. leaves c.write_by.result (challenge_text false (algorithm_in n) a.seed.now a.count) a.buf.now in
    record { answered = c.write_by.ensures.answered ∙ known_done Err by _ _ known; left = c.write_by.ensures.left ∙ ap left (sym known) }
