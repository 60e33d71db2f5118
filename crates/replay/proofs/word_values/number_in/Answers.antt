-- A number that is too large before its next digit is added.
use Rattle.std.proofs.Common.{◌+◌, ◌*◌, ◌<◌, arith, ◌∙◌}
use Rattle.replay.proofs.WordsScanned.{large_next}
use Rattle.replay.proofs.word_values.number_in.Goals as goal

pub returns-in_err-checked_mul : goal.returns-in_err-checked_mul
returns-in_err-checked_mul c =
    let over : c.args.most < c.loop-b.n * c.args.base + c.in_ok-d.d = omega (arith, c.in_err-checked_mul.ensures) in
    c.from_residual-in_err-checked_mul.ensures ∙ large_next _ _ _ _ _ c.loop-b.invariant.1 c.loop-b-test.true _ c.in_ok-d.ensures c.requires.1 over
