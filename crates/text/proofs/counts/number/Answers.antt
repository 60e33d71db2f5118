-- `number` meets its promise: one digit more.
use Rattle.std.proofs.Common.{sym, ◌∙◌, ap, arith, drop_of_length-le}
use Rattle.text.specs.Digits.{number_after}
use Rattle.text.proofs.counts.CountNumbers.{digit_here, few, one_more}
use Rattle.text.proofs.counts.number.Goals as goal

pub overflow_mul-n : goal.overflow_mul-n
overflow_mul-n c = omega (arith, few _ _ _ c.loop-d.invariant.0 c.loop-d-test.true c.requires.0)

pub overflow_sub-d : goal.overflow_sub-d
overflow_sub-d c = (digit_here _ _ _ _ c.loop-d-test.true c.loop-d.invariant).0

pub loop-d-preserved : goal.loop-d-preserved
loop-d-preserved c = one_more _ _ _ _ _ c.loop-d-test.true c.from.ensures c.loop-d.invariant

pub returns : goal.returns
unfolding number_after
returns c =
    let at = c.loop-d in
    let t = c.args.t.now in
    sym (at.invariant.1 ∙ ap (number_after 10 at.n) (drop_of_length-le t c.loop-d-test.false))
