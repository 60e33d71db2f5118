-- `walk` meets its promise.
use Rattle.std.proofs.Common.{arith}
use Rattle.cards.proofs.Climb.{one_more}
use Rattle.cards.proofs.walk.walk.Goals as goal

pub loop-i-preserved : goal.loop-i-preserved
loop-i-preserved c =
    one_more _ _ _ c.loop-i.ps _ _ _ (omega arith) (omega arith) (omega arith) c.step-x.ensures c.loop-i.invariant
