-- The next pair.
use Rattle.std.proofs.Common.{arith}
use Rattle.replay.proofs.Paired.{next_paired}
use Rattle.replay.proofs.word_values.pairs.Goals as goal

pub loop-i-preserved : goal.loop-i-preserved
loop-i-preserved c = next_paired _ c.loop-i.word c.loop-i.i (omega arith) c.loop-i.invariant _ _ c.in_ok-high.ensures c.in_ok-low.ensures
