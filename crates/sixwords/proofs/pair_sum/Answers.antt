-- `pair_sum` meets its promise.
use Rattle.sixwords.proofs.PairSum.{sum_of_ones}
use Rattle.sixwords.proofs.pair_sum.Goals as goal

pub returns : goal.returns
returns c = sum_of_ones c.args.p c.ranges.p.fits
