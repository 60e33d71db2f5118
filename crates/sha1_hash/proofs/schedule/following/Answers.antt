-- `following` meets its promise: the array is a ring that holds sixteen words of the schedule.
use borrow.Author.Rules.{rules}
use Rattle.sha1_hash.proofs.Scheduled.{ring_starts, ring_goes_on, ring_ends}
use Rattle.sha1_hash.proofs.schedule.following.Goals as goal

pub loop-t-init : goal.loop-t-init
loop-t-init c = ring_starts _ (search rules)

pub loop-t-preserved : goal.loop-t-preserved
loop-t-preserved c = ring_goes_on c.loop-t.invariant _ c.loop-t-test.true c.rotated.ensures

pub returns : goal.returns
returns c = ring_ends c.loop-t.invariant c.loop-t-test.false
