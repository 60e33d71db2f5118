-- `following` meets its promise: the array is a ring that holds sixteen words of the schedule.
use Rattle.sha1_hash.proofs.Scheduled.{Ring}
use Rattle.sha1_hash.proofs.schedule.following.Given as goal

abbrev pub invariant-loop-t : goal.invariant-loop-t
invariant-loop-t l = Ring l.initial.w l.w l.t
