-- `walk` meets its promise. The loop's invariant: the places from `i` on are filled, and `x` is what the place before them takes.
use Rattle.std.proofs.Common.{length}
use Rattle.cards.proofs.Climb.{Filled}
use Rattle.cards.proofs.walk.walk.Given as goal

abbrev pub invariant-loop-i : goal.invariant-loop-i
invariant-loop-i l = Filled l.algorithm l.p (length l.initial.ps) l.ps l.x l.i
