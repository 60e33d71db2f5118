-- `joined` meets its promise. The loop's invariant: the places so far are joined in `whole`.
use Rattle.sixwords.proofs.Six.{Joined}
use Rattle.sixwords.proofs.joined.Given as goal

abbrev pub invariant-loop-place : goal.invariant-loop-place
invariant-loop-place l = Joined l.places l.whole l.place-index
