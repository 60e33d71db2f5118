-- The pairs so far are bytes at the front, and the others still stand where they stood.
use Rattle.replay.proofs.Paired.{Paired}
use Rattle.replay.proofs.word_values.pairs.Given as goal

abbrev pub invariant-loop-i : goal.invariant-loop-i
invariant-loop-i l = Paired l.initial.word l.word l.i
