-- The loop's invariant: the buffer has the first `i` bytes of `t`, and then its own.
use Rattle.std.proofs.Common.{◌≡◌, ◌++◌, length, take, drop}
use Rattle.text.proofs.put.copy.Given as goal

abbrev pub invariant-loop-i : goal.invariant-loop-i
invariant-loop-i l = (length l.buf ≡ length l.initial.buf) × (l.buf ≡ take l.i l.t ++ drop l.i l.initial.buf)
