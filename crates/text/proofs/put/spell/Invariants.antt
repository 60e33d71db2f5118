-- The loop's invariant: the digits left to write, before what lies from `i` on, make the text and what lies past it.
use Rattle.std.proofs.Common.{◌≡◌, ◌++◌, length, drop}
use Rattle.text.specs.Digits.{digits_of}
use Rattle.text.proofs.put.spell.Given as goal

abbrev pub invariant-loop-i : goal.invariant-loop-i
invariant-loop-i l =
    (length l.buf ≡ length l.initial.buf)
    × (digits_of l.base l.k l.n ++ drop l.k l.initial.buf ≡ digits_of l.base l.i l.rest ++ drop l.i l.buf)
