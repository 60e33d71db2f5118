-- `number` meets its promise. The loop's invariant: the number so far, continued by the digits left, is the whole.
use Rattle.text.specs.Digits.{number_of}
use Rattle.text.proofs.counts.CountNumbers.{Reading}
use Rattle.text.proofs.counts.number.Given as goal

abbrev pub invariant-loop-d : goal.invariant-loop-d
invariant-loop-d l = Reading l.t (number_of 10 l.t) l.n l.d-index
