-- `put_count_and` meets its promise: as many digits as the count has, then the byte past them.
use native.Mathlib.Omega.{arith}
use Rattle.text.specs.Put.{Put}
use Rattle.text.specs.PutLaws.{then_byte}
use Rattle.text.specs.Counts.{decimal_of}
use Rattle.text.specs.CountLaws.{length_decimal}
use Rattle.text.proofs.counts.put_count_and.Goals as goal
use Rattle.text.proofs.counts.put_count_and.Goals.{After-spell-a}

counted : (c : After-spell-a) →
    let a = c.args in
    Put (decimal_of a.n) a.buf.now c.spell-a.new.buf c.spell-a.result
counted c = rw (c.width.ensures, c.from.ensures) at c.spell-a.ensures

pub bounds-buf-a : goal.bounds-buf-a
bounds-buf-a c = omega (arith, (counted (goal.at.bounds-buf-a c).After-spell-a).0, length_decimal c.args.n)

pub returns : goal.returns
returns c =
    let a = c.args in
    then_byte (decimal_of a.n) a.buf.now _ _ a.last (omega (arith, (counted (goal.at.returns c).After-spell-a).0, length_decimal a.n))
    (counted (goal.at.returns c).After-spell-a)
