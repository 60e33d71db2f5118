-- `part` meets its promise: nothing past the end, and the stretch up to a colon before it.
use mathlib.Core.Path.{sym}
use native.Mathlib.Omega.{arith}
use Rattle.extended.specs.ReplyTexts.{part_at}
use Rattle.extended.specs.Laws.{part_past}
use Rattle.extended.proofs.parts.part.Goals as goal

pub returns-then-text-at : goal.returns-then-text-at
returns-then-text-at c =
    let a = c.args in
    sym (part_past a.text.now a.at (omega (arith, c.if-text-at.true)))

pub returns : goal.returns
unfolding part_at
returns c = c.stretch_at.ensures.0
