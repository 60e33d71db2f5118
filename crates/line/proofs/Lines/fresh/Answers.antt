-- `fresh` meets its promise: nobody waits.
use mathlib.Core.Path.{refl}
use Rattle.line.specs.Line.{ports_for, turn_for}
use Rattle.line.proofs.Lines.fresh.Goals as goal

pub returns : goal.returns
unfolding ports_for turn_for
returns c = refl
