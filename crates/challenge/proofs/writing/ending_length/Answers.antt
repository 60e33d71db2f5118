-- `ending_length` meets its promise: by whether there is the mark.
use mathlib.Core.Path.{sym, ap}
use mathlib.Core.Bool.{Bool}
use lib.ListN.{length}
use Rattle.text.specs.Quoted.{codes}
use Rattle.challenge.specs.Challenges.{ending}
use Rattle.challenge.proofs.writing.ending_length.Goals as goal

pub returns-then-ext : goal.returns-then-ext
unfolding ending codes
returns-then-ext c = sym (ap (λ (b : Bool). length (ending b)) c.if-ext.true)

pub returns-else-ext : goal.returns-else-ext
unfolding ending codes
returns-else-ext c = sym (ap (λ (b : Bool). length (ending b)) c.if-ext.false)
