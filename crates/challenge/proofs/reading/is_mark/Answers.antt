-- `is_mark` meets its promise.
use Rattle.std.proofs.Common.{◌∙◌, ap₂, Bool, ◌||◌}
use Rattle.text.specs.Quoted.{codes}
use Rattle.challenge.specs.Challenges.{is_mark}
use Rattle.challenge.proofs.Prefixes.{starts_same}
use Rattle.challenge.proofs.reading.is_mark.Goals as goal

pub returns : goal.returns
unfolding is_mark codes
returns c = ap₂ (λ (a b : Bool). a || b) c.same.ensures (c.starts_with.ensures.value ∙ starts_same c.args.t.now (codes "ext,"))
