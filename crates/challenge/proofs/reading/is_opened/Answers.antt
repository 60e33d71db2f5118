-- `is_opened` meets its promise.
use Rattle.std.proofs.Common.{◌∙◌}
use Rattle.text.specs.Quoted.{codes}
use Rattle.challenge.specs.Challenges.{opening}
use Rattle.challenge.proofs.Prefixes.{starts_same}
use Rattle.challenge.proofs.reading.is_opened.Goals as goal

pub returns : goal.returns
unfolding opening codes
returns c = c.starts_with.ensures.value ∙ starts_same c.args.text.now opening
