-- `token` meets its promise: the stretch of a token's bytes.
use Rattle.challenge.specs.Challenges.{token_at}
use Rattle.challenge.proofs.place.Place.token.Goals as goal

pub returns : goal.returns
unfolding token_at
returns c = c.stretch_at.ensures.0
