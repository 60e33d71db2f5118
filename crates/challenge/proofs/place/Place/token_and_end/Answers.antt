-- `token_and_end` meets its promise: a token ends within the text.
use Rattle.std.proofs.Common.{ap, length, arith}
use Rattle.challenge.specs.Laws.{token_within}
use Rattle.challenge.proofs.place.Place.token_and_end.Goals as goal

pub invariant_of-result : goal.invariant_of-result
invariant_of-result c =
    let a = c.args.self in
    record { within = omega (arith, ap length c.token-token.ensures, token_within a.text.now a.at a.within) }
