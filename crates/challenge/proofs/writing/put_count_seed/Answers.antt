-- `put_count_seed` meets its promise: the count and the space, then the seed into the rest.
use native.Mathlib.Omega.{arith}
use Rattle.text.specs.CountLaws.{length_count}
use Rattle.challenge.proofs.writing.put_count_seed.Goals as goal

pub put_seed-requires : goal.put_seed-requires
put_seed-requires c = omega (arith, length_count c.args.count 32)
