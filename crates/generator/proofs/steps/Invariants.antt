-- `steps` meets its promise: x is as many counts up as there were turns.
use Rattle.std.proofs.Common.{◌≡◌}
use Rattle.generator.specs.Inside.{chained}
use Rattle.generator.proofs.steps.Given as goal

abbrev pub invariant-loop : goal.invariant-loop
invariant-loop l = l.x ≡ chained l.algorithm l.counter l.p
