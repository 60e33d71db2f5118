-- `steps` meets its promise: x is as many counts up as there were turns.
use native.Mathlib.Numerals.{add-one}
use Rattle.std.proofs.Common.{ℕ, refl, ap, ◌∙◌}
use Rattle.password.specs.Password.{hash, bytes_of}
use Rattle.generator.specs.Inside.{chained}
use Rattle.generator.proofs.steps.Goals as goal

pub loop-init : goal.loop-init
unfolding chained
loop-init c = refl

pub loop-preserved : goal.loop-preserved
unfolding chained
loop-preserved c = rw add-one (c.step-x.ensures ∙ ap (λ (x : ℕ). hash c.args.algorithm (bytes_of x)) c.loop.invariant)
