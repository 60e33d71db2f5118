-- `joined` meets its promise.
use Rattle.std.proofs.Common.{arith, ◌∙◌, sym}
use Rattle.sixwords.proofs.Six.{place_joined, place_at, six_joined, few_joined}
use Rattle.sixwords.proofs.joined.Goals as goal

pub overflow_mul-whole : goal.overflow_mul-whole
overflow_mul-whole c = omega (arith, few_joined c.loop-place.whole c.loop-place.place-index c.loop-place.invariant.0 (omega arith))

pub loop-place-preserved : goal.loop-place-preserved
loop-place-preserved c =
    let at = c.loop-place in
    let places = c.args.places.now in
    place_joined places at.whole at.place-index (omega arith) at.invariant
    (place_at places at.place-index (omega arith) (sym at.invariant.2 ∙ c.requires))

pub returns : goal.returns
returns c = six_joined c.args.places.now c.loop-place.whole c.loop-place.place-index c.told-places (omega arith) c.loop-place.invariant
