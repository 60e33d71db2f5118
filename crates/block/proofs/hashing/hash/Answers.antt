-- `hash` meets its promise: the blocks before j are taken in.
use Rattle.std.proofs.Common.{length, ◌≡◌, ◌∙◌, ap, ap₂, arith}
use native.Mathlib.Numerals.{add-one}
use Rattle.digests.specs.declared.Order.{Order}
use Rattle.digests.specs.Padding.{blocks, block_at, absorbed}
use Rattle.digests.specs.Hash.{taken_in}
use Rattle.block.proofs.hashing.hash.Goals as goal

pub loop-j-init : goal.loop-j-init
unfolding absorbed
loop-j-init g c = c.initial-h.ensures

pub loop-j-preserved : goal.loop-j-preserved
unfolding absorbed
loop-j-preserved g c =
    let kept = g.H.Words.Words.kept in
    rw add-one (c.compress-h.ensures
    ∙ ap₂ (taken_in kept g.H.HashFunction.steps)
    (c.block.ensures ∙ ap (λ (o : Order). block_at o c.args.m.now c.loop-j.j) c.order.ensures) c.loop-j.invariant)

pub returns : goal.returns
returns g c =
    let kept = g.H.Words.Words.kept in
    let all : c.loop-j.j ≡ blocks (length c.args.m.now) = omega (arith, c.count-j-end.ensures, c.loop-j.auto.j-end, c.loop-j-test.false) in
    c.loop-j.invariant ∙ ap (absorbed kept.order (taken_in kept g.H.HashFunction.steps) kept.initial c.args.m.now) all
