-- `hash` meets its promise: the blocks before j are taken in.
use Rattle.std.proofs.Common.{◌≡◌}
use Rattle.digests.specs.Padding.{absorbed}
use Rattle.digests.specs.Hash.{taken_in}
use Rattle.block.proofs.hashing.hash.Given as goal

abbrev pub invariant-loop-j : goal.invariant-loop-j
invariant-loop-j g l =
    let kept = g.H.Words.Words.kept in
    l.h ≡ absorbed kept.order (taken_in kept g.H.HashFunction.steps) kept.initial l.m l.j
