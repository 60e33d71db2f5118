-- `hash_eight` meets its promise: a message of eight bytes has one block.
use Rattle.std.proofs.Common.{ℕ, ◌≡◌, List, ◌++◌, length, refl, sym, ◌∙◌, ap, ap₂}
use Rattle.digests.specs.declared.Order.{Order}
use Rattle.digests.specs.Words32.{bytes4}
use Rattle.digests.specs.Padding.{blocks, block_at, absorbed}
use Rattle.digests.specs.Hash.{taken_in}
use Rattle.block.proofs.hashing.hash_eight.Goals as goal

one_block : (order : Order) (x y : ℕ) → blocks (length (bytes4 order x ++ bytes4 order y)) ≡ 1
one_block Order.Little x y = refl
one_block Order.Big x y = refl

pub returns : goal.returns
unfolding absorbed
returns g c =
    let kept = g.H.Words.Words.kept in
    let eight : Order → List ℕ = λ o. bytes4 o c.args.first ++ bytes4 o c.args.second in
    c.compress.ensures
    ∙ ap₂ (λ X h. taken_in kept g.H.HashFunction.steps X h)
    (c.block_of_eight-w.ensures ∙ ap (λ (o : Order). block_at o (eight o) 0) c.order.ensures) c.initial.ensures
    ∙ sym (ap (absorbed kept.order (taken_in kept g.H.HashFunction.steps) kept.initial (eight kept.order)) (one_block kept.order c.args.first c.args.second))
