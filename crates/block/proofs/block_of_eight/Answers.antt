-- `block_of_eight` meets its promise: each of the sixteen words is the padded message's.
use Rattle.std.proofs.Common.{ℕ, [], ◌∷◌, ◌++◌, ap₂, sym, ◌∙◌, ap}
use Rattle.digests.specs.declared.Order.{Order}
use Rattle.digests.specs.Lists.{up_to}
use Rattle.digests.specs.Words32.{bytes4}
use Rattle.digests.specs.Padding.{padded_byte, padded_word, block_at}
use Rattle.block.specs.WordLaws.{word_bytes4}
use Rattle.block.proofs.block_of_eight.Goals as goal

pub returns-in-Little : goal.returns-in-Little
unfolding block_at padded_word padded_byte up_to
returns-in-Little c =
    ap₂ (λ (u v : ℕ). u ∷ v ∷ 128 ∷ 0 ∷ 0 ∷ 0 ∷ 0 ∷ 0 ∷ 0 ∷ 0 ∷ 0 ∷ 0 ∷ 0 ∷ 0 ∷ 64 ∷ 0 ∷ [])
    (sym (word_bytes4 Order.Little c.args.first c.ranges.first.fits)) (sym (word_bytes4 Order.Little c.args.second c.ranges.second.fits))
    ∙ sym (ap (λ (o : Order). block_at o (bytes4 o c.args.first ++ bytes4 o c.args.second) 0) c.in-Little.is)

pub returns-in-Big : goal.returns-in-Big
unfolding block_at padded_word padded_byte up_to
returns-in-Big c =
    ap₂ (λ (u v : ℕ). u ∷ v ∷ 0x80000000 ∷ 0 ∷ 0 ∷ 0 ∷ 0 ∷ 0 ∷ 0 ∷ 0 ∷ 0 ∷ 0 ∷ 0 ∷ 0 ∷ 0 ∷ 64 ∷ [])
    (sym (word_bytes4 Order.Big c.args.first c.ranges.first.fits)) (sym (word_bytes4 Order.Big c.args.second c.ranges.second.fits))
    ∙ sym (ap (λ (o : Order). block_at o (bytes4 o c.args.first ++ bytes4 o c.args.second) 0) c.in-Big.is)
