-- `block_bytes` meets its promise: a block of the message's own, or one that is put together.
use Rattle.std.proofs.Common.{◌≡◌, ◌∙◌, sym, refl, arith}
use Rattle.block.specs.Inside.{marked_bytes}
use Rattle.block.proofs.Blocks.{message_block, none_left, ended, lengthened, unended}
use Rattle.block.proofs.block_bytes.Goals as goal
use Rattle.block.proofs.block_bytes.Goals.{Joined-at-n-2, then-at-n-2, else-at-n-2}

marked : (c : Joined-at-n-2) → c.if-at-n-2.b ≡ marked_bytes c.args.m.now c.args.j
marked c =
    let m = c.args.m.now in
    let j = c.args.j in
    elim c.if-at-n-2.branch [
      | then-at-n-2 w ↦ w.b-is ∙ ended m _ _ j _ w.copy_from_slice-then-at-n-2.ensures.after refl (omega arith) (omega arith)
      | else-at-n-2 w ↦ w.b-is ∙ none_left m j (omega arith)
    ]

pub returns-then-at-n : goal.returns-then-at-n
returns-then-at-n c = message_block c.args.order c.args.m.now _ c.args.j _ c.copy_from_slice.ensures.after (omega arith) c.if-at-n.true

pub returns-then-j-count : goal.returns-then-j-count
returns-then-j-count c =
    let a = c.args in
    lengthened a.order a.m.now _ _ a.j (marked (goal.at.returns-then-j-count c).Joined-at-n-2) (c.copy_from_slice-then-j-count.ensures.after
    ∙ c.length_bytes.ensures)
    (c.if-j-count.true ∙ c.count.ensures)

pub returns-else-j-count : goal.returns-else-j-count
returns-else-j-count c =
    let a = c.args in
    unended a.order a.m.now _ a.j (marked (goal.at.returns-else-j-count c).Joined-at-n-2) c.requires (λ e. c.if-j-count.false (e ∙ sym c.count.ensures))
