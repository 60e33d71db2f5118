-- `block` meets its promise: each word is one of the block's.
use Rattle.std.proofs.Common.{◌≡◌, ◌+◌, ◌*◌, ◌∙◌, rules}
use borrow.Author.Tests.{tests}
use Rattle.digests.specs.Padding.{padded_word, block_at}
use Rattle.block.specs.WordLaws.{first_word, four_bytes}
use Rattle.block.specs.Laws.{word_of_block}
use Rattle.block.proofs.Blocks.{made}
use Rattle.block.proofs.block.Goals as goal

pub returns : goal.returns
unfolding block_at
returns c =
    let a = c.args in
    let b = c.block_bytes-b.result in
    made _ (λ k. padded_word a.order a.m.now (16 * a.j + k)) _ c.from_fn.result 16
    (λ k y q below called. (
      search (rules, tests),
      (let e : y ≡ first_word a.order (four_bytes b (4 * k)) = search (rules, tests) in
          e ∙ word_of_block a.order a.m.now b a.j k c.block_bytes-b.ensures below),
    ))
    c.from_fn.ensures.items
