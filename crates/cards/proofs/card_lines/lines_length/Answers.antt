-- `lines_length` meets its promise.
use Rattle.std.proofs.Common.{refl, arith}
use Rattle.text.specs.CountLaws.{width_few}
use Rattle.cards.specs.CardLines.{card_text}
use Rattle.cards.proofs.NextLine.{next_length}
use Rattle.cards.proofs.card_lines.lines_length.Goals as goal

pub loop-p-init : goal.loop-p-init
unfolding card_text
loop-p-init c = (omega arith, omega arith, refl)

pub loop-p-preserved : goal.loop-p-preserved
loop-p-preserved c =
    let at = c.loop-p in
    let lines = c.args.lines.now in
    let more = next_length lines.passwords.now lines.top at.p-index at.count at.invariant.1 in (
      omega (arith, c.words_length.ensures.1, c.width.ensures, width_few at.count),
      omega (arith, lines.counted),
      omega (arith, more, c.width.ensures, c.words_length.ensures.0),
    )
