-- `put_lines` meets its promise.
use Rattle.std.proofs.Common.{length, get_or, refl, arith}
use Rattle.text.specs.PutLaws.{then_put, length_rest_lent}
use Rattle.cards.specs.CardLines.{line_of, card_text, at as password_at}
use Rattle.cards.proofs.NextLine.{next_line, next_room}
use Rattle.cards.proofs.card_lines.put_lines.Goals as goal

pub loop-p-init : goal.loop-p-init
unfolding card_text
loop-p-init c = (omega arith, (refl, refl))

pub put_line-at-requires : goal.put_line-at-requires
put_line-at-requires c =
    let at = c.loop-p in
    let lines = c.args.lines.now in
    let room = next_room lines.passwords.now lines.top at.p-index at.count at.invariant.0 (length lines.passwords.now) c.loop-p-test.true in
    omega (arith, room, at.invariant.1.0, length_rest_lent at.at at.buf)

pub loop-p-preserved : goal.loop-p-preserved
loop-p-preserved c =
    let at = c.loop-p in
    let lines = c.args.lines.now in
    let ps = lines.passwords.now in (
      omega (arith, lines.counted),
      rw (next_line ps lines.top at.p-index at.count at.invariant.0)
          (then_put (card_text (password_at ps lines.top) lines.top at.p-index) (line_of at.count (get_or ps at.p-index 0)) c.args.buf.now _ _ _ _
          at.invariant.1 c.put_line-at.ensures),
    )
