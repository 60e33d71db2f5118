-- `put_lines` meets its promise. The loop's invariant: the lines so far stand at the front, and `count` is that of the next.
use Rattle.std.proofs.Common.{◌≡◌, ◌+◌}
use Rattle.text.specs.Put.{Put}
use Rattle.cards.specs.CardLines.{card_text, at}
use Rattle.cards.proofs.card_lines.put_lines.Given as goal

abbrev pub invariant-loop-p : goal.invariant-loop-p
invariant-loop-p l =
    (l.count + l.p-index ≡ l.lines.top)
    × Put (card_text (at l.lines.passwords.now l.lines.top) l.lines.top l.p-index) l.initial.buf l.buf l.at
