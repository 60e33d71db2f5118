-- `lines_length` meets its promise. The loop's invariant: `total` is the length of the lines so far, and `count` that of the next.
use Rattle.std.proofs.Common.{◌≡◌, ◌+◌, ◌*◌, ◌≤◌, length}
use Rattle.cards.specs.CardLines.{card_text, at}
use Rattle.cards.proofs.card_lines.lines_length.Given as goal

abbrev pub invariant-loop-p : goal.invariant-loop-p
invariant-loop-p l =
    (l.total ≤ 52 * l.p-index) × (l.count + l.p-index ≡ l.lines.top)
    × (l.total ≡ length (card_text (at l.lines.passwords.now l.lines.top) l.lines.top l.p-index))
