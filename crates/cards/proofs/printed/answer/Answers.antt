-- `answer` meets its promise: 12 first, then the card of the input's lines.
use Prim.Native.Nat.{ℕ}
use mathlib.Core.Path.{◌≡◌, ◌∙◌, ap, subst}
use mathlib.Core.List.{List}
use Rattle.text.specs.Put.{Put}
use Rattle.cards.specs.Printed.{first_line, kept_line, past_line, lines_asked, printed_card}
use Rattle.cards.proofs.printed.PrintedLines.{long_input, short_input}
use Rattle.cards.proofs.printed.answer.Goals as goal

same_printed : {p p' c c' : List ℕ} {k k' : ℕ} → p ≡ p' → c ≡ c' → k ≡ k' → printed_card p c k ≡ printed_card p' c' k'
same_printed e f g = cc

pub returns-then-input-gt256 : goal.returns-then-input-gt256
returns-then-input-gt256 c =
    let a = c.args in
    subst (λ (t : List ℕ). Put t a.buf.now c.put_refused.new.buf c.put_refused.result)
    (long_input a.input.now c.if-input-gt256.true) c.put_refused.ensures

pub returns : goal.returns
returns c =
    let a = c.args in
    let rest = c.split_line.ensures.1 in
    let last = c.split_line-2.ensures.1 ∙ ap past_line rest in
    subst (λ (t : List ℕ). Put t a.buf.now c.put_card.new.buf c.put_card.result)
    (same_printed c.first_line.ensures (c.split_line-2.ensures.0 ∙ ap kept_line rest)
    (c.lines_asked.ensures ∙ ap lines_asked (c.first_line-2.ensures ∙ ap first_line last))
    ∙ short_input a.input.now c.if-input-gt256.false)
    c.put_card.ensures
