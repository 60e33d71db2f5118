-- `put_card` meets its promise: the card writer's answer in a buffer with room for the largest card.
use borrow.Author.Rules.{rules}
use Prim.Native.Nat.{ℕ}
use mathlib.Core.Path.{◌≡◌, sym, ◌∙◌, ap, subst₂}
use mathlib.Core.List.{List}
use lib.ListN.{length}
use Rattle.refusal.specs.Answers.{Written}
use Rattle.text.specs.Put.{Put, leaves}
use Rattle.cards.specs.Cards.{card_of, card_written}
use Rattle.cards.proofs.printed.PrintedLines.{wrote_card, refused_card}
use Rattle.cards.proofs.printed.put_card.Goals as goal
use Rattle.cards.proofs.printed.put_card.Goals.{After-write_card}

room : (c : After-write_card) → length c.args.buf.now ≡ 5148
room c = search rules

answered : (c : After-write_card) → c.write_card.result
    ≡ card_written c.args.phrase.now c.args.challenge.now c.args.lines 5148
answered c = c.write_card.ensures.answered ∙ ap (card_written c.args.phrase.now c.args.challenge.now c.args.lines) (room c)

pub returns-in-Ok : goal.returns-in-Ok
returns-in-Ok c =
    let a = c.args in
    let told = c.in-Ok.is in
    wrote_card a.phrase.now a.challenge.now a.lines _ a.buf.now _
    (sym told ∙ answered (goal.at.returns-in-Ok c).After-write_card)
    (c.write_card.ensures.left ∙ ap (λ (r : Written). leaves r ((card_of c.args.phrase.now c.args.challenge.now c.args.lines)) a.buf.now) told)

pub returns-in-Err : goal.returns-in-Err
returns-in-Err c =
    let a = c.args in
    let told = c.in-Err.is in
    subst₂ (λ (t b : List ℕ). Put t b c.put_refused.new.buf c.put_refused.result)
    (refused_card a.phrase.now a.challenge.now a.lines _ (sym told ∙ answered (goal.at.returns-in-Err c).After-write_card))
    (c.write_card.ensures.left ∙ ap (λ (r : Written). leaves r ((card_of c.args.phrase.now c.args.challenge.now c.args.lines)) a.buf.now) told)
    c.put_refused.ensures
