-- `compare` meets its promise: the test that was made is the one that is written.
use Prim.Native.Nat.{ℕ}
use mathlib.Core.Path.{◌≡◌, sym, ap, ◌∙◌}
use mathlib.Core.Bool.{Bool, true, false, cond}
use mathlib.Core.List.{List}
use borrow.Author.Tests.{eq-eqb, ne_eqb}
use lib.Dec.{eqb}
use Rattle.accounts.specs.Rooms.{part_of, room_of}
use Rattle.table.specs.Answers.{Replied}
use Rattle.turns.specs.TurnPart.{Said, seen, outcome, older_after, accepted, rejected, compared}
use Rattle.turns.proofs.offering.compare.Goals as goal
use Rattle.turns.proofs.offering.compare.Goals.{After-step}

by_test : (c : After-step) (older new : List ℕ) (right : Bool) → eqb c.step.result c.args.turn.account.password ≡ right
    → cond right (accepted (room_of c.args.next (part_of new c.args.turn.place)) (seen c.args.turn older))
    (rejected (seen c.args.turn older))
    ≡ compared c.args.password (room_of c.args.next (part_of new c.args.turn.place)) (seen c.args.turn older)
unfolding compared
by_test c older new right e =
    let a = c.args in
    let next = room_of a.next (part_of new a.turn.place) in
    ap (λ (b : Bool). cond b (accepted next (seen a.turn older)) (rejected (seen a.turn older)))
    (sym e ∙ ap (λ (n : ℕ). eqb n a.turn.account.password) c.step.ensures)

pub returns-then-step-account : goal.returns-then-step-account
returns-then-step-account c older new =
    let right = c.accepted.ensures older new in
    ap (λ (r : Replied). outcome c.accepted.result (older_after r older new)) (ap (λ (o : Said). o.answer) right)
    ∙ right ∙ by_test (goal.at.returns-then-step-account c).After-step older new true (eq-eqb _ _ c.if-step-account.true)

pub returns : goal.returns
returns c older new =
    let wrong = c.rejected.ensures older in
    ap (λ (r : Replied). outcome c.rejected.result (older_after r older new)) (ap (λ (o : Said). o.answer) wrong)
    ∙ wrong ∙ by_test (goal.at.returns c).After-step older new false (ne_eqb _ _ c.if-step-account.false)
