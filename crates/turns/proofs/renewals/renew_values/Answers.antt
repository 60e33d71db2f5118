-- `renew_values` meets its promise: refused as the new values are, or the present password is compared.
use mathlib.Core.Path.{sym, ap, ◌∙◌}
use Rattle.refusal.specs.Laws.{first_refused, first_good}
use Rattle.accounts.specs.Rooms.{Room, part_of, room_of}
use Rattle.accounts.specs.Accounts.{proposal, renewed_room, values_checked}
use Rattle.accounts.specs.ProposalLaws.{is_proposed, not_proposed}
use Rattle.accounts.specs.OlderBytes.{remembering}
use Rattle.table.specs.Answers.{Replied}
use Rattle.turns.specs.TurnPart.{Said, seen, outcome, older_after, refused, compared, renew_values}
use Rattle.turns.proofs.renewals.renew_values.Goals as goal

pub returns-in-Err : goal.returns-in-Err
unfolding renew_values
returns-in-Err c =
    let a = c.args in
    let older = a.older.now in
    let t = seen a.turn older in
    let after = remembering a.turn.place a.turn.account older in
    let stayed = c.stays.ensures older in
    let refused_as = not_proposed _ _ _ (sym (ap (λ made. proposal made (part_of after a.turn.place)) c.in-Err.is) ∙ c.renewal.ensures) in
    ap (λ (r : Replied). outcome c.stays.result (older_after r older after)) (ap (λ (x : Said). x.answer) stayed)
    ∙ stayed
    ∙ first_refused (refused t) _ _
    (compared a.password (renewed_room (room_of a.turn.account (part_of older a.turn.place)) a.algorithm a.count a.seed.now a.new) t) refused_as

pub returns-in-Ok : goal.returns-in-Ok
unfolding renew_values
returns-in-Ok c =
    let a = c.args in
    let older = a.older.now in
    let t = seen a.turn older in
    let after = remembering a.turn.place a.turn.account older in
    let made = is_proposed _ _ _ (sym (ap (λ made. proposal made (part_of after a.turn.place)) c.in-Ok.is) ∙ c.renewal.ensures) in
    c.compare.ensures older after
    ∙ ap (λ (r : Room). compared a.password r t) made.1
    ∙ first_good (refused t) (values_checked a.algorithm a.count a.seed.now t.account)
    (compared a.password (renewed_room (room_of a.turn.account (part_of older a.turn.place)) a.algorithm a.count a.seed.now a.new) t) made.0
