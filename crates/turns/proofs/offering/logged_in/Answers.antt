-- `logged_in` meets its promise: a refusal of the turn is the answer, and behind it the password is compared.
use mathlib.Core.Path.{sym, ap, ◌∙◌}
use Rattle.refusal.specs.Laws.{first_refused, first_good}
use Rattle.accounts.specs.Rooms.{Room, part_of}
use Rattle.accounts.specs.Accounts.{lowered}
use Rattle.turns.specs.TurnPart.{seen, outcome, refused, compared, logged_in}
use Rattle.turns.specs.TurnPartLaws.{same_older}
use Rattle.turns.proofs.offering.logged_in.Goals as goal

pub returns-in-Err : goal.returns-in-Err
unfolding logged_in
returns-in-Err c older =
    let a = c.args in
    let t = seen a.turn older in
    c.stays.ensures older
    ∙ first_refused (refused t) _ _ (compared a.password (lowered t.account a.password) t) c.in-Err.is

pub returns : goal.returns
unfolding logged_in
returns c older =
    let a = c.args in
    let t = seen a.turn older in
    sym (ap (outcome c.compare.result) (same_older c.compare.result.answer older))
    ∙ c.compare.ensures older older
    ∙ ap (λ (r : Room). compared a.password r t) (c.lower.ensures (part_of older a.turn.place))
    ∙ first_good (refused t) _ (compared a.password (lowered t.account a.password) t) c.in_default.is
