-- `enrolment` meets its promise: refused as the values are checked, or the account with them.
use Rattle.std.specs.Prelude.{[]}
use Rattle.std.proofs.Common.{sym, ap, ◌∙◌}
use Rattle.refusal.specs.Laws.{passed_on}
use Rattle.accounts.specs.Accounts.{with_values, proposal}
use Rattle.accounts.proofs.values.Good.{fits, none_proposed, room-proposed}
use Rattle.accounts.proofs.values.enrolment.Goals as goal

pub account-requires : goal.account-requires
account-requires c = let a = c.args in
    fits a.algorithm a.count a.seed.now (sym c.check_new.ensures ∙ c.in_ok-check_new.was)

pub returns-in_err-check_new : goal.returns-in_err-check_new
returns-in_err-check_new c part =
    ap (λ r. proposal r part) (passed_on _ _ c.from_residual.ensures.1)
    ∙ none_proposed _ _ _ (sym c.check_new.ensures ∙ c.in_err-check_new.was)

pub returns : goal.returns
returns c part =
    let a = c.args in
    room-proposed _ _ _ (sym c.check_new.ensures ∙ c.in_ok-check_new.was)
    (c.account.ensures part ∙ ap (with_values a.id [] a.algorithm a.count a.seed.now) c.number_of.ensures)
