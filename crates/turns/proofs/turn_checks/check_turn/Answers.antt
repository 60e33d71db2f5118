-- `check_turn` meets its promise: the place in line, then the account.
use Rattle.std.specs.Prelude.{Err}
use mathlib.Core.Path.{sym, ◌∙◌}
use Rattle.refusal.specs.Checks.{in_order}
use Rattle.refusal.specs.Laws.{first_refused, first_good, passed_on}
use Rattle.accounts.specs.Rooms.{room_of}
use Rattle.turns.specs.TurnChecks.{account_checks, front_checked}
use Rattle.turns.proofs.turn_checks.check_turn.Goals as goal

pub returns-in_err-check_place : goal.returns-in_err-check_place
unfolding front_checked
returns-in_err-check_place c part =
    passed_on _ _ c.from_residual.ensures.1
    ∙ first_refused Err _ _ (in_order (account_checks (room_of c.args.account part))) (sym c.check_place.ensures ∙ c.in_err-check_place.was)

pub returns : goal.returns
unfolding front_checked
returns c part =
    c.check_account.ensures part ∙ first_good Err _ _ (sym c.check_place.ensures ∙ c.in_ok-check_place.was)
