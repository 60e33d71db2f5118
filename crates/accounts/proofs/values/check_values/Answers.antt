-- `check_values` meets its promise: Enrol's checks, and the seeds that are remembered.
use Rattle.std.specs.Prelude.{Err}
use Rattle.std.proofs.Common.{sym, ◌∙◌}
use Rattle.refusal.specs.Laws.{first_refused, first_good, passed_on}
use Rattle.accounts.specs.Rooms.{part_of, room_of}
use Rattle.accounts.specs.Accounts.{seed_other, new_checked}
use Rattle.accounts.proofs.values.Good.{then_other}
use Rattle.accounts.proofs.values.check_values.Goals as goal

pub returns-in_err-check_new : goal.returns-in_err-check_new
returns-in_err-check_new c =
    let a = c.args in
    let present = room_of a.present (part_of a.older.now a.room) in
    passed_on _ _ c.from_residual.ensures.1
    ∙ first_refused Err (new_checked a.algorithm a.count a.seed.now) _ (seed_other a.seed.now present) (sym c.check_new.ensures ∙ c.in_err-check_new.was)
    ∙ sym (then_other a.algorithm a.count a.seed.now present)

pub returns : goal.returns
returns c =
    let a = c.args in
    let present = room_of a.present (part_of a.older.now a.room) in
    c.check_other.ensures
    ∙ first_good Err (new_checked a.algorithm a.count a.seed.now) (seed_other a.seed.now present) (sym c.check_new.ensures ∙ c.in_ok-check_new.was)
    ∙ sym (then_other a.algorithm a.count a.seed.now present)
