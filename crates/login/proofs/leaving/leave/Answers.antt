-- `leave` meets its promise: refused as checked, or with the port gone.
use mathlib.Core.Path.{sym, ap, ◌∙◌}
use Rattle.refusal.specs.Answers.{Checked}
use Rattle.line.specs.Line.{left}
use Rattle.table.specs.Table.{view}
use Rattle.table.specs.ViewLaws.{lines_changed}
use Rattle.table.specs.StepLaws.{leave-refused, leave-done}
use Rattle.login.proofs.leaving.leave.Goals as goal

pub returns-in-Err : goal.returns-in-Err
returns-in-Err c older =
    let s = view c.args.table older in
    ap (λ (k : Checked). record { answer = k; state = s }) c.in-Err.is
    ∙ sym (leave-refused _ s _ (sym (c.check_leave-answer.ensures older) ∙ c.in-Err.is))

pub returns : goal.returns
returns c older =
    let a = c.args in
    let rooms = lines_changed a.table older c.leave-lines.result (left a.port) c.leave-lines.ensures in
    (λ i. record { answer = c.in_default.is i; state = record { rooms = rooms i; ports = a.table.ports } })
    ∙ sym (leave-done _ (view a.table older) (sym (c.check_leave-answer.ensures older) ∙ c.in_default.is))
