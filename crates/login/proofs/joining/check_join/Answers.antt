-- `check_join` meets its promise: its tests are those that are written.
use mathlib.Core.Path.{◌≡◌, ◌∙◌}
use mathlib.Core.Bool.{not}
use borrow.Author.Rules.{rules}
use lib.Dec.{eqb, leb, ltb}
use lib.ListN.{length}
use Rattle.refusal.specs.Checks.{in_order}
use Rattle.line.specs.Laws.{unmapped}
use Rattle.table.specs.ViewLaws.{waits_at}
use Rattle.login.specs.Inside.{join_checks}
use Rattle.login.proofs.joining.check_join.Goals as goal
use Rattle.login.proofs.joining.check_join.Goals.{Start}

all : (c : Start) → length c.args.table.rooms ≡ 32
all c = search (rules, unmapped)

pub returns : goal.returns
returns c older part =
    let a = c.args in
    let inside = c.has-inside.ensures ∙ waits_at a.table older (all (goal.at.returns c).Start) a.port in
    c.join_answer.ensures
    ∙ (λ i. in_order (join_checks (leb a.port 3) (not (eqb a.account.id 0)) (not (inside i)) (c.is_open-unshut.ensures i) (ltb 1 a.account.count)))
