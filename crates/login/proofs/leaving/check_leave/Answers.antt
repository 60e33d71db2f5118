-- `check_leave` meets its promise: each return computes with the tests that led to it.
use Prim.Native.Nat.{ℕ}
use mathlib.Core.Path.{◌≡◌, sym, ◌∙◌}
use mathlib.Core.List.{List}
use borrow.Author.Rules.{rules}
use borrow.Author.Tests.{le-leb, lt-leb}
use lib.ListN.{length}
use Rattle.line.specs.Laws.{unmapped}
use Rattle.table.specs.Table.{view, waits}
use Rattle.table.specs.ViewLaws.{waits_at}
use Rattle.table.specs.Steps.{leave_checked}
use Rattle.login.proofs.leaving.check_leave.Goals as goal
use Rattle.login.proofs.leaving.check_leave.Goals.{After-has, Start}

all : (c : Start) → length c.args.table.rooms ≡ 32
all c = search (rules, unmapped)

waiting : (c : After-has) (older : List ℕ) → waits c.args.port (view c.args.table older) ≡ c.has.result
waiting c older = let a = c.args in
    sym (c.has.ensures ∙ waits_at a.table older (let all : length c.args.table.rooms ≡ 32 = search (rules, unmapped) in all) a.port)

pub returns-then-port-gt3 : goal.returns-then-port-gt3
unfolding leave_checked
returns-then-port-gt3 c older = rw (lt-leb _ 3 c.if-port-gt3.true)

pub returns-then-has : goal.returns-then-has
unfolding leave_checked
returns-then-has c older = rw (le-leb _ 3 c.if-port-gt3.false, waiting (goal.at.returns-then-has c).After-has older ∙ c.if-has.true)

pub returns : goal.returns
unfolding leave_checked
returns c older = rw (le-leb _ 3 c.if-port-gt3.false, waiting (goal.at.returns c).After-has older ∙ c.if-has.false)
