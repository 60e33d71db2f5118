-- `put_back` meets its promise: the account, the port's record, and the lines, which the port may leave.
use Rattle.std.proofs.Common.{◌≡◌, sym, ap, ◌∙◌, ℕ, Bool, cond, List, set}
use Rattle.line.specs.Line.{left}
use Rattle.accounts.specs.Rooms.{part_of, room_of}
use Rattle.table.specs.Answers.{Replied}
use Rattle.table.specs.Table.{State, view, with_account, with_port, each_line}
use Rattle.table.specs.ViewLaws.{lines_changed}
use Rattle.table.specs.Steps.{After, leaves}
use Rattle.turns.proofs.put_back.Goals as goal
use Rattle.turns.proofs.put_back.Goals.{After-put_own-own}

-- The table with the account in its room.
abbrev housed : After-put_own-own → List ℕ → State
housed c older =
    let a = c.args in
    with_account a.made.place (room_of a.made.account (part_of older a.made.place)) (view a.table older)

ports : (c : After-put_own-own) (older : List ℕ) → c.put_own-own.result ≡ set (housed c older).ports c.args.port c.args.made.own
ports c older =
    let a = c.args in
    c.put_own-own.ensures ∙ ap (λ (s : State). set s.ports a.port a.made.own) (c.put-next.ensures older)

-- What is put back, by whether the port leaves.
abbrev by_test : After-put_own-own → List ℕ → Bool → After Replied
by_test c older b =
    let a = c.args in
    let changed = with_port a.port a.made.own (housed c older) in
    record { answer = a.made.answer; state = cond b (leaves a.port changed) changed }

pub returns-then-made : goal.returns-then-made
returns-then-made c older =
    let owned = (goal.at.returns-then-made c).After-put_own-own in
    let put = c.put-next in
    let a = c.args in
    let rooms = lines_changed put.result older c.leave-lines.result (left a.port) c.leave-lines.ensures
    ∙ ap (λ (s : State). (each_line (left a.port) s).rooms) (put.ensures older) in
    (λ i. record { answer = a.made.answer; state = record { rooms = rooms i; ports = ports owned older i } })
    ∙ ap (by_test owned older) (sym c.if-made.true)

pub returns-else-made : goal.returns-else-made
returns-else-made c older =
    let owned = (goal.at.returns-else-made c).After-put_own-own in
    let put = c.put-next in
    (λ i. record { answer = c.args.made.answer; state = record { rooms = (put.ensures older i).rooms; ports = ports owned older i } })
    ∙ ap (by_test owned older) (sym c.if-made.false)
