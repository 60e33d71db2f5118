-- `join` meets its promise: the place is put behind those that wait.
use Rattle.std.proofs.Common.{◌≡◌, length, arith, rules}
use Rattle.line.specs.Laws.{unmapped}
use Rattle.line.proofs.Joined.{joins}
use Rattle.line.proofs.Lines.join.Goals as goal
use Rattle.line.proofs.Lines.join.Goals.{Start}

four : (c : Start) → length c.args.self.places ≡ 4
four c = search (rules, unmapped)

pub returns-then-room-lt32 : goal.returns-then-room-lt32
returns-then-room-lt32 c =
    let four = four (goal.at.returns-then-room-lt32 c).Start in
    joins c.args.port c.args.room c.args.self (omega arith) (omega arith) (omega arith)
