-- `put` meets its promise: the room has the account, or none has.
use mathlib.Core.Path.{◌≡◌, sym}
use borrow.Author.Rules.{rules}
use native.Mathlib.Omega.{arith}
use lib.ListN.{length}
use lib.Seq.{set_out}
use Rattle.line.specs.Line.{waiting}
use Rattle.line.specs.Laws.{unmapped}
use Rattle.accounts.specs.Rooms.{part_of}
use Rattle.table.specs.Table.{view}
use Rattle.table.specs.ViewLaws.{rooms-32, held_set}
use Rattle.table.proofs.held.put.Goals as goal
use Rattle.table.proofs.held.put.Goals.{Start}

all : (c : Start) → length c.args.table.rooms ≡ 32
all c = search (rules, unmapped)

pub returns-then-place-lt32 : goal.returns-then-place-lt32
returns-then-place-lt32 c older =
    let a = c.args in
    let put = held_set (part_of older) (waiting a.table.lines) 0 a.table.rooms a.place a.place a.account (omega arith) in
    λ i. record { rooms = put i; ports = a.table.ports }

pub returns-else-place-lt32 : goal.returns-else-place-lt32
returns-else-place-lt32 c older =
    let a = c.args in
    let past = set_out (view a.table older).rooms a.place _
    (omega (arith, rooms-32 a.table older (all (goal.at.returns-else-place-lt32 c).Start), c.if-place-lt32.false)) in
    λ i. record { rooms = sym past i; ports = a.table.ports }
