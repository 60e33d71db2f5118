-- `account_at` meets its promise: what stands in the room, or a free one past the last.
use mathlib.Core.Path.{◌≡◌, sym, ap}
use borrow.Author.Rules.{rules}
use native.Mathlib.Omega.{arith}
use lib.ListN.{length, get_or-eq_default}
use Rattle.line.specs.Line.{waiting}
use Rattle.line.specs.Laws.{unmapped}
use Rattle.accounts.specs.Rooms.{part_of}
use Rattle.table.specs.Table.{Held, free_room, view}
use Rattle.table.specs.ViewLaws.{rooms-32, held_account}
use Rattle.table.proofs.held.account_at.Goals as goal
use Rattle.table.proofs.held.account_at.Goals.{Start}

all : (c : Start) → length c.args.table.rooms ≡ 32
all c = search (rules, unmapped)

pub returns-else-place-lt32 : goal.returns-else-place-lt32
returns-else-place-lt32 c older =
    let a = c.args in
    let all-32 = rooms-32 a.table older (all (goal.at.returns-else-place-lt32 c).Start) in
    ap (λ (held : Held). held.account)
    (sym (get_or-eq_default (view a.table older).rooms free_room {n = a.place} (omega (arith, all-32, c.if-place-lt32.false))))

pub returns-then-place-lt32 : goal.returns-then-place-lt32
returns-then-place-lt32 c older =
    let a = c.args in
    sym (held_account (part_of older) (waiting a.table.lines) 0 a.table.rooms a.place a.place (omega arith))
