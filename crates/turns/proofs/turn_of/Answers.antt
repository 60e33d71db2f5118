-- `turn_of` meets its promise: the room in whose line the port stands, its account, the port's record, and the written checks.
use Prim.Native.Nat.{ℕ}
use mathlib.Core.Path.{◌≡◌, sym, ap, ◌∙◌}
use borrow.Author.Rules.{rules}
use lib.ListN.{length}
use Rattle.std.specs.Prelude.{Option}
use Rattle.std.specs.Option.{unwrap_or}
use Rattle.line.specs.Line.{waiting}
use Rattle.line.specs.Laws.{unmapped, found_or_past}
use Rattle.accounts.specs.Rooms.{part_of}
use Rattle.table.specs.Table.{view, room_at}
use Rattle.table.specs.ViewLaws.{rooms-32, line_at, stands_at_lem}
use Rattle.turns.specs.TurnChecks.{front_checked}
use Rattle.turns.specs.TurnCheckLaws.{front_checked_lem}
use Rattle.turns.proofs.turn_of.Goals as goal
use Rattle.turns.proofs.turn_of.Goals.{Start}

all : (c : Start) → length c.args.table.rooms ≡ 32
all c = search (rules, unmapped)

pub returns : goal.returns
returns c older =
    let a = c.args in
    let s = view a.table older in
    let place = c.unwrap_or-place.ensures ∙ ap (λ (r : Option ℕ). unwrap_or r 32) c.room_of.ensures
    ∙ found_or_past a.port (waiting a.table.lines) ∙ stands_at_lem a.table older (all (goal.at.returns c).Start) a.port in
    let account = c.account_at-account.ensures older ∙ ap (λ (n : ℕ). (room_at n s).account) place in
    let line = sym (line_at a.table older (all (goal.at.returns c).Start) c.unwrap_or-place.result) ∙ ap (λ (n : ℕ). (room_at n s).line) place in
    let checked = c.check_turn-checked.ensures (part_of older c.unwrap_or-place.result)
    ∙ (λ i. front_checked a.port (place i) (line i) (account i))
    ∙ front_checked_lem a.port s (rooms-32 a.table older (all (goal.at.returns c).Start)) in
    λ i. record { place = place i; account = account i; own = c.own_of-own.ensures i; checked = checked i }
