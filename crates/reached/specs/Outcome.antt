-- What any call can do to any table: one of eight outcomes, with what the call's checks have established.
use Rattle.std.specs.Prelude.{ℕ, ◌≤◌, ◌<◌, ◌≡◌, true, false, eqb, Ok}
use Rattle.std.proofs.Common.{eqb-true, ltb-true, leb-true}
use Rattle.std.proofs.lemmas.Bool.{eqb-false, not-true}
use Rattle.line.specs.Line.{stands_in}
use Rattle.accounts.specs.Rooms.{Room, remembered}
use Rattle.table.specs.Table.{State, free_room, place_of, holds, is_there, line_of, port_of, waits, own_account, has_turn, with_room, with_account}
use Rattle.table.specs.Steps as Steps
use Rattle.table.specs.Steps.{join_checked, turn_checked}
use Rattle.reached.specs.Calls.{Call}
use Rattle.reached.specs.InTurn.{tick_of, quiet, keeps_algorithm, elsewhere}
use Rattle.reached.specs.Made.{AccountGood}
use Rattle.reached.specs.SeedsHad.{keeps_account}
use Rattle.reached.specs.SeedLaws.{SeedStep}
use Rattle.table.specs.StepLaws.{join_passed, turn_passed}

-- What the checks of a turn establish.
pub record TurnGood (port : ℕ) (s : State) : Type 0 where
  pub known : port ≤ 3
  pub inside : waits port s ≡ true
  pub front : has_turn port s ≡ true
  pub there : (own_account port s).id ≡ 0 → ⊥
  pub unused : 1 < (own_account port s).count

-- The call is none that a quiet port makes; it removes no account that is to stay.
abbrev pub NotBy : Call → ℕ → Type 0
NotBy c port = (p i : ℕ) → quiet p i c ≡ true → eqb port p ≡ false

abbrev pub NotFor : Call → ℕ → Type 0
NotFor c id = (p i : ℕ) → quiet p i c ≡ true → eqb id i ≡ false

-- Seen from where the call is elsewhere: the port isn't in that account's line, the account is another.
abbrev pub Outside : Call → State → ℕ → Type 0
Outside c s port = (i : ℕ) → elsewhere i s c ≡ true → stands_in port (line_of i s) ≡ false

abbrev pub Another : Call → State → ℕ → Type 0
Another c s id = (i : ℕ) → elsewhere i s c ≡ true → eqb id i ≡ false

-- If the call is no renewal, the account keeps its algorithm and the seeds that it remembers.
abbrev pub Kept : Call → Room → Room → Type 0
Kept c old next = (i : ℕ) → keeps_algorithm i c ≡ true → (next.algorithm ≡ old.algorithm) × (remembered next ≡ remembered old)

pub data Outcome (c : Call) (s : State) : State → Type 0 where
  nothing : tick_of c ≡ 0 → Outcome c s s
  enrolled : tick_of c ≡ 0 → (room : Room) → AccountGood room → (room.id ≡ 0 → ⊥) → is_there room.id s ≡ false
      → holds 0 s.rooms ≡ true → Outcome c s (with_account (place_of 0 s.rooms) room s)
  removed : tick_of c ≡ 0 → (id : ℕ) → is_there id s ≡ true → NotFor c id → ((i : ℕ) → keeps_account i c ≡ true → eqb id i ≡ false)
      → Another c s id → Outcome c s (with_room (place_of id s.rooms) free_room s)
  joined : tick_of c ≡ 0 → (port id : ℕ) → port ≤ 3 → is_there id s ≡ true → waits port s ≡ false
      → (port_of port s).shut ≡ 0 → NotBy c port → Another c s id → Outcome c s (Steps.joins port id s)
  left : tick_of c ≡ 0 → (port : ℕ) → NotBy c port → Outside c s port → Outcome c s (Steps.leaves port s)
  accepted : tick_of c ≡ 0 → (port : ℕ) (next : Room) → TurnGood port s → NotBy c port → Outside c s port → next.id ≡ (own_account port s).id
      → (AccountGood (own_account port s) → AccountGood next) → Kept c (own_account port s) next → SeedStep (own_account port s) next
      → Outcome c s (Steps.accepted port next s).state
  rejected : tick_of c ≡ 0 → (port : ℕ) → TurnGood port s → NotBy c port → Outside c s port → Outcome c s (Steps.rejected port s).state
  ticked : tick_of c ≡ 1 → ((i : ℕ) → elsewhere i s c ≡ false) → Outcome c s (Steps.tick s)

-- ---- what Join's checks and a turn's establish

pub join_good : (port id : ℕ) (s : State) → join_checked port id s ≡ Ok tt
    → (port ≤ 3) × (is_there id s ≡ true) × (waits port s ≡ false) × ((port_of port s).shut ≡ 0)
join_good port id s e =
    let passed = join_passed port id s e in (
      leb-true port 3 passed.known,
      passed.there,
      not-true (waits port s) passed.out,
      eqb-true (port_of port s).shut 0 passed.unshut,
    )

pub turn_good : (port : ℕ) (s : State) → turn_checked port s ≡ Ok tt → TurnGood port s
turn_good port s e =
    let passed = turn_passed port s e in
    record {
      known = leb-true port 3 passed.known;
      inside = passed.inside;
      front = passed.front;
      there = eqb-false (own_account port s).id 0 (not-true (eqb (own_account port s).id 0) passed.there);
      unused = ltb-true 1 (own_account port s).count passed.unused;
    }
