-- What holds of every table that calls make from the fresh one.
use Rattle.std.specs.Prelude.{ℕ, ◌≤◌, ◌≡◌, Bool, true, false, ◌||◌, List, [], ◌∷◌, length}
use Rattle.text.specs.Kinds.{is_lower, is_digit}
use Rattle.text.specs.Tests.{every}
use Rattle.line.specs.Line.{Waiting, empty, of_port, some}
use Rattle.port.specs.declared.Port.{Port}
use Rattle.accounts.specs.Rooms.{Room, remembered}
use Rattle.accounts.specs.Accounts.{is_one_of}
use Rattle.table.specs.Table.{State, Held, port_of, in_lines}
use Rattle.refusal.specs.Each.{Each}

-- ---- the lines

-- No port stands among these twice.
abbrev pub Once : List ℕ → Type 0
Once [] = Unit {0}
Once (port ∷ ports) = (some (of_port port) ports ≡ false) × Once ports

-- "while the line is empty the turn stands at 0"; otherwise 1 to 60 ticks are left.
abbrev pub TurnRight : List ℕ → ℕ → Type 0
TurnRight [] turn = turn ≡ 0
TurnRight (port ∷ ports) turn = (1 ≤ turn) × (turn ≤ 60)

-- One line: no port over 3, none twice, and its turn.
pub record Standing (w : Waiting) : Type 0 where
  pub known : Each (λ (port : ℕ). port ≤ 3) w.ports
  pub once : Once w.ports
  pub turn : TurnRight w.ports w.turn

-- ---- the accounts

-- "Seeds are kept in lower case": a lower-case letter or a digit.
abbrev pub is_kept : ℕ → Bool
is_kept b = is_lower b || is_digit b

-- A seed as it is kept.
pub record SeedGood (seed : List ℕ) : Type 0 where
  pub from : 1 ≤ length seed
  pub to : length seed ≤ 16
  pub kept : every is_kept seed ≡ true

-- No seed stands among these twice.
abbrev pub Different : List (List ℕ) → Type 0
Different [] = Unit {0}
Different (seed ∷ seeds) = (is_one_of seed seeds ≡ false) × Different seeds

-- What an account is in tables that calls make. R-5: it remembers "its last eight seeds, the present one included", which are different.
pub record AccountGood (room : Room) : Type 0 where
  pub count_from : 1 ≤ room.count
  pub count_to : room.count ≤ 9999
  pub few : length (remembered room) ≤ 8
  pub seeds : Each SeedGood (remembered room)
  pub different : Different (remembered room)

-- Rooms in use have different ids.
abbrev pub Apart : List Held → Type 0
Apart [] = Unit {0}
Apart (held ∷ rooms) = ((held.account.id ≡ 0 → ⊥) → Each (λ (other : Held). other.account.id ≡ held.account.id → ⊥) rooms) × Apart rooms

-- An account that is in use is a good one.
abbrev pub RoomGood : Held → Type 0
RoomGood held = (held.account.id ≡ 0 → ⊥) → AccountGood held.account

-- Nobody waits for an account that isn't there.
abbrev pub Idle : Held → Type 0
Idle held = held.account.id ≡ 0 → held.line ≡ empty

abbrev pub LineRight : Held → Type 0
LineRight held = TurnRight held.line.ports held.line.turn

abbrev pub PortGood : Port → Type 0
PortGood port = (port.wrong ≤ 2) × (port.shut ≤ 900)

-- The lines: in all of them together no port over 3, none twice and none that is shut; each with 1 to 60 ticks left, 0 where it is empty;
-- nobody waits for an account that isn't there. The rooms: 32, those in use with different ids, each with a count of 1 to 9,999 and one to
-- eight remembered seeds, the present one first, all different, each of 1 to 16 lower-case letters and digits. The ports: four, each with 0
-- to 2 wrong replies in a row and 0 to 900 shut ticks.
pub record Made (s : State) : Type 0 where
  pub known : Each (λ (port : ℕ). port ≤ 3) (in_lines s.rooms)
  pub once : Once (in_lines s.rooms)
  pub unshut : Each (λ (port : ℕ). (port_of port s).shut ≡ 0) (in_lines s.rooms)
  pub turns : Each LineRight s.rooms
  pub idle : Each Idle s.rooms
  pub room_count : length s.rooms ≡ 32
  pub port_count : length s.ports ≡ 4
  pub good : Each RoomGood s.rooms
  pub apart : Apart s.rooms
  pub runs : Each PortGood s.ports
