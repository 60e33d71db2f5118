-- What a table is made of: document 01, 'Table, ports and turns', and document 02, R-4 and R-5.
use Rattle.std.specs.Prelude.{ℕ, suc, Bool, cond, not, ◌&&◌, List, [], ◌∷◌, ◌++◌, map, eqb, ltb, length, get_or, set, replicate, Option, Some, None}
use Rattle.line.specs.Line.{Waiting, waiting, empty, stands_in, front_of}
use Rattle.port.specs.declared.Port.{Port}
use Rattle.accounts.specs.declared.Account.{Account}
use Rattle.accounts.specs.Rooms.{Room, part_of, room_of, free}
use Rattle.table.specs.declared.Table.{Table}

-- What a room of the table holds: an account, or none, and R-4's "own line and turn" of the account.
pub record Held : Type 0 where
  pub account : Room
  pub line : Waiting

abbrev pub free_room : Held
free_room = record { account = free; line = empty }

-- "32 accounts at most", in as many rooms. "Four ports, 0 to 3", each with "a run of wrong replies and shut ticks".
pub record State : Type 0 where
  pub rooms : List Held
  pub ports : List Port

-- What a table's bytes mean: the accounts from room k on, each with its room's older seeds and line.
unfoldable pub held_from : ℕ → List Account → (ℕ → List ℕ) → (ℕ → Waiting) → List Held
held_from k [] parts lines = []
held_from k (account ∷ accounts) parts lines = record { account = room_of account (parts k); line = lines k } ∷ held_from (suc k) accounts parts lines

-- The bytes of the older seeds stand apart from the table, and are lent to the offer of a renewal alone.
abbrev pub view : Table → List ℕ → State
view t older = record { rooms = held_from 0 t.rooms (part_of older) (waiting t.lines); ports = t.ports }

-- "A fresh table has no accounts, an empty line and zeros": no account, so no line that isn't empty.
abbrev pub fresh_port : Port
fresh_port = record { wrong = 0; shut = 0 }

abbrev pub fresh : State
fresh = record { rooms = replicate 32 free_room; ports = replicate 4 fresh_port }

-- ---- accounts by their id

-- The first room with that id; as many as there are rooms where none has it.
unfoldable pub place_of : ℕ → List Held → ℕ
place_of id [] = 0
place_of id (held ∷ rooms) = cond (eqb held.account.id id) 0 (suc (place_of id rooms))

-- One of the rooms has that id.
abbrev pub holds : ℕ → List Held → Bool
holds id rooms = ltb (place_of id rooms) (length rooms)

-- "ids 1 to 65,535": an account with that id is there.
abbrev pub is_there : ℕ → State → Bool
is_there id s = not (eqb id 0) && holds id s.rooms

-- What the room at that place holds.
abbrev pub room_at : ℕ → State → Held
room_at at s = get_or s.rooms at free_room

-- The account with that id, and its line; a free room, with nobody in line, where there is none.
abbrev pub held_of : ℕ → State → Held
held_of id s = room_at (place_of id s.rooms) s

abbrev pub account_of : ℕ → State → Room
account_of id s = (held_of id s).account

abbrev pub line_of : ℕ → State → Waiting
line_of id s = (held_of id s).line

-- A port's own record.
abbrev pub port_of : ℕ → State → Port
port_of port s = get_or s.ports port fresh_port

-- ---- the line in which a port stands

-- All ports in line, line by line.
unfoldable pub in_lines : List Held → List ℕ
in_lines [] = []
in_lines (held ∷ rooms) = held.line.ports ++ in_lines rooms

-- The first room in whose line the port stands ("a port is still in one line at most"); as many as there are rooms where it is in none.
unfoldable pub stands_at : ℕ → List Held → ℕ
stands_at port [] = 0
stands_at port (held ∷ rooms) = cond (stands_in port held.line) 0 (suc (stands_at port rooms))

-- The port is in line.
abbrev pub waits : ℕ → State → Bool
waits port s = ltb (stands_at port s.rooms) (length s.rooms)

-- What its room holds: the account that it waits for, and its own line.
abbrev pub own_room : ℕ → State → Held
own_room port s = room_at (stands_at port s.rooms) s

abbrev pub own_account : ℕ → State → Room
own_account port s = (own_room port s).account

-- The port has the turn: it is in front of its own line.
abbrev pub is_front : ℕ → Option ℕ → Bool
is_front port None = Bool.false
is_front port (Some other) = eqb other port

abbrev pub has_turn : ℕ → State → Bool
has_turn port s = is_front port (front_of (own_room port s).line)

-- ---- the table with something else in it

abbrev pub with_room : ℕ → Held → State → State
with_room at held s = record { rooms = set s.rooms at held; ports = s.ports }

-- Another account in a room, whose line stays; another line for an account.
abbrev pub with_account : ℕ → Room → State → State
with_account at account s = with_room at (record { account = account; line = (room_at at s).line }) s

abbrev pub with_line : ℕ → Waiting → State → State
with_line at line s = with_room at (record { account = (room_at at s).account; line = line }) s

-- What happens to every line.
abbrev pub lined : (Waiting → Waiting) → Held → Held
lined change held = record { account = held.account; line = change held.line }

abbrev pub each_line : (Waiting → Waiting) → State → State
each_line change s = record { rooms = map (lined change) s.rooms; ports = s.ports }

abbrev pub with_port : ℕ → Port → State → State
with_port port record' s = record { rooms = s.rooms; ports = set s.ports port record' }
