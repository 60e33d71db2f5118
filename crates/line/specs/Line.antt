-- A line and its turn: document 01, 'Table, ports and turns', and document 02, R-4; and what the four places mean.
use Rattle.std.specs.Prelude.{ℕ, zero, suc, ◌-◌, ◌%◌, Bool, false, cond, ◌||◌, ◌&&◌, List, [], ◌∷◌, ◌++◌, eqb, ltb, take, Option, Some, None}
use Rattle.line.specs.declared.Place.{Place}
use Rattle.line.specs.declared.Lines.{Lines}

-- An account's "own line" of waiting ports, front first, "and turn": "its front port has the turn", of so many ticks still.
pub record Waiting : Type 0 where
  pub ports : List ℕ
  pub turn : ℕ

-- "an empty line and zeros"
abbrev pub empty : Waiting
empty = record { ports = []; turn = 0 }

-- It is that port.
abbrev pub of_port : ℕ → ℕ → Bool
of_port port other = eqb other port

-- One of the ports passes the test.
unfoldable pub some : (ℕ → Bool) → List ℕ → Bool
some test [] = false
some test (port ∷ ports) = test port || some test ports

abbrev pub stands_in : ℕ → Waiting → Bool
stands_in port w = some (of_port port) w.ports

abbrev pub first : List ℕ → Option ℕ
first [] = None
first (port ∷ ports) = Some port

abbrev pub front_of : Waiting → Option ℕ
front_of w = first w.ports

-- The turn with which the front of these begins: "starts at 60 ticks"; "while the line is empty the turn stands at 0".
abbrev pub start : List ℕ → ℕ
start [] = 0
start (port ∷ ports) = 60

-- These ports, whose front begins.
abbrev pub started : List ℕ → Waiting
started ports = record { ports = ports; turn = start ports }

-- "A port that joins an empty line starts at 60 at once"; in any other line the turn goes on.
abbrev pub turn_joined : List ℕ → ℕ → ℕ
turn_joined [] turn = 60
turn_joined (port ∷ ports) turn = turn

-- Join: "The port goes to the back."
abbrev pub joined : ℕ → Waiting → Waiting
joined port w = record { ports = w.ports ++ port ∷ []; turn = turn_joined w.ports w.turn }

-- The ports that do not pass the test, in their order.
unfoldable pub others : (ℕ → Bool) → List ℕ → List ℕ
others gone [] = []
others gone (port ∷ ports) = cond (gone port) (others gone ports) (port ∷ others gone ports)

-- "Whenever the front port leaves, for any reason, the next one starts at 60": the turn when those ports leave.
unfoldable pub turn_without : (ℕ → Bool) → List ℕ → ℕ → ℕ
turn_without gone [] turn = turn
turn_without gone (port ∷ ports) turn = cond (gone port) (start (others gone ports)) turn

-- Leave, and whenever "the port leaves": a line in which it isn't stays as it is.
unfoldable pub left : ℕ → Waiting → Waiting
left port w = record { ports = others (of_port port) w.ports; turn = turn_without (of_port port) w.ports w.turn }

-- Tick: "if the line isn't empty, the turn falls by 1, and at 0 the front port leaves"
abbrev pub ticked_turn : List ℕ → ℕ → Waiting
ticked_turn [] turn = record { ports = []; turn = turn }
ticked_turn (port ∷ ports) turn = cond (eqb (turn - 1) 0) (started ports) (record { ports = port ∷ ports; turn = turn - 1 })

unfoldable pub ticked : Waiting → Waiting
ticked w = ticked_turn w.ports w.turn

-- ---- the line of each account, by the room in which the account stands

-- One room's line is another, the others stay.
abbrev pub into : ℕ → Waiting → (ℕ → Waiting) → ℕ → Waiting
into at w lines room = cond (eqb room at) w (lines room)

-- The first of n rooms, from room k on, in whose line the port stands; behind them where there is none.
unfoldable pub room_from : ℕ → ℕ → ℕ → (ℕ → Waiting) → ℕ
room_from port k zero lines = k
room_from port k (suc n) lines = cond (stands_in port (lines k)) k (room_from port (suc k) n lines)

-- Of the 32 rooms.
abbrev pub room_for : ℕ → (ℕ → Waiting) → ℕ
room_for port lines = room_from port 0 32 lines

-- That room, if there is one.
abbrev pub room_found : ℕ → (ℕ → Waiting) → Option ℕ
room_found port lines = let room = room_for port lines in cond (ltb room 32) (Some room) None

-- A port joins the line of one of the rooms, where fewer than four wait in all.
abbrev pub joined_in : ℕ → ℕ → ℕ → (ℕ → Waiting) → ℕ → Waiting
joined_in port room count lines = cond (ltb count 4 && ltb room 32) (into room (joined port (lines room)) lines) lines

-- ---- what the places mean

-- The places in use: the first `len`, which are at most four.
abbrev pub waiting_in : Lines → List Place
waiting_in l = take l.len l.places

-- The place is for the account in that room.
abbrev pub is_for : ℕ → Place → Bool
is_for room place = eqb (place.room % 32) room

-- The ports in line for that room's account, in the order of their places, and the turn of the first.
unfoldable pub ports_for : ℕ → List Place → List ℕ
ports_for room [] = []
ports_for room (place ∷ places) = cond (is_for room place) (place.port ∷ ports_for room places) (ports_for room places)

unfoldable pub turn_for : ℕ → List Place → ℕ
turn_for room [] = 0
turn_for room (place ∷ places) = cond (is_for room place) place.turn (turn_for room places)

abbrev pub line_for : ℕ → List Place → Waiting
line_for room places = record { ports = ports_for room places; turn = turn_for room places }

-- What the lines' bytes mean: each room's line.
abbrev pub waiting : Lines → ℕ → Waiting
waiting l room = line_for room (waiting_in l)
