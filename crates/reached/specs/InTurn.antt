-- The words of the letter's third demand and of R-4: ticks, quiet calls, a port's turn for an account, calls elsewhere.
use Rattle.std.specs.Prelude.{ℕ, ◌+◌, ◌≤◌, ◌≡◌, Bool, true, false, not, ◌&&◌, ◌||◌, List, [], ◌∷◌, ◌++◌, eqb}
use Rattle.line.specs.Line.{stands_in, front_of}
use Rattle.table.specs.Table.{State, fresh, line_of, is_front}
use Rattle.reached.specs.Calls.{Call, after, run}

-- "From a fresh table, after any calls": the table s is one that calls make.
pub record Reached (s : State) : Type 0 where
  pub calls : List Call
  pub reached : run calls fresh ≡ s

-- How many ticks there are among the calls.
abbrev pub tick_of : Call → ℕ
tick_of (Call.Enrol id number count seed password) = 0
tick_of (Call.Remove id) = 0
tick_of (Call.Join port id) = 0
tick_of (Call.Leave port) = 0
tick_of (Call.Challenge port room) = 0
tick_of (Call.Offer port password) = 0
tick_of (Call.OfferRenewal port number count seed new password) = 0
tick_of Call.Tick = 1

unfoldable pub ticks : List Call → ℕ
ticks [] = 0
ticks (call ∷ calls) = tick_of call + ticks calls

-- "if its account isn't removed and the port only looks at its challenge meanwhile, whatever other ports do": the call does not
-- remove the account i, and if it is the port p's own, it is Challenge.
abbrev pub quiet : ℕ → ℕ → Call → Bool
quiet p i (Call.Enrol id number count seed password) = true
quiet p i (Call.Remove id) = not (eqb id i)
quiet p i (Call.Join port id) = not (eqb port p)
quiet p i (Call.Leave port) = not (eqb port p)
quiet p i (Call.Challenge port room) = true
quiet p i (Call.Offer port password) = not (eqb port p)
quiet p i (Call.OfferRenewal port number count seed new password) = not (eqb port p)
quiet p i Call.Tick = true

-- R-1, "an account keeps its algorithm, and renewal may change it": the call is no renewal, and does not remove the account i.
abbrev pub keeps_algorithm : ℕ → Call → Bool
keeps_algorithm i (Call.Enrol id number count seed password) = true
keeps_algorithm i (Call.Remove id) = not (eqb id i)
keeps_algorithm i (Call.Join port id) = true
keeps_algorithm i (Call.Leave port) = true
keeps_algorithm i (Call.Challenge port room) = true
keeps_algorithm i (Call.Offer port password) = true
keeps_algorithm i (Call.OfferRenewal port number count seed new password) = false
keeps_algorithm i Call.Tick = true

-- The port p has the turn for the account i: it is in front of the account's line.
abbrev pub has_turn_for : ℕ → ℕ → State → Bool
has_turn_for p i s = is_front p (front_of (line_of i s))

abbrev pub HasTurn : ℕ → ℕ → State → Type 0
HasTurn p i s = has_turn_for p i s ≡ true

-- "meanwhile": each call is quiet up to the moment at which p has the turn for i.
unfoldable pub quiet_meanwhile : ℕ → ℕ → List Call → State → Bool
quiet_meanwhile p i [] s = true
quiet_meanwhile p i (call ∷ calls) s = has_turn_for p i s || quiet p i call && quiet_meanwhile p i calls (after call s)

-- "has its turn begin by the 180th tick": along the calls, from the table s, there is a moment after at most `limit` ticks at
-- which p has the turn for i, with all of its 60 ticks.
pub record TurnBegins (p i limit : ℕ) (calls : List Call) (s : State) : Type 0 where
  pub early : List Call
  pub late : List Call
  pub parted : calls ≡ early ++ late
  pub soon : ticks early ≤ limit
  pub turn : HasTurn p i (run early s)
  pub whole : (line_of i (run early s)).turn ≡ 60

-- The call is made by that port; it is a Join for that account.
abbrev pub made_by : ℕ → Call → Bool
made_by p (Call.Enrol id number count seed password) = false
made_by p (Call.Remove id) = false
made_by p (Call.Join port id) = eqb port p
made_by p (Call.Leave port) = eqb port p
made_by p (Call.Challenge port room) = eqb port p
made_by p (Call.Offer port password) = eqb port p
made_by p (Call.OfferRenewal port number count seed new password) = eqb port p
made_by p Call.Tick = false

abbrev pub joins_for : ℕ → Call → Bool
joins_for i (Call.Enrol id number count seed password) = false
joins_for i (Call.Remove id) = false
joins_for i (Call.Join port id) = eqb id i
joins_for i (Call.Leave port) = false
joins_for i (Call.Challenge port room) = false
joins_for i (Call.Offer port password) = false
joins_for i (Call.OfferRenewal port number count seed new password) = false
joins_for i Call.Tick = false

-- R-4, "Calls of ports in other lines": the call is elsewhere, seen from the account i. It is no tick, it does not remove the account, the port
-- that makes it isn't in the account's line, and it is no Join for that account. (Challenge only looks, and a Join for another account is
-- elsewhere whoever makes it.)
abbrev pub elsewhere : ℕ → State → Call → Bool
elsewhere i s (Call.Enrol id number count seed password) = true
elsewhere i s (Call.Remove id) = not (eqb id i)
elsewhere i s (Call.Join port id) = not (eqb id i)
elsewhere i s (Call.Leave port) = not (stands_in port (line_of i s))
elsewhere i s (Call.Challenge port room) = true
elsewhere i s (Call.Offer port password) = not (stands_in port (line_of i s))
elsewhere i s (Call.OfferRenewal port number count seed new password) = not (stands_in port (line_of i s))
elsewhere i s Call.Tick = false
