-- The refusals of the table, 50 to 63, each as a check: document 01, 'Refusal numbers'. 51 and what 63 compares are in `accounts`.
use Rattle.std.specs.Prelude.{ℕ, not, eqb, leb, ltb}
use Rattle.refusal.specs.declared.Refusal.{Refusal}
use Rattle.refusal.specs.Answers.{Checked}
use Rattle.refusal.specs.Checks.{must}
use Rattle.accounts.specs.Rooms.{Room}
use Rattle.table.specs.Table.{State, is_there, holds, port_of, waits, has_turn}

-- 50: "id 0 at enrolment"
abbrev pub id_given : ℕ → Checked
id_given id = must (not (eqb id 0)) Refusal.IdZero

-- 52: "id already there"
abbrev pub id_new : ℕ → State → Checked
id_new id s = must (not (is_there id s)) Refusal.IdTaken

-- 53: "no room"
abbrev pub room_left : State → Checked
room_left s = must (holds 0 s.rooms) Refusal.TableFull

-- 54: "no such account (id 0 too)"
abbrev pub account_there : ℕ → State → Checked
account_there id s = must (is_there id s) Refusal.AccountMissing

-- The same of the account that a port waits for: no call leaves a port in line for an account that isn't there.
abbrev pub account_held : Room → Checked
account_held account = must (not (eqb account.id 0)) Refusal.AccountMissing

-- 55: "port over 3"
abbrev pub port_known : ℕ → Checked
port_known port = must (leb port 3) Refusal.PortUnknown

-- 56: "port already in line", for any account
abbrev pub not_in_line : ℕ → State → Checked
not_in_line port s = must (not (waits port s)) Refusal.PortInLine

-- 57: "port shut"
abbrev pub port_open : ℕ → State → Checked
port_open port s = must (eqb (port_of port s).shut 0) Refusal.PortShut

-- 58: "account used up: stored count 1"; 0, which no call stores, is used up too
abbrev pub not_used_up : Room → Checked
not_used_up account = must (ltb 1 account.count) Refusal.AccountUsedUp

-- 59: "port not in line"
abbrev pub in_line : ℕ → State → Checked
in_line port s = must (waits port s) Refusal.PortNotInLine

-- 60: "in line but not in front"; R-4: "60 means not in front of its own line"
abbrev pub in_front : ℕ → State → Checked
in_front port s = must (has_turn port s) Refusal.PortNotInFront
