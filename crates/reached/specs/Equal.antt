-- When two tables are equal, and how many accounts are there: document 01, 'Table, ports and turns'.
use Rattle.std.specs.Prelude.{ℕ, suc, ◌≤◌, ◌≡◌, cond, List, [], ◌∷◌, eqb, length}
use Rattle.std.proofs.Math.Option.{Option, none, some}
use Rattle.table.specs.Table.{State, Held, in_lines}
use Rattle.table.specs.Steps.{After}
use Rattle.refusal.specs.Each.{Each}
use Rattle.reached.specs.Made.{Idle, Once}

-- The account with that id, where there is one.
unfoldable pub account_by : ℕ → List Held → Option Held
account_by id [] = none
account_by id (room ∷ rooms) = cond (eqb room.account.id id) (some room) (account_by id rooms)

-- "the same accounts by id": the room that an account stands in isn't part of it.
abbrev pub SameAccounts : List Held → List Held → Type 0
SameAccounts l m = (id : ℕ) → (id ≡ 0 → ⊥) → account_by id l ≡ account_by id m

-- "Two tables are equal when they have the same accounts by id, port records, line and turn"; R-4: each account has its line and turn, and
-- what an account's room holds is the account with them.
pub record Equal (s t : State) : Type 0 where
  pub accounts : SameAccounts s.rooms t.rooms
  pub ports : s.ports ≡ t.ports

-- Equal answers, and equal tables after them.
pub record Alike {A : Type 0} (r q : After A) : Type 0 where
  pub answer : r.answer ≡ q.answer
  pub state : Equal r.state q.state

-- How many rooms have that id.
unfoldable pub times : ℕ → List Held → ℕ
times id [] = 0
times id (room ∷ rooms) = cond (eqb room.account.id id) (suc (times id rooms)) (times id rooms)

-- How many accounts are there: the rooms that aren't free.
unfoldable pub accounts_in : List Held → ℕ
accounts_in [] = 0
accounts_in (room ∷ rooms) = cond (eqb room.account.id 0) (accounts_in rooms) (suc (accounts_in rooms))

-- 32 rooms, no two accounts with one id, nobody in line for a free room, and in all lines together no port twice and none over 3: so it is in
-- every table that calls make.
pub record Housed (s : State) : Type 0 where
  pub all : length s.rooms ≡ 32
  pub once : (id : ℕ) → (id ≡ 0 → ⊥) → times id s.rooms ≤ 1
  pub idle : Each Idle s.rooms
  pub single : Once (in_lines s.rooms)
  pub known : Each (λ (port : ℕ). port ≤ 3) (in_lines s.rooms)
