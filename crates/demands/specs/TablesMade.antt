-- What holds of tables that calls make.
use Rattle.std.specs.Prelude.{ℕ, ◌≤◌, ◌≡◌, true, ◌↔◌, List, [], ◌∷◌, length, Ok, Err}
use Rattle.std.proofs.Common.{subst}
use Rattle.refusal.specs.declared.Refusal.{Refusal}
use Rattle.refusal.specs.Answers.{Checked}
use Rattle.refusal.specs.Checks.{in_order}
use Rattle.password.specs.Algorithm.{numbered, algorithm_checked}
use Rattle.password.specs.PhraseAndSeed.{seed_checked}
use Rattle.line.specs.Line.{stands_in}
use Rattle.accounts.specs.Accounts.{count_within}
use Rattle.table.specs.Table.{State, line_of, in_lines}
use Rattle.table.specs.TableChecks.{id_given, id_new}
use Rattle.table.specs.Steps.{enrol, remove}
use Rattle.reached.specs.InTurn.{Reached}
use Rattle.reached.specs.Calls.{Call, answer, after}
use Rattle.reached.specs.Equal.{accounts_in, Equal}
use Rattle.reached.specs.Laws.{equal_calls}
use Rattle.reached.specs.Made.{Made, TurnRight}
use Rattle.grounds.specs.Few.{at_most_four}
use Rattle.grounds.specs.Keeps.{made_housed, made, standing_of, one_line}
use Rattle.grounds.specs.Full.{enrol_full, removed_room_used}

pub tables_are_made : (s : State) → Reached s → Made s
tables_are_made s r = made s r

-- At most four are in line, in all lines together.
pub four_in_line : (s : State) → Reached s → length (in_lines s.rooms) ≤ 4
four_in_line s r = at_most_four s (made s r)

-- R-4: "a port is still in one line at most".
pub in_one_line : (s : State) → Reached s → (port i j : ℕ) → stands_in port (line_of i s) ≡ true → stands_in port (line_of j s) ≡ true → i ≡ j
in_one_line s r port i j e f = one_line s (made s r) port i j e f

-- "while the line is empty the turn stands at 0", in each account's line
pub empty_line_turn_0 : (s : State) → Reached s → (id : ℕ) → (line_of id s).ports ≡ [] → (line_of id s).turn ≡ 0
empty_line_turn_0 s r id e = subst (λ (ports : List ℕ). TurnRight ports (line_of id s).turn) e (standing_of s (made s r) id).turn

-- "Two tables are equal when they have the same accounts by id, port records, line and turn": each call answers them equally, and leaves them equal.
pub equal_tables_alike : (s t : State) → Reached s → Reached t → Equal s t → (c : Call)
    → (answer c s ≡ answer c t) × Equal (after c s) (after c t)
equal_tables_alike s t r q e c = equal_calls s t (made_housed s (made s r)) (made_housed t (made t q)) e c

-- What Enrol checks before 53: 50, 51, 21, 23, 24, 52.
abbrev pub before_full : ℕ → ℕ → ℕ → List ℕ → State → Checked
before_full id number count seed s = in_order (id_given id ∷ count_within count ∷ algorithm_checked (numbered number) ∷ seed_checked seed ∷ id_new id s ∷ [])

-- "53 is given exactly when 32 accounts are there", where the checks before it find nothing wrong.
pub enrol_full_exactly : (s : State) → Reached s → (id number count : ℕ) (seed password : List ℕ)
    → ((enrol id number count seed password s).answer ≡ Err Refusal.TableFull)
    ↔ ((before_full id number count seed s ≡ Ok tt) × (accounts_in s.rooms ≡ 32))
enrol_full_exactly s r id number count seed password = enrol_full id number count seed password s (made_housed s (made s r))

-- "A removed account's room is used again": after a Remove that is done, from a full table too, an Enrol is done unless one of the
-- checks before 53 refuses it.
pub removed_room_is_used : (s : State) → Reached s → (gone : ℕ) → (remove gone s).answer ≡ Ok tt → (id number count : ℕ) (seed password : List ℕ)
    → before_full id number count seed (remove gone s).state ≡ Ok tt
    → (enrol id number count seed password (remove gone s).state).answer ≡ Ok tt
removed_room_is_used s r gone e id number count seed password good = removed_room_used gone s (made_housed s (made s r)) e id number count seed password good
