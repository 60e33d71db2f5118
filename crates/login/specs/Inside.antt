-- Helper definitions of private functions: nothing outside this crate rests on them.
use Rattle.std.specs.Prelude.{ℕ, Bool, not, ◌&&◌, List, [], ◌∷◌, eqb, leb, ltb}
use Rattle.refusal.specs.declared.Refusal.{Refusal}
use Rattle.refusal.specs.Answers.{Checked}
use Rattle.refusal.specs.Checks.{must}
use Rattle.accounts.specs.Rooms.{Room}
use Rattle.table.specs.Table.{State, port_of, waits}

-- Enrol's checks, by their tests and by what is found of the values: 50, then 51, 21, 23, 24, then 52, 53.
abbrev pub enrol_checks : Bool → Checked → Bool → Bool → List Checked
enrol_checks given values new room = must given Refusal.IdZero ∷ values ∷ must new Refusal.IdTaken ∷ must room Refusal.TableFull ∷ []

-- By the places of the id and of the first free room, 32 where there is none.
abbrev pub enrol_found : ℕ → Checked → ℕ → ℕ → List Checked
enrol_found id values place room =
    enrol_checks (not (eqb id 0)) values (not (not (eqb id 0) && ltb place 32)) (ltb room 32)

-- Remove's check: 54.
abbrev pub there : ℕ → ℕ → Checked
there id place = must (not (eqb id 0) && ltb place 32) Refusal.AccountMissing

-- Join's checks, by their tests: 55, 54, 56, 57, 58.
abbrev pub join_checks : Bool → Bool → Bool → Bool → Bool → List Checked
join_checks known there out unshut unused =
    must known Refusal.PortUnknown ∷ must there Refusal.AccountMissing ∷ must out Refusal.PortInLine
    ∷ must unshut Refusal.PortShut ∷ must unused Refusal.AccountUsedUp ∷ []

-- By what was found where the account was looked up.
abbrev pub join_found : ℕ → Room → State → List Checked
join_found port account s =
    join_checks (leb port 3) (not (eqb account.id 0)) (not (waits port s)) (eqb (port_of port s).shut 0) (ltb 1 account.count)
