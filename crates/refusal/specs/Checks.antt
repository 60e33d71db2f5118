-- One check after the other: "Checks run in the order given."
use Rattle.std.specs.Prelude.{Bool, cond, List, [], ◌∷◌, Result, Ok, Err}
use Rattle.refusal.specs.declared.Refusal.{Refusal}
use Rattle.refusal.specs.Answers.{Checked, Reading}

-- A test, with its refusal.
abbrev pub must : Bool → Refusal → Checked
must test why = cond test (Ok tt) (Err why)

-- What comes next if the check found nothing wrong; otherwise its refusal, as an answer of that kind.
abbrev pub unless : {A : Type 0} → (Refusal → A) → Checked → A → A
unless refused (Ok _) next = next
unless refused (Err why) next = refused why

-- "Checks run in the order given": the first refusal.
abbrev pub in_order : List Checked → Checked
in_order [] = Ok tt
in_order (check ∷ checks) = unless Err check (in_order checks)

-- What an answer is refused with.
abbrev pub checked_of : {A : Type 0} → Result A Refusal → Checked
checked_of (Ok value) = Ok tt
checked_of (Err why) = Err why

-- What a password that was to be read is refused with.
abbrev pub read_checked : Reading → Checked
read_checked = checked_of
