-- The checks of a turn, on the room in whose line the port stands, that line and its account: TurnCheckLaws ties them to the written ones.
use Rattle.std.specs.Prelude.{ℕ, not, List, [], ◌∷◌, eqb, leb, ltb, Err}
use Rattle.refusal.specs.declared.Refusal.{Refusal}
use Rattle.refusal.specs.Answers.{Checked}
use Rattle.refusal.specs.Checks.{must, unless, in_order}
use Rattle.line.specs.Line.{Waiting, front_of}
use Rattle.accounts.specs.Rooms.{Room}
use Rattle.table.specs.Table.{is_front}

-- 55, 59, 60.
abbrev pub place_checks : ℕ → ℕ → Waiting → List Checked
place_checks port place line =
    must (leb port 3) Refusal.PortUnknown ∷ must (ltb place 32) Refusal.PortNotInLine
    ∷ must (is_front port (front_of line)) Refusal.PortNotInFront ∷ []

-- 54, 58.
abbrev pub account_checks : Room → List Checked
account_checks room = must (not (eqb room.id 0)) Refusal.AccountMissing ∷ must (ltb 1 room.count) Refusal.AccountUsedUp ∷ []

unfoldable pub front_checked : ℕ → ℕ → Waiting → Room → Checked
front_checked port place line room = unless Err (in_order (place_checks port place line)) (in_order (account_checks room))
