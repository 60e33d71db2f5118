-- How many wait in a table that calls make.
use Rattle.std.specs.Prelude.{ℕ, ◌≤◌, ◌≡◌, false, length}
use Rattle.std.proofs.Common.{sym, ◌∙◌}
use Rattle.table.specs.Table.{State, in_lines, waits}
use Rattle.reached.specs.Made.{Made}
use Rattle.reached.specs.LinesChanged as Lines
use Rattle.reached.specs.LinesChanged.{waits_in}

-- "Four ports": at most four in all lines together, and three beside a port that isn't in line.
pub at_most_four : (s : State) → Made s → length (in_lines s.rooms) ≤ 4
at_most_four s m = Lines.at_most_four (in_lines s.rooms) m.known m.once

pub three_others : (port : ℕ) (s : State) → Made s → port ≤ 3 → waits port s ≡ false → length (in_lines s.rooms) ≤ 3
three_others port s m h n = Lines.three_others port (in_lines s.rooms) h (sym (waits_in port s) ∙ n) m.known m.once
