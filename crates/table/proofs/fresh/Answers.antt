-- `fresh` meets its promise: free rooms with empty lines, and zeros.
use Prim.Native.Nat.{ℕ}
use mathlib.Core.Path.{ap}
use mathlib.Core.List.{List}
use lib.ListN.{replicate}
use Rattle.line.specs.Line.{Waiting}
use Rattle.accounts.specs.Rooms.{part_of}
use Rattle.table.specs.Table.{State, fresh_port, held_from}
use Rattle.table.specs.ViewLaws.{blank}
use Rattle.table.proofs.fresh.Goals as goal

abbrev with_lines : List ℕ → (ℕ → Waiting) → State
with_lines older lines = record { rooms = held_from 0 (replicate 32 blank) (part_of older) lines; ports = replicate 4 fresh_port }

pub returns : goal.returns
unfolding held_from
returns c older = ap (with_lines older) c.fresh.ensures
