-- Sixteen words, four at a time.
use Rattle.std.specs.Prelude.{ℕ, ◌+◌, List, slice_index}
use Rattle.block.specs.declared.by_four.Four.{Four}

-- Four of the words w, from the i-th on.
abbrev pub four_at : List ℕ → ℕ → Four
four_at w i = record { 0 = slice_index w i; 1 = slice_index w (i + 1); 2 = slice_index w (i + 2); 3 = slice_index w (i + 3) }
