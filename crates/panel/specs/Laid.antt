-- A writer's answer laid out for C: one argument for all writers.
use Rattle.std.specs.Prelude.{ℕ, ◌≡◌, List}
use Rattle.std.proofs.Common.{ap, ◌∙◌}
use Rattle.refusal.specs.Answers.{Written}
use Rattle.text.specs.Put.{leaves}
use Rattle.panel.specs.declared.structs.LiftWritten.{LiftWritten}
use Rattle.panel.specs.Answers.{written_row, Reported}

-- The library's function answered w, which is a, and left b'.
pub laid : (a w : Written) (t b b' : List ℕ) (r : LiftWritten) → w ≡ a → b' ≡ leaves w t b → r ≡ written_row w
    → Reported a t b b' r
laid a w t b b' r e left row = (row ∙ ap written_row e, left ∙ ap (λ (x : Written). leaves x t b) e)
