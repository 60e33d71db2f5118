-- `change_all` meets its promise: those that stay are what becomes of the places so far.
use Rattle.std.proofs.Common.{◌≡◌, ◌≤◌, ℕ, Bool, [], take, length}
use Rattle.line.specs.declared.Place.{Place}
use Rattle.line.specs.Inside.{changed, Keeps}
use Rattle.line.proofs.Seen.{Seen}
use Rattle.line.proofs.Lines.change_all.Given as goal

abbrev pub invariant-loop-place : goal.invariant-loop-place
invariant-loop-place g l =
    let before = take l.place-index l.place-items in
    (l.kept ≤ l.place-index) × (length l.places ≡ 4) × (length l.place-items ≤ 4) × (length l.seen ≡ 32) × Seen l.seen before
    × ((gone : Bool → Place → Bool) (after : ℕ → ℕ) → Keeps gone after (goal.F-post g l.change)
    → take l.kept l.places ≡ changed gone after [] before)
