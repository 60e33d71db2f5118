-- The rooms, as they are looked through.
use Rattle.std.proofs.Common.{ℕ, suc, ◌≡◌, ◌+◌, List, [], ◌∷◌, length, Bool, true, false, cond, not, eqb, ltb, Option, Some, None}
use Rattle.std.proofs.Common.{refl, sym, ap, ap₂, ◌∙◌, arith}
use borrow.Author.Tests.{ltb-false}
use Rattle.std.specs.List.{position_or_len}
use Rattle.std.specs.Option.{unwrap_or}
use Rattle.std.proofs.lemmas.List.Sums.{prefix_len-le-length}
use Rattle.line.specs.Line.{Waiting, waiting}
use Rattle.accounts.specs.declared.Account.{Account}
use Rattle.accounts.specs.Rooms.{part_of}
use Rattle.table.specs.declared.Table.{Table}
use Rattle.table.specs.Table.{held_from, view, place_of, holds}
use Rattle.table.specs.ViewLaws.{rooms-32}

abbrev pub has_id : ℕ → Account → Bool
has_id id a = eqb a.id id

-- The first of these accounts with that id; as many as there are where none has it.
abbrev first_with : ℕ → List Account → ℕ
first_with id l = position_or_len (has_id id) l

-- It stands in the room with that id, whatever the older seeds and the lines are.
place_first : (parts : ℕ → List ℕ) (lines : ℕ → Waiting) (id k : ℕ) (l : List Account) → place_of id (held_from k l parts lines) ≡ first_with id l
unfolding place_of held_from
place_first parts lines id k [] = refl
place_first parts lines id k (a ∷ l) = by (has_id id a) (place_first parts lines id (suc k) l)
  where
    by : (b : Bool) → place_of id (held_from (suc k) l parts lines) ≡ first_with id l
        → cond b 0 (suc (place_of id (held_from (suc k) l parts lines))) ≡ cond (not b) (1 + first_with id l) 0
    by true e = refl
    by false e = omega arith

-- What a look through the rooms has found: the place of an id, and whether it is one of the 32.
pub looked : (id : ℕ) (t : Table) (r : Option ℕ) → length t.rooms ≡ 32
    → r ≡ cond (ltb (first_with id t.rooms) (length t.rooms)) (Some (first_with id t.rooms)) None → (older : List ℕ)
    → (unwrap_or r 32 ≡ place_of id (view t older).rooms) × (ltb (unwrap_or r 32) 32 ≡ holds id (view t older).rooms)
looked id t r all e older =
    let n = first_with id t.rooms in
    let here = by (ltb n (length t.rooms)) refl in
    let place = ap (λ (r : Option ℕ). unwrap_or r 32) e ∙ here ∙ sym (place_first (part_of older) (waiting t.lines) id 0 t.rooms) in
    (place, ap₂ ltb place (sym (rooms-32 t older all)))
  where
    by : (b : Bool) → ltb (first_with id t.rooms) (length t.rooms) ≡ b
        → unwrap_or (cond b (Some (first_with id t.rooms)) None) 32 ≡ first_with id t.rooms
    by true e = refl
    by false e = let past = ltb-false _ _ e in omega (arith, prefix_len-le-length (λ a. not (has_id id a)) t.rooms)
