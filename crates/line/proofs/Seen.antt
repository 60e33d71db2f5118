-- The rooms of the places seen so far, one place after the other.
use Prim.Native.Nat.{ℕ, zero, suc, ◌+◌, ◌<◌}
use mathlib.Core.Path.{◌≡◌, refl, sym, ap, ◌∙◌}
use mathlib.Core.Bool.{Bool, true, false, ◌||◌, or-true, or-false}
use mathlib.Core.List.{List, []}
use borrow.Author.Tests.{eqb-true, eqb-false}
use lib.ListN.{length, get_or, take, set, replicate}
use lib.Seq.{get_or-set_same, get_or-set_other}
use Rattle.line.specs.declared.Place.{Place}
use Rattle.line.specs.Line.{is_for}
use Rattle.line.specs.Inside.{room_in, place_at, taken}
use Rattle.line.proofs.Taken.{taken_next}

-- The rooms that were seen are those of the places.
abbrev pub Seen : List Bool → List Place → Type 0
Seen seen places = (room : ℕ) → get_or seen room false ≡ taken room places

pub none_seen : (n : ℕ) → Seen (replicate n false) []
unfolding taken
none_seen zero room = refl
none_seen (suc n) zero = refl
none_seen (suc n) (suc room) = none_seen n room

-- The room of the place at i is seen too.
pub seen_next : (seen : List Bool) (l : List Place) (i own : ℕ) → own ≡ room_in (place_at l i) → own < length seen → i < length l
    → Seen seen (take i l) → Seen (set seen own true) (take (i + 1) l)
seen_next seen l i own o g h s room = by (is_for room (place_at l i)) refl ∙ sym (taken_next room l i h)
  where
    by : (b : Bool) → is_for room (place_at l i) ≡ b → get_or (set seen own true) room false ≡ (taken room (take i l) || b)
    by true e =
        ap (λ (k : ℕ). get_or (set seen own true) k false) (sym (o ∙ eqb-true (room_in (place_at l i)) room e))
        ∙ get_or-set_same seen own true false g ∙ sym (or-true (taken room (take i l)))
    by false e =
        get_or-set_other seen own room true false (λ same. eqb-false (room_in (place_at l i)) room e (sym (same ∙ o)))
        ∙ s room ∙ sym (or-false (taken room (take i l)))
