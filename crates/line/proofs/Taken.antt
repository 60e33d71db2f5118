-- Whether one of the places is for an account, one place after the other.
use Prim.Native.Nat.{ℕ, ◌+◌, ◌<◌}
use mathlib.Core.Path.{◌≡◌, refl, ap, ◌∙◌}
use mathlib.Core.Bool.{Bool, true, false, ◌||◌}
use mathlib.Core.List.{List, [], ◌∷◌, ◌++◌}
use lib.ListN.{length, take}
use Rattle.line.specs.declared.Place.{Place}
use Rattle.line.specs.Line.{is_for}
use Rattle.line.specs.Inside.{place_at, nobody, taken}
use Rattle.std.proofs.lemmas.List.{take_more}

module _ (room : ℕ) where
  pub taken_last : (l : List Place) (p : Place) → taken room (l ++ p ∷ []) ≡ (taken room l || is_for room p)
  unfolding taken
  taken_last [] p = by (is_for room p)
    where
      by : (b : Bool) → (b || false) ≡ b
      by true = refl
      by false = refl
  taken_last (q ∷ l) p = by (is_for room q) (taken_last l p)
    where
      by : (b : Bool) → taken room (l ++ p ∷ []) ≡ (taken room l || is_for room p)
          → (b || taken room (l ++ p ∷ [])) ≡ ((b || taken room l) || is_for room p)
      by true e = refl
      by false e = e

  -- Of the first i + 1, from the first i and the place at i.
  pub taken_next : (l : List Place) (i : ℕ) → i < length l → taken room (take (i + 1) l) ≡ (taken room (take i l) || is_for room (place_at l i))
  taken_next l i h = ap (taken room) (take_more l i nobody h) ∙ taken_last (take i l) (place_at l i)
