-- Seeds compared.
use Rattle.std.proofs.Common.{ℕ, ◌≡◌, Bool, true, false, ◌&&◌, eqb, List, [], ◌∷◌, map, length, refl, ap, arith}
use Rattle.std.specs.List.{list_all, zip}
use Rattle.text.specs.Tests.{same}

module _ (f : ℕ → ℕ) where
  -- A byte of the one text and the byte of the other in its place.
  abbrev pub agree : ℕ × ℕ → Bool
  agree p = eqb (f p.0) p.1

  -- Texts of one length are the same where each two bytes agree.
  pub same_zip : (s t : List ℕ) → length s ≡ length t → list_all agree (zip s t) ≡ same (map f s) t
  unfolding same
  same_zip [] [] e = refl
  same_zip [] (y ∷ t) e = absurd (omega arith)
  same_zip (x ∷ s) [] e = absurd (omega arith)
  same_zip (x ∷ s) (y ∷ t) e = ap (λ (b : Bool). eqb (f x) y && b) (same_zip s t (omega arith))

  -- Texts of other lengths are not the same.
  pub same_long : (s t : List ℕ) → (length s ≡ length t → ⊥) → same (map f s) t ≡ false
  unfolding same
  same_long [] [] h = absurd (h refl)
  same_long [] (y ∷ t) h = refl
  same_long (x ∷ s) [] h = refl
  same_long (x ∷ s) (y ∷ t) h = by (eqb (f x) y) (same_long s t (λ e. h (omega arith)))
    where
      by : (b : Bool) → same (map f s) t ≡ false → (b && same (map f s) t) ≡ false
      by true e = e
      by false e = refl
