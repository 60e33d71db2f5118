-- The library's test of how a text starts, in this repository's words.
use Rattle.std.proofs.Common.{◌≡◌, ℕ, Bool, ◌&&◌, List, [], ◌∷◌, take, length, refl, ap₂, sym, ◌∙◌, eqb, eqb-true, eq-eqb, ne_eqb}
use Rattle.std.proofs.lemmas.Bool.{eqb-false}
use Rattle.std.specs.List.{starts_with}
use lib.Pointwise.{pointwise}
use Rattle.text.specs.Tests.{same, cases}

turned : (a b : ℕ) → eqb a b ≡ eqb b a
turned a b = cases (eqb a b) (λ e. e ∙ sym (eq-eqb b a (sym (eqb-true a b e)))) (λ e. e ∙ sym (ne_eqb b a (λ f. eqb-false a b e (sym f))))

compared : (p t : List ℕ) → pointwise eqb p t ≡ same t p
unfolding same
compared [] [] = refl
compared [] (b ∷ t) = refl
compared (a ∷ p) [] = refl
compared (a ∷ p) (b ∷ t) = ap₂ (λ (x y : Bool). x && y) (turned a b) (compared p t)

pub starts_same : (t p : List ℕ) → starts_with eqb t p ≡ same (take (length p) t) p
starts_same t p = compared p (take (length p) t)
