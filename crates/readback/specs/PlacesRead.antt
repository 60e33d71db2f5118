-- A number's places read back as it, and six places are accepted exactly if they are some number's.
use Rattle.std.specs.Prelude.{ℕ, zero, suc, ◌+◌, ◌*◌, ◌/◌, ◌%◌, ◌^◌, ◌<◌, ◌≡◌, refl, ◌↔◌}
use Rattle.std.specs.Prelude.{Bool, true, false, cond, ◌&&◌, List, [], ◌∷◌, eqb, ltb, length, Some, None}
use Rattle.std.specs.Prelude.{get_or}
use Rattle.std.proofs.Common.{arith, le_of_suc-le-suc, not-suc-le-zero, sym, ◌∙◌, ap, ltb-true, eq-eqb, eqb-true}
use Rattle.text.specs.Tests.{both}
use Rattle.sixwords.specs.Places.{pair_sum, whole, cut, places_of, joined, all_places, number_of}
use Rattle.sixwords.specs.Laws.{Six, six, six_of_lem, cut_places}

-- the sum's two bits stand behind the number
whole_number : (p : ℕ) → whole p / 4 ≡ p
unfolding whole
whole_number p = omega arith

whole_sum : (p : ℕ) → whole p % 4 ≡ pair_sum p % 4
unfolding whole
whole_sum p = omega arith

whole_below : (p : ℕ) → p < 2 ^ 64 → whole p < 2 ^ 66
unfolding whole
whole_below p h = omega arith

-- 66 bits whose sum is right are those of their number
whole_joined : (w : ℕ) → pair_sum (w / 4) % 4 ≡ w % 4 → whole (w / 4) ≡ w
unfolding whole
whole_joined w h = omega arith

-- 66 bits that are cut into places are joined again
joined-cut : (w : ℕ) → w < 2 ^ 66 → joined 0 (cut w) ≡ w
unfolding cut joined
joined-cut w h =
    let a : 0 * 2 ^ 11 + w / 2 ^ 55 % 2 ^ 11 ≡ w / 2 ^ 55 = omega arith in
    let b : w / 2 ^ 55 * 2 ^ 11 + w / 2 ^ 44 % 2 ^ 11 ≡ w / 2 ^ 44 = omega arith in
    let c : w / 2 ^ 44 * 2 ^ 11 + w / 2 ^ 33 % 2 ^ 11 ≡ w / 2 ^ 33 = omega arith in
    let d : w / 2 ^ 33 * 2 ^ 11 + w / 2 ^ 22 % 2 ^ 11 ≡ w / 2 ^ 22 = omega arith in
    let e : w / 2 ^ 22 * 2 ^ 11 + w / 2 ^ 11 % 2 ^ 11 ≡ w / 2 ^ 11 = omega arith in
    rw (a, b, c, d, e) (omega arith)

-- what `all_places` says of each
below : (s : List ℕ) → all_places s ≡ true → (k : ℕ) → k < length s → get_or s k 0 < 2048
unfolding all_places
below [] t k h = absurd (not-suc-le-zero h)
below (a ∷ s) t zero h = ltb-true a 2048 (both (ltb a 2048) (all_places s) t).0
below (a ∷ s) t (suc k) h = below s (both (ltb a 2048) (all_places s) t).1 k (le_of_suc-le-suc h)

-- the same of six
abbrev SixBelow : List ℕ → Type 0
SixBelow s =
    (get_or s 0 0 < 2048) ×
    (get_or s 1 0 < 2048) ×
    (get_or s 2 0 < 2048) ×
    (get_or s 3 0 < 2048) ×
    (get_or s 4 0 < 2048) ×
    (get_or s 5 0 < 2048)

six_below : (s : List ℕ) → Six s → all_places s ≡ true → SixBelow s
six_below s (six a b c d e f) t = (
  below s t 0 (omega arith),
  below s t 1 (omega arith),
  below s t 2 (omega arith),
  below s t 3 (omega arith),
  below s t 4 (omega arith),
  below s t 5 (omega arith),
)

cut-joined : (s : List ℕ) → Six s → all_places s ≡ true → cut (joined 0 s) ≡ s
unfolding cut joined
cut-joined s (six a b c d e f) t =
    let h = six_below s (six a b c d e f) t in
    let w = joined 0 (a ∷ b ∷ c ∷ d ∷ e ∷ f ∷ []) in
    let p : w / 2 ^ 55 % 2 ^ 11 ≡ a = omega arith in
    let q : w / 2 ^ 44 % 2 ^ 11 ≡ b = omega arith in
    let r : w / 2 ^ 33 % 2 ^ 11 ≡ c = omega arith in
    let s : w / 2 ^ 22 % 2 ^ 11 ≡ d = omega arith in
    let t : w / 2 ^ 11 % 2 ^ 11 ≡ e = omega arith in
    let u : w % 2 ^ 11 ≡ f = omega arith in
    rw (p, q, r, s, t, u)

joined_below : (s : List ℕ) → Six s → all_places s ≡ true → joined 0 s < 2 ^ 66
unfolding joined
joined_below s (six a b c d e f) t =
    let h = six_below s (six a b c d e f) t in
    omega arith

-- what is written reads back
pub number_places : (p : ℕ) → p < 2 ^ 64 → number_of (places_of p) ≡ Some p
unfolding number_of places_of
number_places p h =
    rw (joined-cut (whole p) (whole_below p h), cut_places (whole p), whole_number p, whole_sum p, eq-eqb (pair_sum p % 4) (pair_sum p % 4) refl)

accepted : (s : List ℕ) → Six s → (p : ℕ) → number_of s ≡ Some p → (p < 2 ^ 64) × (places_of p ≡ s)
unfolding number_of places_of
accepted s l p e = go (all_places s) (eqb (pair_sum (joined 0 s / 4) % 4) (joined 0 s % 4)) refl refl e
  where
    go : (a b : Bool) → all_places s ≡ a → eqb (pair_sum (joined 0 s / 4) % 4) (joined 0 s % 4) ≡ b →
        cond (a && b) (Some (joined 0 s / 4)) None ≡ Some p → (p < 2 ^ 64) × (places_of p ≡ s)
    go true true t u e =
        let same : joined 0 s / 4 ≡ p = cc in
        let sum : pair_sum (joined 0 s / 4) % 4 ≡ joined 0 s % 4 = eqb-true (pair_sum (joined 0 s / 4) % 4) (joined 0 s % 4) u in
        let most = joined_below s l t in
        (omega arith, ap places_of (sym same) ∙ ap cut (whole_joined (joined 0 s) sum) ∙ cut-joined s l t)
    go true false t u e = let z : ◌≡◌ {A = ℕ} 0 1 = cc in absurd (omega arith)
    go false b t u e = let z : ◌≡◌ {A = ℕ} 0 1 = cc in absurd (omega arith)

-- six places are accepted as a number exactly if they are its places
pub number_accepted : (s : List ℕ) → length s ≡ 6 → (p : ℕ) → (number_of s ≡ Some p) ↔ ((p < 2 ^ 64) × (places_of p ≡ s))
number_accepted s n p = (accepted s (six_of_lem s n) p, (λ h. ap number_of (sym h.1) ∙ number_places p h.0))

pub places_injective : (p q : ℕ) → p < 2 ^ 64 → q < 2 ^ 64 → places_of p ≡ places_of q → p ≡ q
places_injective p q h k e =
    let x = number_places p h in
    let y = number_places q k in
    let z = ap number_of e in
    cc
