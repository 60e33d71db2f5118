-- What the code makes of a number, and of six places, is what the definitions say.
use Rattle.text.specs.Tests.{both}
use Prim.Native.Nat.{ℕ, suc, ◌+◌, ◌*◌, ◌/◌, ◌%◌, ◌^◌, ◌≤◌, ◌<◌}
use native.Mathlib.Omega.{arith}
use native.Mathlib.Nat.{pow-suc, pow-le-pow_right, lt_of_lt_of_le}
use native.Mathlib.Numerals.{add-one}
use mathlib.Core.Path.{◌≡◌, ◌∙◌, sym, refl, ap}
use mathlib.Core.Bool.{Bool, true, false, ◌&&◌}
use Rattle.std.specs.List.{list_all}
use mathlib.Core.List.{List, [], ◌∷◌}
use lib.Arith.{digits_lt}
use lib.ListN.{length, get_or, drop, drop_of_length-le}
use lib.Seq.{drop-cons}
use borrow.Author.Tests.{eq-eqb, ne_eqb, lt-ltb, ltb-true}
use lib.Dec.{ltb}
use Rattle.std.specs.Prelude.{Some, None}
use Rattle.sixwords.specs.Places.{pair_sum, joined, all_places, number_of}

-- ---- six places joined one after the other

-- k places, each below 2,048, are joined in v, and those from k on are left
abbrev pub Joined : List ℕ → ℕ → ℕ → Type 0
Joined s v k = (v < 2048 ^ k) × (joined 0 s ≡ joined v (drop k s)) × (all_places s ≡ all_places (drop k s))

module _ (s : List ℕ) (v k : ℕ) (h : k < length s) (j : Joined s v k) where
  -- one place more
  pub place_joined : get_or s k 0 ≤ 2047 → Joined s (v * 2048 + get_or s k 0) (k + 1)
  unfolding joined all_places
  place_joined g = (
    rw (add-one, pow-suc) (digits_lt j.0 (omega arith)),
    j.1 ∙ rw (drop-cons s k 0 h, add-one),
    j.2 ∙ rw (drop-cons s k 0 h, lt-ltb (get_or s k 0) 2048 (omega arith), add-one),
  )

-- of places from k on, all good, the first is
pub place_at : (s : List ℕ) (k : ℕ) → k < length s → all_places (drop k s) ≡ true → get_or s k 0 ≤ 2047
unfolding all_places
place_at s k h e =
    let first : ltb (get_or s k 0) 2048 && all_places (drop (suc k) s) ≡ true = ap all_places (sym (drop-cons s k 0 h)) ∙ e in
    omega (arith, ltb-true (get_or s k 0) 2048 (both (ltb (get_or s k 0) 2048) (all_places (drop (suc k) s)) first).0)

-- all six
pub six_joined : (s : List ℕ) (v k : ℕ) → length s ≡ 6 → k ≡ 6 → Joined s v k → (v ≡ joined 0 s) × (v < 2 ^ 66)
unfolding joined
six_joined s v k n e j =
    let last : drop k s ≡ [] = drop_of_length-le s {i = k} (omega arith) in
    let most : 2048 ^ k ≡ 2 ^ 66 = ap (λ (m : ℕ). 2048 ^ m) e in
    (sym (j.1 ∙ ap (joined v) last), omega (arith, j.0, most))

-- k places joined, and one more, are not too many
pub few_joined : (v k : ℕ) → v < 2048 ^ k → k ≤ 5 → v < 2 ^ 55
few_joined v k h g = lt_of_lt_of_le h (pow-le-pow_right {n = 2048} (omega arith) g)

-- each place, one by one, and by a test of the list
pub all_listed : (s : List ℕ) → list_all (λ p. ltb p 2048) s ≡ all_places s
unfolding all_places
all_listed [] = refl
all_listed (a ∷ s) = ap (λ (b : Bool). ltb a 2048 && b) (all_listed s)

-- the number and the sum's two bits in front of the definition's
module _ (s : List ℕ) (w : ℕ) (all : all_places s ≡ true) (e : w ≡ joined 0 s) where
  pub number_is : pair_sum (w / 4) % 4 ≡ w % 4 → Some (w / 4) ≡ number_of s
  unfolding number_of
  number_is h = rw (all, ← e, eq-eqb (pair_sum (w / 4) % 4) (w % 4) h)

  pub sum_wrong : (pair_sum (w / 4) % 4 ≡ w % 4 → ⊥) → None ≡ number_of s
  unfolding number_of
  sum_wrong h = rw (all, ← e, ne_eqb (pair_sum (w / 4) % 4) (w % 4) h)

-- a place that is none
pub place_wrong : (s : List ℕ) → all_places s ≡ false → None ≡ number_of s
unfolding number_of
place_wrong s h = rw h
