-- The pairs of a number's bits added, by its ones.
use Rattle.std.proofs.Common.{◌≡◌, ℕ, zero, suc, ◌+◌, ◌*◌, ◌/◌, ◌%◌, ◌^◌, ◌<◌, ◌∙◌, ap, ap₂, refl, min, arith, bit_and}
use Rattle.std.proofs.Math.Nat.{pow-suc}
use Rattle.std.specs.Int.Bits.{and_step}
use Rattle.std.specs.Int.Count.{ones, ones_step}
use Rattle.sixwords.specs.Places.{pairs, pair_sum}

-- the upper bit of each of k pairs
upper : ℕ → ℕ
upper zero = 0
upper (suc k) = upper k * 4 + 2

ones_twice : (x y : ℕ) → y < 2 → ones (x * 2 + y) ≡ y + ones x
ones_twice x y h =
    let low : (x * 2 + y) % 2 ≡ y = omega arith in
    let high : (x * 2 + y) / 2 ≡ x = omega arith in
    rw (ones_step (x * 2 + y), low, high) refl

-- a pair in front: of its two bits the upper counts twice
ones_pair : (p : ℕ) → ones p ≡ p % 2 + (p / 2 % 2 + ones (p / 4))
ones_pair p =
    let quarter : p / 2 / 2 ≡ p / 4 = omega arith in
    ones_step p ∙ ap (λ (n : ℕ). p % 2 + n) (ones_step (p / 2) ∙ ap (λ (n : ℕ). p / 2 % 2 + ones n) quarter)

upper_pair : (p m : ℕ) → ones (bit_and p (m * 4 + 2)) ≡ p / 2 % 2 + ones (bit_and (p / 4) m)
upper_pair p m =
    let half : (m * 4 + 2) / 2 ≡ m * 2 + 1 = omega arith in
    let even : (m * 4 + 2) % 2 ≡ 0 = omega arith in
    let quarter : p / 2 / 2 ≡ p / 4 = omega arith in
    let m-half : (m * 2 + 1) / 2 ≡ m = omega arith in
    let odd : (m * 2 + 1) % 2 ≡ 1 = omega arith in
    let outer : bit_and p (m * 4 + 2) ≡ bit_and (p / 2) (m * 2 + 1) * 2 + 0 =
    and_step p (m * 4 + 2) ∙ ap₂ (λ (a b : ℕ). bit_and (p / 2) a * 2 + b) half (ap (λ (n : ℕ). min (p % 2) n) even ∙ omega arith) in
    let inner : bit_and (p / 2) (m * 2 + 1) ≡ bit_and (p / 4) m * 2 + p / 2 % 2 =
    and_step (p / 2) (m * 2 + 1)
    ∙ ap₂ (λ (a b : ℕ). a * 2 + b) (ap₂ (λ (a b : ℕ). bit_and a b) quarter m-half) (ap (λ (n : ℕ). min (p / 2 % 2) n) odd ∙ omega arith) in
    omega (
      arith,
      ap ones outer ∙ ones_twice (bit_and (p / 2) (m * 2 + 1)) 0 (omega arith),
      ap ones inner ∙ ones_twice (bit_and (p / 4) m) (p / 2 % 2) (omega arith),
    )

pairs_ones : (k p : ℕ) → p < 4 ^ k → ones p + ones (bit_and p (upper k)) ≡ pairs k p
unfolding pairs upper ones
pairs_ones zero p h = let none : p ≡ 0 = omega arith in rw none refl
pairs_ones (suc k) p h =
    let rest = pairs_ones k (p / 4) (omega (arith, pow-suc 4 k)) in
    omega (arith, rest, ones_pair p, upper_pair p (upper k))

pub sum_of_ones : (p : ℕ) → p < 2 ^ 64 → ones p + ones (bit_and p 12297829382473034410) ≡ pair_sum p
unfolding pair_sum upper
sum_of_ones p h = pairs_ones 32 p h
