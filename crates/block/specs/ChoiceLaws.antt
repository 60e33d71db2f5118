-- Where x has 1 the bits of y, and else those of z: `F` of RFC 1321 and `Ch` of FIPS 180-4 by three operations. The bits from y
-- and those from z share no digit.
use Rattle.std.specs.Prelude.{◌≡◌, ℕ, zero, suc, ◌+◌, ◌-◌, ◌*◌, ◌/◌, ◌%◌, ◌^◌, ◌<◌, false, ltb, bit_and, bit_or, bit_xor, nat_lt, refl}
use Rattle.std.proofs.Common.{sym, ap, ap₂, ◌∙◌, pow-suc, arith, ltb-true, ltb-false}
use Rattle.std.proofs.lemmas.Nat.{and_shr, xor_shr, and_mod, xor_mod, or_disjoint}
use Rattle.std.specs.Int.Bits.{and_zero_r, xor_disjoint}
use Rattle.text.specs.Tests.{cases}

abbrev chosen : ℕ → ℕ → ℕ → ℕ
chosen x y z = bit_xor z (bit_and x (bit_xor y z))

-- The standard's sum, with x' for the complement of x.
abbrev merged : ℕ → ℕ → ℕ → ℕ → ℕ
merged x x' y z = bit_xor (bit_and x y) (bit_and x' z)

-- Both go digit by digit.
halved : (m n : ℕ) → m / 2 ≡ n / 2 → m % 2 ≡ n % 2 → m ≡ n
halved m n p q = omega arith

chosen_half : (x y z : ℕ) → chosen x y z / 2 ≡ chosen (x / 2) (y / 2) (z / 2)
chosen_half x y z =
    xor_shr z (bit_and x (bit_xor y z)) 1
    ∙ ap (bit_xor (z / 2)) (and_shr x (bit_xor y z) 1 ∙ ap (bit_and (x / 2)) (xor_shr y z 1))

chosen_digit : (x y z : ℕ) → chosen x y z % 2 ≡ chosen (x % 2) (y % 2) (z % 2)
chosen_digit x y z =
    xor_mod z (bit_and x (bit_xor y z)) 1
    ∙ ap (bit_xor (z % 2)) (and_mod x (bit_xor y z) 1 ∙ ap (bit_and (x % 2)) (xor_mod y z 1))

merged_half : (x x' y z : ℕ) → merged x x' y z / 2 ≡ merged (x / 2) (x' / 2) (y / 2) (z / 2)
merged_half x x' y z =
    xor_shr (bit_and x y) (bit_and x' z) 1 ∙ ap₂ bit_xor (and_shr x y 1) (and_shr x' z 1)

merged_digit : (x x' y z : ℕ) → merged x x' y z % 2 ≡ merged (x % 2) (x' % 2) (y % 2) (z % 2)
merged_digit x x' y z =
    xor_mod (bit_and x y) (bit_and x' z) 1 ∙ ap₂ bit_xor (and_mod x y 1) (and_mod x' z 1)

digits : (x y z : ℕ) → x < 2 → y < 2 → z < 2 → chosen x y z ≡ merged x (1 - x) y z
digits zero zero zero h g k = refl
digits zero zero (suc zero) h g k = refl
digits zero (suc zero) zero h g k = refl
digits zero (suc zero) (suc zero) h g k = refl
digits (suc zero) zero zero h g k = refl
digits (suc zero) zero (suc zero) h g k = refl
digits (suc zero) (suc zero) zero h g k = refl
digits (suc zero) (suc zero) (suc zero) h g k = refl
digits (suc (suc x)) y z h g k = omega arith
digits zero (suc (suc y)) z h g k = omega arith
digits (suc zero) (suc (suc y)) z h g k = omega arith
digits zero zero (suc (suc z)) h g k = omega arith
digits zero (suc zero) (suc (suc z)) h g k = omega arith
digits (suc zero) zero (suc (suc z)) h g k = omega arith
digits (suc zero) (suc zero) (suc (suc z)) h g k = omega arith

-- The complement's digits are the digits' complements: those above the last, and the last.
complement_half : (k x : ℕ) → x < 2 ^ suc k → (2 ^ suc k - 1 - x) / 2 ≡ 2 ^ k - 1 - x / 2
complement_half k x h = let double : 2 ^ suc k ≡ 2 ^ k * 2 = pow-suc 2 k in omega arith

complement_digit : (k x : ℕ) → x < 2 ^ suc k → (2 ^ suc k - 1 - x) % 2 ≡ 1 - x % 2
complement_digit k x h = let double : 2 ^ suc k ≡ 2 ^ k * 2 = pow-suc 2 k in omega arith

-- One digit more, where `halves` is of the digits above it.
one_more : (k x y z : ℕ) → x < 2 ^ suc k
    → chosen (x / 2) (y / 2) (z / 2) ≡ merged (x / 2) (2 ^ k - 1 - x / 2) (y / 2) (z / 2)
    → chosen x y z ≡ merged x (2 ^ suc k - 1 - x) y z
one_more k x y z h halves =
    halved _ _
    (chosen_half x y z ∙ halves
    ∙ sym (merged_half x (2 ^ suc k - 1 - x) y z ∙ ap (λ (n : ℕ). merged (x / 2) n (y / 2) (z / 2)) (complement_half k x h)))
    (chosen_digit x y z ∙ digits (x % 2) (y % 2) (z % 2) (omega arith) (omega arith) (omega arith)
    ∙ sym (merged_digit x (2 ^ suc k - 1 - x) y z ∙ ap (λ (n : ℕ). merged (x % 2) n (y % 2) (z % 2)) (complement_digit k x h)))

pub choice : (k x y z : ℕ) → x < 2 ^ k → y < 2 ^ k → z < 2 ^ k
    → bit_xor z (bit_and x (bit_xor y z)) ≡ bit_xor (bit_and x y) (bit_and (2 ^ k - 1 - x) z)
choice zero x y z h g l =
    let x₀ : x ≡ 0 = omega arith in
    let y₀ : y ≡ 0 = omega arith in
    let z₀ : z ≡ 0 = omega arith in
    (λ i. chosen (x₀ i) (y₀ i) (z₀ i)) ∙ sym (λ i. merged (x₀ i) (0 - x₀ i) (y₀ i) (z₀ i))
choice (suc k) x y z h g l =
    let double : 2 ^ suc k ≡ 2 ^ k * 2 = pow-suc 2 k in
    one_more k x y z h (choice k (x / 2) (y / 2) (z / 2) (omega arith) (omega arith) (omega arith))

-- What the bits of a where x has 1 share with those of b where x' has 1.
abbrev shared : ℕ → ℕ → ℕ → ℕ → ℕ
shared x x' a b = bit_and (bit_and x a) (bit_and x' b)

shared_half : (x x' a b : ℕ) → shared x x' a b / 2 ≡ shared (x / 2) (x' / 2) (a / 2) (b / 2)
shared_half x x' a b = and_shr (bit_and x a) (bit_and x' b) 1 ∙ ap₂ bit_and (and_shr x a 1) (and_shr x' b 1)

shared_digit : (x x' a b : ℕ) → shared x x' a b % 2 ≡ shared (x % 2) (x' % 2) (a % 2) (b % 2)
shared_digit x x' a b = and_mod (bit_and x a) (bit_and x' b) 1 ∙ ap₂ bit_and (and_mod x a 1) (and_mod x' b 1)

no_digit_shared : (x a b : ℕ) → x < 2 → shared x (1 - x) a b ≡ 0
no_digit_shared zero a b h = refl
no_digit_shared (suc zero) a b h = and_zero_r (bit_and 1 a)
no_digit_shared (suc (suc x)) a b h = omega arith

apart_within : (k x a b : ℕ) → x < 2 ^ k → shared x (2 ^ k - 1 - x) a b ≡ 0
apart_within zero x a b h =
    let x₀ : x ≡ 0 = omega arith in
    ap (λ (n : ℕ). shared n (2 ^ 0 - 1 - x) a b) x₀
apart_within (suc k) x a b h =
    let double : 2 ^ suc k ≡ 2 ^ k * 2 = pow-suc 2 k in
    halved _ _
    (shared_half x (2 ^ suc k - 1 - x) a b ∙ ap (λ (n : ℕ). shared (x / 2) n (a / 2) (b / 2)) (complement_half k x h)
    ∙ apart_within k (x / 2) (a / 2) (b / 2) (omega arith))
    (shared_digit x (2 ^ suc k - 1 - x) a b ∙ ap (λ (n : ℕ). shared (x % 2) n (a % 2) (b % 2)) (complement_digit k x h)
    ∙ no_digit_shared (x % 2) (a % 2) (b % 2) (omega arith))

-- An x of more digits has the complement 0.
halves_apart : (k x a b : ℕ) → shared x (2 ^ k - 1 - x) a b ≡ 0
halves_apart k x a b = cases (nat_lt x (2 ^ k)) (λ t. apart_within k x a b (ltb-true x (2 ^ k) t)) beyond
  where
    beyond : ltb x (2 ^ k) ≡ false → shared x (2 ^ k - 1 - x) a b ≡ 0
    beyond t =
        let none : 2 ^ k - 1 - x ≡ 0 = omega (arith, ltb-false x (2 ^ k) t) in
        ap (λ (n : ℕ). shared x n a b) none ∙ and_zero_r (bit_and x a)

-- So their "or" is their sum.
pub halves_summed : (k x a b : ℕ)
    → bit_or (bit_and x a) (bit_and (2 ^ k - 1 - x) b) ≡ bit_and x a + bit_and (2 ^ k - 1 - x) b
halves_summed k x a b = or_disjoint (bit_and x a) (bit_and (2 ^ k - 1 - x) b) (halves_apart k x a b)

pub choice_or : (k x y z : ℕ) → x < 2 ^ k → y < 2 ^ k → z < 2 ^ k
    → bit_xor z (bit_and x (bit_xor y z)) ≡ bit_or (bit_and x y) (bit_and (2 ^ k - 1 - x) z)
choice_or k x y z h g l =
    choice k x y z h g l
    ∙ xor_disjoint (bit_and x y) (bit_and (2 ^ k - 1 - x) z) (halves_apart k x y z)
    ∙ sym (halves_summed k x y z)
