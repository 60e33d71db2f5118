-- Laws of counts: what a count that is read says, and how long a written one is.
use Rattle.std.specs.Prelude.{ℕ, ◌+◌, ◌^◌, ◌≤◌, ◌≡◌, refl, Bool, true, false, cond, not, ◌&&◌, List, [], ◌∷◌, ◌++◌, leb, ltb, length, Some, None}
use Rattle.std.proofs.Common.{ap₂, arith, length-append, leb-true, lt-ltb}
use Rattle.std.proofs.Math.Nat.{pow-le-pow_right}
use Rattle.text.specs.Kinds.{is_digit}
use Rattle.text.specs.Digits.{digit_value, number_of}
use Rattle.text.specs.DigitLaws.{value_digit, number_lt, length_digits}
use Rattle.text.specs.Tests.{every, both, either}
use Rattle.text.specs.Counts.{leading_zero, is_count, counted_of, width_of, decimal_of}

-- ---- what is read

-- a count that was read is the token's
pub is_read : (t : List ℕ) (n : ℕ) → counted_of t ≡ Some n → (is_count t ≡ true) × (number_of 10 t ≡ n)
is_read t n = by (is_count t) refl
  where
    by : (b : Bool) → is_count t ≡ b → cond b (Some (number_of 10 t)) None ≡ Some n → (is_count t ≡ true) × (number_of 10 t ≡ n)
    by true f e = (f, cc)
    by false f e = let z : ◌≡◌ {A = ℕ} 0 1 = cc in absurd (omega arith)

pub is_unread : (t : List ℕ) → counted_of t ≡ None → is_count t ≡ false
is_unread t = by (is_count t) refl
  where
    by : (b : Bool) → is_count t ≡ b → cond b (Some (number_of 10 t)) None ≡ None → is_count t ≡ false
    by true f e = let z : ◌≡◌ {A = ℕ} 0 1 = cc in absurd (omega arith)
    by false f e = f

-- digits only, and few of them
pub count_digits : (t : List ℕ) → is_count t ≡ true → (length t ≤ 4) × (every is_digit t ≡ true)
unfolding is_count
count_digits t e =
    let few = leb (length t) 4 in
    let plain = every is_digit t in
    let tests = (both (few && plain) (not (leading_zero t)) (both (leb 1 (length t)) (few && plain && not (leading_zero t)) e).1).0 in
    (leb-true (length t) 4 (both few plain tests).0, (both few plain tests).1)

-- a digit stands for less than ten
digit_values : (t : List ℕ) → every is_digit t ≡ true → every (λ b. ltb (digit_value b) 10) t ≡ true
unfolding every
digit_values [] e = refl
digit_values (b ∷ t) e =
    let halves = both (is_digit b) (every is_digit t) e in
    let top = leb-true b 57 (both (leb 48 b) (leb b 57) halves.0).1 in
    ap₂ (λ (x y : Bool). x && y) (lt-ltb (digit_value b) 10 (omega (arith, value_digit b halves.0))) (digit_values t halves.1)

-- a count is at most 9,999
pub count_low : (t : List ℕ) → is_count t ≡ true → number_of 10 t ≤ 9999
count_low t e =
    let digits = count_digits t e in
    let most : 10 ^ length t ≤ 10 ^ 4 = pow-le-pow_right (omega arith) {i = length t} {j = 4} digits.0 in
    omega (arith, number_lt 10 0 1 t (omega arith) (digit_values t digits.1))

-- ---- what is written

pub width_few : (n : ℕ) → (1 ≤ width_of n) × (width_of n ≤ 4)
width_few n =
    either (λ (w : ℕ). (1 ≤ w) × (w ≤ 4)) (ltb n 10) (λ e. omega arith)
    (λ e. either (λ (w : ℕ). (1 ≤ w) × (w ≤ 4)) (ltb n 100) (λ f. omega arith)
    (λ f. either (λ (w : ℕ). (1 ≤ w) × (w ≤ 4)) (ltb n 1000) (λ g. omega arith) (λ g. omega arith)))

pub length_decimal : (n : ℕ) → length (decimal_of n) ≡ width_of n
length_decimal n = length_digits 10 (width_of n) n

-- and with one byte after it
pub length_count : (n last : ℕ) → length (decimal_of n ++ last ∷ []) ≡ width_of n + 1
length_count n last = simp length-append (omega (arith, length_decimal n))
