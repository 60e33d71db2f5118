-- A written count is a count, and reads back as the same number.
use Rattle.std.specs.Prelude.{ℕ, zero, suc, ◌+◌, ◌/◌, ◌%◌, ◌^◌, ◌≤◌, ◌<◌, ◌≡◌, refl, Bool, true, false, ◌&&◌, [], ◌∷◌, eqb, ltb, length}
use Rattle.std.proofs.Common.{◌∙◌, ap₂, arith, mod-lt, ne_eqb, le-leb, lt-ltb, ltb-true, ltb-false}
use Rattle.text.specs.Kinds.{is_digit}
use Rattle.text.specs.Tests.{every, every_append, either}
use Rattle.text.specs.Digits.{digit_of, digits_of, number_of}
use Rattle.text.specs.DigitLaws.{number_digits}
use Rattle.text.specs.Counts.{leading_zero, is_count, width_of, decimal_of}
use Rattle.text.specs.CountLaws.{width_few, length_decimal}

pub digits_decimal : (k n : ℕ) → every is_digit (digits_of 10 k n) ≡ true
unfolding digits_of every
digits_decimal zero n = refl
digits_decimal (suc k) n =
    every_append is_digit (digits_of 10 k (n / 10)) (digit_of (n % 10) ∷ [])
    ∙ ap₂ (λ (x y : Bool). x && (y && true)) (digits_decimal k (n / 10)) (digit (n % 10) (mod-lt n {m = 10} (omega arith)))
  where
    digit : (d : ℕ) → d < 10 → is_digit (digit_of d) ≡ true
    digit d h = rw (lt-ltb d 10 h, le-leb 48 (48 + d) (omega arith), le-leb (48 + d) 57 (omega arith))

first_digit : (d : ℕ) → 1 ≤ d → d < 10 → eqb (digit_of d) 48 ≡ false
first_digit d h g = rw (lt-ltb d 10 g) (ne_eqb (48 + d) 48 (λ e. omega arith))

no_leading_zero : (n : ℕ) → n ≤ 9999 → leading_zero (decimal_of n) ≡ false
unfolding digits_of
no_leading_zero n h =
    either (λ (w : ℕ). leading_zero (digits_of 10 w n) ≡ false) (ltb n 10) (λ e. refl)
    (λ e. either (λ (w : ℕ). leading_zero (digits_of 10 w n) ≡ false) (ltb n 100)
    (λ f. first_digit (n / 10 % 10) (omega (arith, ltb-false n 10 e, ltb-true n 100 f)) (omega arith))
    (λ f. either (λ (w : ℕ). leading_zero (digits_of 10 w n) ≡ false) (ltb n 1000)
    (λ g. first_digit (n / 10 / 10 % 10) (omega (arith, ltb-false n 100 f, ltb-true n 1000 g)) (omega arith))
    (λ g. first_digit (n / 10 / 10 / 10 % 10) (omega (arith, ltb-false n 1000 g)) (omega arith))))

pub decimal_count : (n : ℕ) → n ≤ 9999 → is_count (decimal_of n) ≡ true
unfolding is_count
decimal_count n h =
    let width = width_few n in
    let count = length_decimal n in
    rw (le-leb 1 (length (decimal_of n)) (omega arith), le-leb (length (decimal_of n)) 4 (omega arith), digits_decimal (width_of n) n, no_leading_zero n h)

pub decimal_number : (n : ℕ) → n ≤ 9999 → number_of 10 (decimal_of n) ≡ n
decimal_number n h =
    number_digits 10 (width_of n) n (omega arith) (omega arith)
    (either (λ (w : ℕ). n < 10 ^ w) (ltb n 10) (λ e. omega (arith, ltb-true n 10 e))
    (λ e. either (λ (w : ℕ). n < 10 ^ w) (ltb n 100) (λ f. omega (arith, ltb-true n 100 f))
    (λ f. either (λ (w : ℕ). n < 10 ^ w) (ltb n 1000) (λ g. omega (arith, ltb-true n 1000 g)) (λ g. omega arith))))
