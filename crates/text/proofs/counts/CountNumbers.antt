-- A number read digit by digit.
use Prim.Native.Nat.{ℕ, suc, ◌+◌, ◌-◌, ◌*◌, ◌^◌, ◌≤◌, ◌<◌}
use mathlib.Core.Path.{◌≡◌, sym, ◌∙◌, ap}
use mathlib.Core.Bool.{true}
use mathlib.Core.List.{List}
use native.Mathlib.Omega.{arith}
use native.Mathlib.Nat.{pow-suc, pow-le-pow_right}
use native.Mathlib.Numerals.{add-one}
use lib.Arith.{digits_lt}
use lib.Dec.{leb}
use lib.ListN.{length, get_or, drop}
use lib.Seq.{drop-cons}
use borrow.Author.Tests.{leb-true}
use Rattle.text.specs.Kinds.{is_digit}
use Rattle.text.specs.Tests.{every, both}
use Rattle.text.specs.Digits.{digit_value, number_after}
use Rattle.text.specs.DigitLaws.{value_digit}

-- fewer than four digits stand for less than 1,000
pub few : (n i l : ℕ) → n < 10 ^ i → i < l → l ≤ 4 → n < 1000
few n i l h g k =
    let most : 10 ^ i ≤ 10 ^ 3 = pow-le-pow_right (omega arith) {i = i} {j = 3} (omega arith) in
    omega arith

-- the number so far is below 10 ^ i, the digits from i on continue it, and they are digits
abbrev pub Reading : List ℕ → ℕ → ℕ → ℕ → Type 0
Reading t whole n i = (n < 10 ^ i) × (whole ≡ number_after 10 n (drop i t)) × (every is_digit (drop i t) ≡ true)

-- the digit at i, and what it stands for
pub digit_here : (t : List ℕ) (whole n i : ℕ) → i < length t → Reading t whole n i
    → (48 ≤ get_or t i 0) × (get_or t i 0 ≤ 57) × (digit_value (get_or t i 0) ≡ get_or t i 0 - 48)
unfolding every
digit_here t whole n i h r =
    let b = get_or t i 0 in
    let digit = (both (is_digit b) (every is_digit (drop (suc i) t)) (rw (drop-cons t i 0 h) at r.2)).0 in
    let halves = both (leb 48 b) (leb b 57) digit in
    (leb-true 48 b halves.0, leb-true b 57 halves.1, value_digit b digit)

-- one digit more
pub one_more : (t : List ℕ) (whole n i v : ℕ) → i < length t → v ≡ get_or t i 0 - 48 → Reading t whole n i → Reading t whole (n * 10 + v) (i + 1)
unfolding number_after every
one_more t whole n i v h d r =
    let cut = drop-cons t i 0 h in
    let here = digit_here t whole n i h r in
    let small : v < 10 = omega arith in (
      rw (add-one, pow-suc) (digits_lt r.0 small),
      r.1 ∙ ap (number_after 10 n) cut ∙ ap (λ (w : ℕ). number_after 10 (n * 10 + w) (drop (suc i) t)) (here.2 ∙ sym d) ∙ rw add-one,
      rw add-one (both (is_digit (get_or t i 0)) (every is_digit (drop (suc i) t)) (rw cut at r.2)).1,
    )
