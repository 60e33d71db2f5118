-- Laws of digits: each stands for what it is written for, and so do several.
use Rattle.std.specs.Prelude.{ℕ, zero, suc, ◌+◌, ◌-◌, ◌*◌, ◌/◌, ◌%◌, ◌^◌, ◌≤◌, ◌<◌, ◌≡◌, refl}
use Rattle.std.specs.Prelude.{Bool, true, false, cond, None, Some, ◌&&◌, ◌||◌, List, [], ◌∷◌, ◌++◌, map}
use Rattle.std.specs.Prelude.{length, take, drop, set, leb, ltb}
use Rattle.std.proofs.Common.{sym, ◌∙◌, ap, ap₂, append-nil, arith, add-zero, add-suc, suc-add, mul-one, mul_assoc, mod-lt, div-lt_iff_lt-mul, div-add-mod'}
use Rattle.std.proofs.Common.{pow-suc, add-one, length-append, drop_at, length-take-le, lt-ltb, le-ltb, le-leb, leb-true, leb-false, ltb-true, ltb-false}
use Rattle.std.specs.Option.{unwrap_or}
use Rattle.std.proofs.Math.Nat.{pow-succ', pow-zero}
use Rattle.std.proofs.Math.Seq.{append_snoc}
use Rattle.std.proofs.lemmas.List.{set_split}
use Rattle.std.proofs.Math.Arith.{digits_lt, digits_div, digits_mod}
use Rattle.std.proofs.lemmas.Bool.{lt-leb}
use Rattle.text.specs.Tests.{every, every_append, every_weaker, either, cases, both}
use Rattle.text.specs.Kinds.{is_digit, is_upper, is_solid, lower_of}
use Rattle.text.specs.KindLaws.{past_space_solid, capital_lower}
use Rattle.text.specs.Digits.{digit_of, digits_of, is_hex, digit_value, digit_found, number_after, number_of}

pub value_digit : (b : ℕ) → is_digit b ≡ true → digit_value b ≡ b - 48
value_digit b e = rw e

pub value_low : (b : ℕ) → is_digit b ≡ false → lower_of b < 97 → digit_value b ≡ 16
value_low b e h = rw (e, lt-leb 97 (lower_of b) h)

pub value_high : (b : ℕ) → is_digit b ≡ false → 97 ≤ lower_of b → 102 < lower_of b → digit_value b ≡ 16
value_high b e g h = rw (e, le-leb 97 (lower_of b) g, lt-leb (lower_of b) 102 h)

pub value_letter : (b : ℕ) → is_digit b ≡ false → 97 ≤ lower_of b → lower_of b ≤ 102 → digit_value b ≡ lower_of b - 87
value_letter b e g h = rw (e, le-leb 97 (lower_of b) g, le-leb (lower_of b) 102 h)

pub value_none : (b : ℕ) → is_digit b ≡ false → (leb 97 (lower_of b) && leb (lower_of b) 102) ≡ false → digit_value b ≡ 16
value_none b e f = rw (e, f)

pub length_digits : (base k n : ℕ) → length (digits_of base k n) ≡ k
unfolding digits_of
length_digits base zero n = refl
length_digits base (suc k) n = length-append (digits_of base k (n / base)) (digit_of (n % base) ∷ [])
    ∙ ap (λ (m : ℕ). m + 1) (length_digits base k (n / base)) ∙ add-one k

-- one digit more of r, from the right
pub spelt : (base : ℕ) (b : List ℕ) (i r : ℕ) → i < length b → digits_of base (i + 1) r ++ drop (i + 1) b
    ≡ digits_of base i (r / base) ++ drop i (set b i (digit_of (r % base)))
unfolding digits_of
spelt base b i r h =
    ap (λ (k : ℕ). digits_of base k r ++ drop k b) (add-one i)
    ∙ append_snoc (digits_of base i (r / base)) (digit_of (r % base)) (drop (suc i) b)
    ∙ ap (λ (l : List ℕ). digits_of base i (r / base) ++ l)
    (sym (ap (drop i) (set_split b i (digit_of (r % base)) h) ∙ drop_at (take i b) (digit_of (r % base) ∷ drop (suc i) b) i
    (length-take-le i b (omega arith))))

-- each digit is read as what it is written for
pub digit_read : (d : ℕ) → d < 16 → digit_value (digit_of d) ≡ d
digit_read d h = either (λ (b : ℕ). digit_value b ≡ d) (ltb d 10) (λ e. low (ltb-true d 10 e)) (λ e. high (ltb-false d 10 e))
  where
    low : d < 10 → digit_value (48 + d) ≡ d
    low g = value_digit (48 + d) (ap₂ (λ (a b : Bool). a && b) (le-leb 48 (48 + d) (omega arith)) (le-leb (48 + d) 57 (omega arith))) ∙ omega arith

    kept : 10 ≤ d → lower_of (87 + d) ≡ 87 + d
    kept g = rw (le-leb 65 (87 + d) (omega arith), lt-leb (87 + d) 90 (omega arith))

    high : 10 ≤ d → digit_value (87 + d) ≡ d
    high g =
        let k = kept g in
        value_letter (87 + d) (ap₂ (λ (a b : Bool). a && b) (le-leb 48 (87 + d) (omega arith)) (lt-leb (87 + d) 57 (omega arith))) (omega arith)
        (omega arith) ∙ omega arith

-- a digit of either case is written as its lower case
pub digit_written : (b : ℕ) → digit_value b < 16 → digit_of (digit_value b) ≡ lower_of b
digit_written b h = cases (is_digit b) digit (λ e. cases (leb 97 (lower_of b) && leb (lower_of b) 102) (letter e) (none e))
  where
    digit : is_digit b ≡ true → digit_of (digit_value b) ≡ lower_of b
    digit e =
        let from = leb-true 48 b (both (leb 48 b) (leb b 57) e).0 in
        let to = leb-true b 57 (both (leb 48 b) (leb b 57) e).1 in
        let back : 48 + (b - 48) ≡ b = omega arith in
        ap digit_of (value_digit b e)
        ∙ ap (λ (t : Bool). cond t (48 + (b - 48)) (87 + (b - 48))) (lt-ltb (b - 48) 10 (omega arith))
        ∙ back
        ∙ sym (ap (λ (t : Bool). cond (t && leb b 90) (b + 32) b) (lt-leb 65 b (omega arith)))

    letter : is_digit b ≡ false → (leb 97 (lower_of b) && leb (lower_of b) 102) ≡ true → digit_of (digit_value b) ≡ lower_of b
    letter e f =
        let from = leb-true 97 (lower_of b) (both (leb 97 (lower_of b)) (leb (lower_of b) 102) f).0 in
        let to = leb-true (lower_of b) 102 (both (leb 97 (lower_of b)) (leb (lower_of b) 102) f).1 in
        ap digit_of (value_letter b e from to)
        ∙ ap (λ (t : Bool). cond t (48 + (lower_of b - 87)) (87 + (lower_of b - 87))) (le-ltb (lower_of b - 87) 10 (omega arith))
        ∙ omega arith

    none : is_digit b ≡ false → (leb 97 (lower_of b) && leb (lower_of b) 102) ≡ false → digit_of (digit_value b) ≡ lower_of b
    none e f = absurd (omega (arith, value_none b e f))

-- a byte is a hex digit exactly if it stands for a number below 16
pub hex_value : (b : ℕ) → is_hex b ≡ ltb (digit_value b) 16
hex_value b = cases (is_digit b) digit (λ e. cases (leb 97 (lower_of b) && leb (lower_of b) 102) (letter e) (none e))
  where
    digit : is_digit b ≡ true → is_hex b ≡ ltb (digit_value b) 16
    digit e =
        let to = leb-true b 57 (both (leb 48 b) (leb b 57) e).1 in
        ap (λ (t : Bool). t || (leb 97 (lower_of b) && leb (lower_of b) 102)) e
        ∙ sym (ap (λ (v : ℕ). ltb v 16) (value_digit b e) ∙ lt-ltb (b - 48) 16 (omega arith))

    letter : is_digit b ≡ false → (leb 97 (lower_of b) && leb (lower_of b) 102) ≡ true → is_hex b ≡ ltb (digit_value b) 16
    letter e f =
        let from = leb-true 97 (lower_of b) (both (leb 97 (lower_of b)) (leb (lower_of b) 102) f).0 in
        let to = leb-true (lower_of b) 102 (both (leb 97 (lower_of b)) (leb (lower_of b) 102) f).1 in
        ap₂ (λ (t u : Bool). t || u) e f
        ∙ sym (ap (λ (v : ℕ). ltb v 16) (value_letter b e from to) ∙ lt-ltb (lower_of b - 87) 16 (omega arith))

    none : is_digit b ≡ false → (leb 97 (lower_of b) && leb (lower_of b) 102) ≡ false → is_hex b ≡ ltb (digit_value b) 16
    none e f = ap₂ (λ (t u : Bool). t || u) e f ∙ sym (ap (λ (v : ℕ). ltb v 16) (value_none b e f))

-- what is read of a byte: a number below 16, where it is a hex digit
pub found_some : (b d : ℕ) → digit_found b ≡ Some d → (digit_value b ≡ d) × (d < 16)
found_some b d = by (is_hex b) refl
  where
    by : (t : Bool) → is_hex b ≡ t → cond t (Some (digit_value b)) None ≡ Some d → (digit_value b ≡ d) × (d < 16)
    by true e f =
        let small = ltb-true (digit_value b) 16 (sym (hex_value b) ∙ e) in
        let same : digit_value b ≡ d = cc in
        (same, omega arith)
    by false e f = let z : ◌≡◌ {A = ℕ} 0 1 = cc in absurd (omega arith)

pub found_none : (b : ℕ) → digit_found b ≡ None → is_hex b ≡ false
found_none b = by (is_hex b) refl
  where
    by : (t : Bool) → is_hex b ≡ t → cond t (Some (digit_value b)) None ≡ None → is_hex b ≡ false
    by true e f = let z : ◌≡◌ {A = ℕ} 0 1 = cc in absurd (omega arith)
    by false e f = e

pub found_or : (b : ℕ) → unwrap_or (digit_found b) 16 ≡ digit_value b
found_or b = cases (is_digit b) (λ e. rw e) (λ e. cases (leb 97 (lower_of b) && leb (lower_of b) 102) (λ f. rw (e, f)) (λ f. rw (e, f)))

pub number_append : (base n : ℕ) (s t : List ℕ) → number_after base n (s ++ t) ≡ number_after base (number_after base n s) t
unfolding number_after
number_append base n [] t = refl
number_append base n (d ∷ s) t = number_append base (n * base + digit_value d) s t

-- digits stand for the number that they are written for
pub number_digits : (base k n : ℕ) → 1 < base → base ≤ 16 → n < base ^ k → number_of base (digits_of base k n) ≡ n
unfolding digits_of number_after
number_digits base zero n g h l = omega (arith, pow-zero base)
number_digits base (suc k) n g h l =
    let fewer = (div-lt_iff_lt-mul {k = base} {x = n} {y = base ^ k} (omega arith)).1 (rw pow-suc at l) in
    let digit = mod-lt n {m = base} (omega arith) in
    number_append base 0 (digits_of base k (n / base)) (digit_of (n % base) ∷ [])
    ∙ ap₂ (λ (m d : ℕ). m * base + d) (number_digits base k (n / base) g h fewer) (digit_read (n % base) (omega arith))
    ∙ div-add-mod' n base

-- and are those of the number that they stand for, in lower case
pub digits_number : (base k n : ℕ) (s : List ℕ) → 0 < base → base ≤ 16 → every (λ b. ltb (digit_value b) base) s ≡ true
    → digits_of base (k + length s) (number_after base n s) ≡ digits_of base k n ++ map lower_of s
unfolding digits_of number_after every
digits_number base k n [] g h e = ap (λ (j : ℕ). digits_of base j n) (add-zero k) ∙ sym (append-nil (digits_of base k n))
digits_number base k n (d ∷ s) g h e =
    let halves = both (ltb (digit_value d) base) (every (λ b. ltb (digit_value b) base) s) e in
    let v = digit_value d in
    let small = ltb-true v base halves.0 in
    ap (λ (j : ℕ). digits_of base j (number_after base (n * base + v) s)) (add-suc k (length s) ∙ sym (suc-add k (length s)))
    ∙ digits_number base (suc k) (n * base + v) s g h halves.1
    ∙ ap₂ (λ (q r : ℕ). digits_of base k q ++ digit_of r ∷ [] ++ map lower_of s) (digits_div n small) (digits_mod n small)
    ∙ ap (λ (c : ℕ). digits_of base k n ++ c ∷ [] ++ map lower_of s) (digit_written d (omega arith))
    ∙ append_snoc (digits_of base k n) (lower_of d) (map lower_of s)

-- k digits stand for less than base ^ k
pub number_lt : (base n bound : ℕ) (s : List ℕ) → n < bound → every (λ b. ltb (digit_value b) base) s ≡ true → number_after base n s < bound * base ^ length s
unfolding number_after every
number_lt base n bound [] h e = simp (pow-zero, mul-one) h
number_lt base n bound (d ∷ s) h e =
    let halves = both (ltb (digit_value d) base) (every (λ b. ltb (digit_value b) base) s) e in
    let small = ltb-true (digit_value d) base halves.0 in
    rw (pow-succ', ← mul_assoc) (number_lt base (n * base + digit_value d) (bound * base) s (digits_lt h small) halves.1)

-- the digits of a number are hex digits
pub digits_hex : (k n : ℕ) → every is_hex (digits_of 16 k n) ≡ true
unfolding digits_of every
digits_hex zero n = refl
digits_hex (suc k) n =
    let small = mod-lt n {m = 16} (omega arith) in
    let last : is_hex (digit_of (n % 16)) ≡ true = hex_value (digit_of (n % 16)) ∙ ap (λ (v : ℕ). ltb v 16) (digit_read (n % 16) small) ∙ lt-ltb
    (n % 16) 16 small in
    every_append is_hex (digits_of 16 k (n / 16)) (digit_of (n % 16) ∷ []) ∙ ap₂ (λ (a b : Bool). a && (b && true)) (digits_hex k (n / 16)) last

-- a hex digit is no white space
pub hex_solid : (b : ℕ) → is_hex b ≡ true → is_solid b ≡ true
hex_solid b e =
    past_space_solid b
    (cases (leb 33 b) (λ t. leb-true 33 b t) (λ t. absurd (low (leb-false 33 b t))))
  where
    low : b < 33 → ⊥
    low h =
        let none : is_digit b ≡ false = rw (lt-leb 48 b (omega arith)) in
        let kept : lower_of b ≡ b = rw (lt-leb 65 b (omega arith)) in
        let value = value_low b none (omega arith) in
        let small = ltb-true (digit_value b) 16 (sym (hex_value b) ∙ e) in
        omega arith

-- the case of a digit does not matter
lower_means : (b l : ℕ) → is_digit b ≡ false → lower_of b ≡ l → digit_value b ≡ cond (leb 97 l && leb l 102) (l - 87) 16
lower_means b l e f =
    ap₂ (λ (t : Bool) (m : ℕ). cond t (b - 48) (cond (leb 97 m && leb m 102) (m - 87) 16)) e f

pub lower_value : (b : ℕ) → digit_value (lower_of b) ≡ digit_value b
lower_value b = cases (is_upper b) upper (λ e. ap digit_value (ap (λ (t : Bool). cond t (b + 32) b) e))
  where
    upper : is_upper b ≡ true → digit_value (lower_of b) ≡ digit_value b
    upper e =
        let low = capital_lower b e in
        let one : is_digit (b + 32) ≡ false = rw (le-leb 48 (b + 32) (omega arith), lt-leb (b + 32) 57 (omega arith)) in
        let two : is_digit b ≡ false = rw (le-leb 48 b (omega arith), lt-leb b 57 (omega arith)) in
        ap digit_value low.2 ∙ lower_means (b + 32) (b + 32) one low.3 ∙ sym (lower_means b (b + 32) two low.2)

pub lower_hex : (b : ℕ) → is_hex (lower_of b) ≡ is_hex b
lower_hex b = hex_value (lower_of b) ∙ ap (λ (v : ℕ). ltb v 16) (lower_value b) ∙ sym (hex_value b)

pub every_lower_hex : (s : List ℕ) → every is_hex (map lower_of s) ≡ every is_hex s
unfolding every
every_lower_hex [] = refl
every_lower_hex (b ∷ s) = ap₂ (λ (x y : Bool). x && y) (lower_hex b) (every_lower_hex s)

pub number_lower : (base n : ℕ) (s : List ℕ) → number_after base n (map lower_of s) ≡ number_after base n s
unfolding number_after
number_lower base n [] = refl
number_lower base n (b ∷ s) =
    ap (λ (v : ℕ). number_after base (n * base + v) (map lower_of s)) (lower_value b) ∙ number_lower base (n * base + digit_value b) s

-- hex digits as digits in base 16
pub hex_digits : (s : List ℕ) → every is_hex s ≡ true → every (λ b. ltb (digit_value b) 16) s ≡ true
hex_digits s e = every_weaker is_hex (λ b. ltb (digit_value b) 16) (λ b h. sym (hex_value b) ∙ h) s e
