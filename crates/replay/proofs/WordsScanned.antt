-- A number, digit by digit: what is left of a word after each, and what the digits so far decide.
use Prim.Native.Nat.{ℕ, suc, ◌+◌, ◌*◌, ◌≤◌, ◌<◌}
use mathlib.Core.Path.{◌≡◌, refl, sym, ◌∙◌, ap, ap₂}
use mathlib.Core.Bool.{Bool, true, false, cond, ◌&&◌}
use mathlib.Core.List.{List, [], ◌∷◌}
use native.Mathlib.Omega.{arith}
use native.Mathlib.Nat.{mul-le-mul_left}
use native.Mathlib.Numerals.{add-one}
use lib.Dec.{leb, ltb, eqb}
use lib.ListN.{length, get_or, drop, drop_of_length-le}
use lib.Seq.{drop-cons}
use borrow.Author.Tests.{lt-ltb, le-ltb, le-leb, lt-leb, leb-true}
use Rattle.text.specs.Kinds.{lower_of}
use Rattle.text.specs.Digits.{digit_value, number_after, number_of}
use Rattle.text.specs.Tests.{every, cases, both, either}
use Rattle.std.specs.Prelude.{Option, None, Some}
use Rattle.replay.specs.ReplayWords.{digit_in, is_digit_of, number_in}

-- what a word says of which n are the digits so far, and s those that are left
abbrev pub number_from : ℕ → ℕ → ℕ → List ℕ → Option ℕ
number_from base most n s = cond (every (is_digit_of base) s && leb (number_after base n s) most) (Some (number_after base n s)) None

pub empty_bad : (base most : ℕ) (w : List ℕ) → length w ≡ 0 → None ≡ number_in base most w
unfolding number_in
empty_bad base most [] e = refl
empty_bad base most (b ∷ w) e = absurd (omega arith)

pub number_start : (base most : ℕ) (w : List ℕ) → (length w ≡ 0 → ⊥) → number_in base most w ≡ number_from base most 0 w
unfolding number_in
number_start base most w e =
    ap (λ (t : Bool). cond (t && every (is_digit_of base) w && leb (number_after base 0 w) most) (Some (number_after base 0 w)) None)
    (le-leb 1 (length w) (omega arith))

-- a digit of some base stands for what any reader of digits takes it for
pub digit_value_lem : (b d : ℕ) → d ≡ digit_in b → d < 16 → digit_value b ≡ d
digit_value_lem b d e h =
    cases (eqb (lower_of b) b)
    (λ t. sym (e ∙ ap (λ (u : Bool). cond u (digit_value b) 16) t))
    (λ t. absurd (omega (arith, e ∙ ap (λ (u : Bool). cond u (digit_value b) 16) t)))

module _ (base most n : ℕ) (w : List ℕ) (i d : ℕ) (inside : i < length w) (read : d ≡ digit_in (get_or w i 0)) where
  -- a byte that is no digit
  other : base ≤ d → number_from base most n (drop i w) ≡ None
  unfolding every
  other h =
      let no : is_digit_of base (get_or w i 0) ≡ false = ap (λ (v : ℕ). ltb v base) (sym read) ∙ le-ltb d base h in
      rw (drop-cons w i 0) (rw no)

  -- a digit
  digit : d < base → base ≤ 16 → number_from base most n (drop i w) ≡ number_from base most (n * base + d) (drop (i + 1) w)
  unfolding every number_after
  digit h g =
      let yes : is_digit_of base (get_or w i 0) ≡ true = ap (λ (v : ℕ). ltb v base) (sym read) ∙ lt-ltb d base h in
      let s = drop (suc i) w in
      ap (number_from base most n) (drop-cons w i 0 inside)
      ∙ ap₂ (λ (t : Bool) (m : ℕ). cond ((t && every (is_digit_of base) s) && leb (number_after base m s) most)
      (Some (number_after base m s)) None) yes
      (ap (λ (v : ℕ). n * base + v) (digit_value_lem (get_or w i 0) d read (omega arith)))
      ∙ ap (λ (k : ℕ). number_from base most (n * base + d) (drop k w)) (sym (add-one i))

-- the number only grows
grows : (base n : ℕ) (s : List ℕ) → 1 ≤ base → n ≤ number_after base n s
unfolding number_after
grows base n [] h = omega arith
grows base n (b ∷ s) h =
    let more = grows base (n * base + digit_value b) s h in
    let times = mul-le-mul_left n h in
    omega arith

-- a number that is too large already
large : (base most n : ℕ) (s : List ℕ) → 1 ≤ base → most < n → number_from base most n s ≡ None
large base most n s h g =
    cases (every (is_digit_of base) s)
    (λ t. simp (t, lt-leb (number_after base n s) most (omega (arith, grows base n s h))))
    (λ t. simp t)

pub number_end : (base most n : ℕ) (w : List ℕ) (i : ℕ) → length w ≤ i → n ≤ most → number_from base most n (drop i w) ≡ Some n
unfolding every number_after
number_end base most n w i h g = rw drop_of_length-le (rw (le-leb n most g))

-- what is said is at most `most`
pub at_most : (base most n : ℕ) (w : List ℕ) → Some n ≡ number_in base most w → n ≤ most
unfolding number_in
at_most base most n w =
    either (λ (x : Option ℕ). Some n ≡ x → n ≤ most) (leb 1 (length w) && every (is_digit_of base) w && leb (number_of base w) most)
    (λ t e. let whole : n ≡ number_of base w = cc in omega (arith, whole, leb-true (number_of base w) most (both _ _ t).1)) (λ t e. cc)

-- a byte behind the digits so far: it is no digit, or the number with it is too large, or it is the next digit
module _ (base most n : ℕ) (w : List ℕ) (i : ℕ) (so_far : number_in base most w ≡ number_from base most n (drop i w)) (inside : i < length w) where
  pub no_digit_next : (digit_in (get_or w i 0) < base → ⊥) → None ≡ number_in base most w
  no_digit_next h = sym (so_far ∙ other base most n w i (digit_in (get_or w i 0)) inside refl (omega arith))

  pub digit_next : (d : ℕ) → (digit_in (get_or w i 0) < base) × (d ≡ digit_in (get_or w i 0)) → base ≤ 16
      → number_in base most w ≡ number_from base most (n * base + d) (drop (i + 1) w)
  digit_next d (h, read) g = so_far ∙ digit base most n w i d inside read (omega arith) g

  pub large_next : (d : ℕ) → (digit_in (get_or w i 0) < base) × (d ≡ digit_in (get_or w i 0)) → base ≤ 16
      → most < n * base + d → None ≡ number_in base most w
  large_next d k g l = sym (digit_next d k g ∙ large base most (n * base + d) (drop (i + 1) w) (omega arith) l)

-- what decides a number, by the digits so far and those that are left
pub ruleset number_laws = (empty_bad, number_start, no_digit_next, digit_next, large_next, number_end)
