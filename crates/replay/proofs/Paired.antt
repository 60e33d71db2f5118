-- Bytes from pairs of digits, pair by pair, where the bytes take the place of the digits.
use Prim.Native.Nat.{ℕ, suc, ◌+◌, ◌*◌, ◌/◌, ◌%◌, ◌≤◌, ◌<◌}
use mathlib.Core.Path.{◌≡◌, refl, sym, ◌∙◌, ap, ap₂}
use mathlib.Core.Bool.{Bool, true, false, cond, ◌&&◌}
use mathlib.Core.Logic.{◌⊎◌, inl, inr}
use mathlib.Core.List.{List, [], ◌∷◌, ◌++◌, append_assoc, append-nil}
use native.Mathlib.Omega.{arith}
use native.Mathlib.Numerals.{add-one}
use lib.Dec.{eqb}
use lib.ListN.{length, get_or, take, drop, set, drop_of_length-le, length-set}
use lib.Seq.{drop-cons, drop-set-lt, take-suc-set}
use borrow.Author.Tests.{eq-eqb, ne_eqb, le-leb, lt-ltb, le-ltb}
use Rattle.text.specs.Digits.{digit_value}
use Rattle.text.specs.Tests.{every, same, second_fails}
use Rattle.std.specs.Prelude.{None, Some}
use Rattle.replay.specs.ReplayWords.{digit_in, is_digit_of, bytes_in, pairs_in, text_in}
use Rattle.replay.proofs.WordsScanned.{digit_value_lem}

-- i pairs of the word v are bytes at the front of w, and the others still stand where they stood
pub record Paired (v w : List ℕ) (i : ℕ) : Type 0 where
  pub same_length : length w ≡ length v
  pub digits : every (is_digit_of 16) v ≡ every (is_digit_of 16) (drop (2 * i) w)
  pub bytes : bytes_in v ≡ take i w ++ bytes_in (drop (2 * i) w)

pub none_paired : (v : List ℕ) → Paired v v 0
none_paired v = record { same_length = refl; digits = refl; bytes = refl }

module _ (v w : List ℕ) (i : ℕ) (inside : 2 * i + 1 < length w) (p : Paired v w i) where
  abbrev a : ℕ
  a = get_or w (2 * i) 0

  abbrev b : ℕ
  b = get_or w (2 * i + 1) 0

  -- the next pair
  rest : drop (2 * i) w ≡ a ∷ b ∷ drop (2 * (i + 1)) w
  rest =
      let near : 2 * i < length w = omega arith in
      let after : suc (2 * i) ≡ 2 * i + 1 = omega arith in
      let past : suc (2 * i + 1) ≡ 2 * (i + 1) = omega arith in
      drop-cons w (2 * i) 0 near
      ∙ ap (λ (k : ℕ). a ∷ drop k w) after
      ∙ ap (λ (l : List ℕ). a ∷ l) (drop-cons w (2 * i + 1) 0 inside ∙ ap (λ (k : ℕ). b ∷ drop k w) past)

  digits_next : every (is_digit_of 16) v ≡ (is_digit_of 16 a && (is_digit_of 16 b && every (is_digit_of 16) (drop (2 * (i + 1)) w)))
  unfolding every
  digits_next = p.digits ∙ ap (every (is_digit_of 16)) rest

  -- one of the two is no digit
  pub bad_pair : (digit_in a < 16 → ⊥) ⊎ (digit_in b < 16 → ⊥) → None ≡ pairs_in v
  bad_pair h =
      sym (ap (λ (t : Bool). cond t (Some (bytes_in v)) None) (ap (λ (t : Bool). eqb (length v % 2) 0 && t) (none h) ∙ never (eqb (length v % 2) 0)))
    where
      never : (t : Bool) → (t && false) ≡ false
      never true = refl
      never false = refl

      none : (digit_in a < 16 → ⊥) ⊎ (digit_in b < 16 → ⊥) → every (is_digit_of 16) v ≡ false
      none (inl h) =
          digits_next ∙ ap (λ (t : Bool). t && (is_digit_of 16 b && every (is_digit_of 16) (drop (2 * (i + 1)) w))) (le-ltb (digit_in a) 16 (omega arith))
      none (inr h) =
          digits_next
          ∙ ap (λ (t : Bool). is_digit_of 16 a && (t && every (is_digit_of 16) (drop (2 * (i + 1)) w))) (le-ltb (digit_in b) 16 (omega arith))
          ∙ never (is_digit_of 16 a)

  -- both are
  pub next_paired : (high low : ℕ) → (digit_in a < 16) × (high ≡ digit_in a) → (digit_in b < 16) × (low ≡ digit_in b)
      → Paired v (set w i (high * 16 + low)) (i + 1)
  unfolding bytes_in
  next_paired high low (h, first) (l, second) =
      let kept : drop (2 * (i + 1)) (set w i (high * 16 + low)) ≡ drop (2 * (i + 1)) w = drop-set-lt (2 * (i + 1)) w i (high * 16 + low) (omega arith) in
      let byte : digit_value a * 16 + digit_value b
      ≡ high * 16 + low = ap₂ (λ (x y : ℕ). x * 16 + y) (digit_value_lem a high first (omega arith)) (digit_value_lem b low second (omega arith)) in
      record {
        same_length = length-set w i (high * 16 + low) ∙ p.same_length;
        digits =
            digits_next
            ∙ ap₂ (λ (t u : Bool). t && (u && every (is_digit_of 16) (drop (2 * (i + 1)) w))) (lt-ltb (digit_in a) 16 h) (lt-ltb (digit_in b) 16 l)
            ∙ ap (every (is_digit_of 16)) (sym kept);
        bytes =
            p.bytes
            ∙ ap (λ (l : List ℕ). take i w ++ bytes_in l) rest
            ∙ ap (λ (x : ℕ). take i w ++ x ∷ bytes_in (drop (2 * (i + 1)) w)) byte
            ∙ sym (append_assoc (take i w) ((high * 16 + low) ∷ []) (bytes_in (drop (2 * (i + 1)) w)))
            ∙ ap₂ (λ (l m : List ℕ). l ++ bytes_in m) (sym (ap (λ (k : ℕ). take k (set w i (high * 16 + low))) (add-one i)
            ∙ take-suc-set w i (high * 16 + low) (omega arith))) (sym kept);
      }

-- all pairs
pub all_paired : (v w : List ℕ) → length v % 2 ≡ 0 → Paired v w (length v / 2) → Some (take (length v / 2) w) ≡ pairs_in v
unfolding every bytes_in
all_paired v w even p =
    let n = length v / 2 in
    let all : length w ≤ 2 * n = omega (arith, p.same_length) in
    let none : drop (2 * n) w ≡ [] = drop_of_length-le w all in
    let digits : every (is_digit_of 16) v ≡ true = p.digits ∙ ap (every (is_digit_of 16)) none in
    let bytes : bytes_in v ≡ take n w = p.bytes ∙ ap (λ (l : List ℕ). take n w ++ bytes_in l) none ∙ append-nil (take n w) in
    ap Some (sym bytes) ∙ sym (ap₂ (λ (t u : Bool). cond (t && u) (Some (bytes_in v)) None) (eq-eqb (length v % 2) 0 even) digits)

-- what decides pairs: one that is none, or that all are
pub ruleset pair_laws = (bad_pair, all_paired)

-- a text that is no dash
longer_text : (w : List ℕ) → (length w ≡ 1 → ⊥) → same w (45 ∷ []) ≡ false
unfolding same
longer_text [] f = refl
longer_text (b ∷ []) f = absurd (f refl)
longer_text (b ∷ d ∷ w) f = second_fails (eqb b 45) false refl

text_pairs : (w : List ℕ) → same w (45 ∷ []) ≡ false → (length w ≡ 0 → ⊥) → text_in w ≡ pairs_in w
unfolding text_in
text_pairs w e f =
    ap₂ (λ (t u : Bool). cond t (Some []) (cond u (pairs_in w) None)) e (le-leb 1 (length w) (omega arith))

pairs_odd : (w : List ℕ) → (length w % 2 ≡ 0 → ⊥) → pairs_in w ≡ None
pairs_odd w f = ap (λ (t : Bool). cond (t && every (is_digit_of 16) w) (Some (bytes_in w)) None) (ne_eqb (length w % 2) 0 f)

-- each case of a text
pub text_empty : (w : List ℕ) → length w ≡ 0 → text_in w ≡ None
unfolding text_in same
text_empty [] e = refl
text_empty (b ∷ w) e = absurd (omega arith)

pub text_even : (w : List ℕ) → (length w ≡ 0 → ⊥) → length w % 2 ≡ 0 → text_in w ≡ pairs_in w
text_even w f e = text_pairs w (longer_text w (λ g. omega arith)) f

pub text_dash : (w : List ℕ) → length w ≡ 1 → get_or w 0 0 ≡ 45 → text_in w ≡ Some []
unfolding text_in same
text_dash [] e g = absurd (omega arith)
text_dash (b ∷ []) e g = ap (λ (t : Bool). cond (t && true) (Some []) (cond true (pairs_in (b ∷ [])) None)) (eq-eqb b 45 g)
text_dash (b ∷ d ∷ w) e g = absurd (omega arith)

pub text_byte : (w : List ℕ) → length w ≡ 1 → (get_or w 0 0 ≡ 45 → ⊥) → text_in w ≡ None
unfolding same
text_byte [] e g = absurd (omega arith)
text_byte (b ∷ []) e g =
    text_pairs (b ∷ []) (ap (λ (t : Bool). t && true) (ne_eqb b 45 g)) (λ h. omega arith) ∙ pairs_odd (b ∷ []) (λ h. omega arith)
text_byte (b ∷ d ∷ w) e g = absurd (omega arith)

pub text_odd : (w : List ℕ) → (length w % 2 ≡ 0 → ⊥) → (length w ≡ 1 → ⊥) → text_in w ≡ None
text_odd w f g = text_pairs w (longer_text w g) (λ e. f (ap (λ (n : ℕ). n % 2) e)) ∙ pairs_odd w f

-- what decides a text, by its cases
pub ruleset text_laws = (text_empty, text_even, text_dash, text_byte, text_odd)
