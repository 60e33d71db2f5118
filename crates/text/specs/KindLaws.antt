-- Laws of the kinds of a byte.
use Rattle.std.specs.Prelude.{ℕ, ◌+◌, ◌-◌, ◌≤◌, ◌≡◌, Bool, true, false, cond, ◌||◌, leb}
use Rattle.std.proofs.Common.{arith, sym, ◌∙◌, ap, ap₂, true≢false, le-leb, leb-true, ne_eqb}
use Rattle.std.proofs.lemmas.Bool.{lt-leb}
use Rattle.text.specs.Kinds.{is_upper, is_lower, is_letter, is_solid, lower_of, upper_of}
use Rattle.text.specs.Tests.{either, cases, both}

-- what lies past the space is no white space
pub past_space_solid : (b : ℕ) → 33 ≤ b → is_solid b ≡ true
past_space_solid b h =
    rw (ne_eqb b 32 (λ e. omega arith), ne_eqb b 9 (λ e. omega arith), ne_eqb b 13 (λ e. omega arith), ne_eqb b 10 (λ e. omega arith))

-- an upper-case letter is a letter, and stays in upper case
pub upper_letter : (b : ℕ) → 65 ≤ b → b ≤ 90 → is_letter b ≡ true
upper_letter b h g = rw (le-leb 65 b h, le-leb b 90 g)

pub upper_kept : (b : ℕ) → b ≤ 90 → upper_of b ≡ b
upper_kept b g = rw (lt-leb 97 b (omega arith))

-- a letter in upper case is one of `A` to `Z`
pub letter_upper : (b : ℕ) → is_letter b ≡ true → (65 ≤ upper_of b) × (upper_of b ≤ 90)
letter_upper b e =
    either (λ (c : ℕ). (65 ≤ c) × (c ≤ 90)) (is_lower b) lower
    (λ f. upper f (cases (is_upper b) (λ g. g) (λ g. absurd (true≢false (sym e ∙ ap₂ (λ (x y : Bool). x || y) g f)))))
  where
    lower : is_lower b ≡ true → (65 ≤ b - 32) × (b - 32 ≤ 90)
    lower f =
        let halves = both (leb 97 b) (leb b 122) f in
        omega (arith, leb-true 97 b halves.0, leb-true b 122 halves.1)

    upper : is_lower b ≡ false → is_upper b ≡ true → (65 ≤ b) × (b ≤ 90)
    upper f g =
        let halves = both (leb 65 b) (leb b 90) g in
        omega (arith, leb-true 65 b halves.0, leb-true b 90 halves.1)

-- a capital's lower case is 32 more, and is its own
pub capital_lower : (b : ℕ) → is_upper b ≡ true → (65 ≤ b) × (b ≤ 90) × (lower_of b ≡ b + 32) × (lower_of (b + 32) ≡ b + 32)
capital_lower b e =
    let halves = both (leb 65 b) (leb b 90) e in
    let from = leb-true 65 b halves.0 in
    let to = leb-true b 90 halves.1 in
    (from, to, ap (λ (t : Bool). cond t (b + 32) b) e, rw (le-leb 65 (b + 32) (omega arith), lt-leb (b + 32) 90 (omega arith)))
