-- RFC 1321, 3.4 prints a word k and a shift s for each operation [abcd k s i]. The code works both out from the round n, 1 to
-- 4, and the step i in it, 0 to 15; that this gives what is printed, at all 64 steps, is one computed test.
use Rattle.std.specs.Prelude.{ℕ, zero, suc, ◌+◌, ◌*◌, ◌-◌, ◌/◌, ◌%◌, ◌<◌, ◌≤◌, ◌≡◌, refl, Bool, true, cond, ◌&&◌, List, eqb, ltb, length, get_or}
use Rattle.std.proofs.Common.{subst, ap, arith, eqb-true, ltb-true}
use Rattle.text.specs.Tests.{every, every_at, both}
use Rattle.digests.specs.Lists.{up_to, length-up_to, get_d_up_to}
use Rattle.digests.specs.Rounds.{round1, round2, round3, round4}
use Rattle.md5_hash.specs.declared.round.Round.{Round}
use Rattle.md5_hash.specs.Inside.{round_of, number, as_printed}

abbrev pub word_of : ℕ → ℕ → ℕ
word_of n i =
    cond (eqb n 1) i
    (cond (eqb n 2) ((5 * i + 1) % 16)
    (cond (eqb n 3) ((3 * i + 5) % 16)
    (7 * i % 16)))

abbrev pub shift_of : ℕ → ℕ → ℕ
shift_of n i =
    let j : ℕ = i % 4 in
    cond (eqb n 1) (7 + 5 * j)
    (cond (eqb n 2) (5 + j * (j + 7) / 2)
    (cond (eqb n 3) (4 + 6 * j + j % 2)
    (6 + j * (j + 7) / 2)))

-- The word is the printed one, and one of the sixteen; the shift is the printed one, and a rotation can be by it.
abbrev word_printed : ℕ → ℕ → Bool
word_printed n i = eqb (word_of n i) (get_or (round_of n).order i 0) && ltb (word_of n i) 16

abbrev shift_printed : ℕ → ℕ → Bool
shift_printed n i = eqb (shift_of n i) (get_or (round_of n).shifts i 0) && (ltb 0 (shift_of n i) && ltb (shift_of n i) 32)

abbrev printed : ℕ → ℕ → Bool
printed n i = word_printed n i && shift_printed n i

abbrev steps : List ℕ
steps = up_to 16 (λ i. i)

abbrev rounds : List ℕ
rounds = up_to 4 suc

pub formulas_printed : every (λ (n : ℕ). every (printed n) steps) rounds ≡ true
unfolding every up_to round_of round1 round2 round3 round4
formulas_printed = refl

-- The test at each round and step.
printed_at : (n i : ℕ) → 0 < n → n ≤ 4 → i < 16 → printed n i ≡ true
printed_at n i low high h =
    let inside : n - 1 < length rounds = omega (arith, length-up_to 4 suc) in
    let below : n - 1 < 4 = omega arith in
    let back : suc (n - 1) ≡ n = omega arith in
    let step : i < length steps = omega (arith, length-up_to 16 (λ i. i)) in
    let round : every (printed (get_or rounds (n - 1) 0)) steps ≡ true =
    every_at (λ (n : ℕ). every (printed n) steps) rounds 0 formulas_printed (n - 1) inside in
    let there : every (printed n) steps ≡ true =
    subst (λ (m : ℕ). every (printed m) steps ≡ true) back
    (subst (λ (m : ℕ). every (printed m) steps ≡ true) (get_d_up_to 4 suc (n - 1) below) round) in
    subst (λ (k : ℕ). printed n k ≡ true) (get_d_up_to 16 (λ i. i) i h) (every_at (printed n) steps 0 there i step)

-- The word and the shift at each round and step; m is the round's number as a case of the code has it.
module _ (n i : ℕ) (low : 0 < n) (high : n ≤ 4) (h : i < 16) (m : ℕ) (e : n ≡ m) where
  tests : (word_printed n i ≡ true) × (shift_printed n i ≡ true)
  tests = both (word_printed n i) (shift_printed n i) (printed_at n i low high h)

  pub word_printed_lem : (word_of m i ≡ get_or (round_of n).order i 0) × (word_of m i < 16)
  word_printed_lem =
      let passed = both (eqb (word_of n i) (get_or (round_of n).order i 0)) (ltb (word_of n i) 16) tests.0 in
      subst (λ (k : ℕ). (word_of k i ≡ get_or (round_of n).order i 0) × (word_of k i < 16)) e
      (eqb-true _ _ passed.0, ltb-true _ _ passed.1)

  pub shift_printed_lem : (shift_of m i ≡ get_or (round_of n).shifts i 0) × ((0 < shift_of m i) × (shift_of m i < 32))
  shift_printed_lem =
      let passed = both (eqb (shift_of n i) (get_or (round_of n).shifts i 0)) (ltb 0 (shift_of n i) && ltb (shift_of n i) 32) tests.1 in
      let rotates = both (ltb 0 (shift_of n i)) (ltb (shift_of n i) 32) passed.1 in
      subst (λ (k : ℕ). (shift_of k i ≡ get_or (round_of n).shifts i 0) × ((0 < shift_of k i) × (shift_of k i < 32))) e
      (eqb-true _ _ passed.0, (ltb-true _ _ rotates.0, ltb-true _ _ rotates.1))

-- The round that is none of the first three is the fourth.
pub last_round : (n : ℕ) → 0 < n → n ≤ 4 → (n ≡ 1 → ⊥) → (n ≡ 2 → ⊥) → (n ≡ 3 → ⊥) → n ≡ 4
last_round zero low high h₁ h₂ h₃ = omega arith
last_round (suc zero) low high h₁ h₂ h₃ = absurd (h₁ refl)
last_round (suc (suc zero)) low high h₁ h₂ h₃ = absurd (h₂ refl)
last_round (suc (suc (suc zero))) low high h₁ h₂ h₃ = absurd (h₃ refl)
last_round (suc (suc (suc (suc zero)))) low high h₁ h₂ h₃ = refl
last_round (suc (suc (suc (suc (suc n))))) low high h₁ h₂ h₃ = omega arith

-- The same for the rounds of the code; r' is the round as a case has it.
numbered : (r : Round) → (0 < number r) × (number r ≤ 4)
numbered Round.First = (omega arith, omega arith)
numbered Round.Second = (omega arith, omega arith)
numbered Round.Third = (omega arith, omega arith)
numbered Round.Fourth = (omega arith, omega arith)

module _ (r r' : Round) (i : ℕ) (h : i < 16) (e : r ≡ r') where
  pub word_in : (word_of (number r') i ≡ get_or (as_printed r).order i 0) × (word_of (number r') i < 16)
  word_in = word_printed_lem (number r) i (numbered r).0 (numbered r).1 h (number r') (ap number e)

  pub shift_in : (shift_of (number r') i ≡ get_or (as_printed r).shifts i 0) × ((0 < shift_of (number r') i) × (shift_of (number r') i < 32))
  shift_in = shift_printed_lem (number r) i (numbered r).0 (numbered r).1 h (number r') (ap number e)
