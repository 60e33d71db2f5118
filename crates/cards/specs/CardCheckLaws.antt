-- Laws of a card's checks: what holds of a card that is not refused.
use Rattle.std.specs.Prelude.{ℕ, ◌≤◌, Bool, true, ◌&&◌, List, leb, Ok, Err, Result}
use Rattle.std.specs.Result.{result_unwrap_or}
use Rattle.std.proofs.Math.Path.{◌≡◌, refl}
use Rattle.std.specs.Result.{result_unwrap_or}
use Rattle.std.proofs.Common.{arith, leb-true, ap, sym}
use Rattle.refusal.specs.declared.Refusal.{Refusal}
use Rattle.refusal.specs.Answers.{Checked}
use Rattle.refusal.specs.Checks.{unless}
use Rattle.refusal.specs.Laws.{must_good, both_good}
use Rattle.text.specs.Tests.{both}
use Rattle.password.specs.declared.algorithm.Algorithm.{Algorithm}
use Rattle.password.specs.PhraseAndSeed.{phrase_checked}
use Rattle.challenge.specs.declared.reading.Challenge.{Challenge}
use Rattle.challenge.specs.Challenges.{challenge_of, algorithm_of, a_challenge}
use Rattle.cards.specs.CardChecks.{challenge_checked, count_of, lines_checked, card_checked}
use Rattle.cards.specs.Inside.{asked_of}

-- the lines that pass the check
pub lines_good : (k n : ℕ) → (leb 1 k && leb k 99 && leb k n) ≡ true → (1 ≤ k) × (k ≤ 99) × (k ≤ n)
lines_good k n e =
    let outer = both (leb 1 k && leb k 99) (leb k n) e in
    let inner = both (leb 1 k) (leb k 99) outer.0 in
    (leb-true 1 k inner.0, leb-true k 99 inner.1, leb-true k n outer.1)

-- a challenge with nothing wrong is read
pub is_read : (c : Result Challenge Refusal) → challenge_checked c ≡ Ok tt → (algorithm : Algorithm) × (n s l u : ℕ) × (x : Bool)
    × (c ≡ a_challenge algorithm n s l u x)
is_read (Ok c) e = (c.algorithm, c.count, c.start, c.len, c.used, c.ext, refl)
is_read (Err why) e = let z : ◌≡◌ {A = ℕ} 0 1 = cc in absurd (omega arith)

module _ (phrase challenge : List ℕ) (k : ℕ) (e : card_checked phrase challenge k ≡ Ok tt) where
  pub checks_good : (phrase_checked phrase ≡ Ok tt) × (challenge_checked (challenge_of challenge) ≡ Ok tt)
      × (lines_checked k (count_of (challenge_of challenge)) ≡ Ok tt)
  unfolding card_checked
  checks_good =
      let a = both_good (phrase_checked phrase) _ e in
      let b = both_good (challenge_checked (challenge_of challenge)) (lines_checked k (count_of (challenge_of challenge))) a.1 in
      (a.0, b.0, b.1)

  pub card_bounds : (1 ≤ k) × (k ≤ 99) × (k ≤ count_of (challenge_of challenge))
  card_bounds =
      let n = count_of (challenge_of challenge) in
      lines_good k n (must_good (leb 1 k && leb k 99 && leb k n) Refusal.LinesOutside checks_good.2)

-- ---- what the answer says of the checks

module _ (phrase challenge : List ℕ) (k : ℕ) where
  -- the answer, by what the checks find
  abbrev from : Checked → Result (Algorithm × ℕ) Refusal
  from c = unless Err c (Ok (algorithm_of (challenge_of challenge), count_of (challenge_of challenge)))

  pub asked_card : (algorithm : Algorithm) (n : ℕ) → asked_of phrase challenge k ≡ Ok (algorithm, n)
      → (card_checked phrase challenge k ≡ Ok tt) × (algorithm ≡ algorithm_of (challenge_of challenge)) × (n ≡ count_of (challenge_of challenge))
  unfolding asked_of
  asked_card algorithm n e = by (card_checked phrase challenge k) refl e
    where
      by : (c : Checked) → card_checked phrase challenge k ≡ c → from c ≡ Ok (algorithm, n)
          → (card_checked phrase challenge k ≡ Ok tt) × (algorithm ≡ algorithm_of (challenge_of challenge)) × (n ≡ count_of (challenge_of challenge))
      by (Ok _) f g =
          let said = ap (λ (r : Result (Algorithm × ℕ) Refusal). result_unwrap_or r (algorithm, n)) (sym g) in
          (f, ap (λ (p : Algorithm × ℕ). p.0) said, ap (λ (p : Algorithm × ℕ). p.1) said)
      by (Err why) f g = let z : ◌≡◌ {A = ℕ} 0 1 = cc in absurd (omega arith)

  pub asked_refused : (why : Refusal) → asked_of phrase challenge k ≡ Err why → card_checked phrase challenge k ≡ Err why
  unfolding asked_of
  asked_refused why e = by (card_checked phrase challenge k) refl e
    where
      by : (c : Checked) → card_checked phrase challenge k ≡ c → from c ≡ Err why → card_checked phrase challenge k ≡ Err why
      by (Ok _) f g = let z : ◌≡◌ {A = ℕ} 0 1 = cc in absurd (omega arith)
      by (Err other) f g = cc
