-- The card writer's answers by what the checks find, and the card's text from the walked passwords.
use Rattle.std.specs.Prelude.{Ok, Err}
use Prim.Native.Nat.{ℕ, ◌+◌, ◌-◌, ◌≤◌}
use mathlib.Core.Path.{◌≡◌, refl, ◌∙◌, ap, ap₂}
use mathlib.Core.List.{List}
use native.Mathlib.Omega.{arith}
use Rattle.refusal.specs.declared.Refusal.{Refusal}
use Rattle.text.specs.Put.{written_of}
use Rattle.password.specs.declared.algorithm.Algorithm.{Algorithm}
use Rattle.password.specs.Password.{password}
use Rattle.challenge.specs.Challenges.{challenge_of, algorithm_of, seed_of}
use Rattle.cards.specs.CardLines.{card_text, at}
use Rattle.cards.specs.CardLineLaws.{card_same}
use Rattle.cards.specs.CardChecks.{count_of, card_checked}
use Rattle.cards.specs.CardCheckLaws.{card_bounds}
use Rattle.cards.specs.Cards.{card_of, card_written}
use Rattle.cards.specs.Inside.{Falling}

-- the passwords of the walk make the lines
pub walked : (algorithm : Algorithm) (phrase seed ps : List ℕ) (n k : ℕ) → 1 ≤ k → k ≤ n
    → Falling algorithm (password algorithm phrase seed (n - (k - 1))) k ps
    → card_text (at ps n) n k ≡ card_text (password algorithm phrase seed) n k
walked algorithm phrase seed ps n k low high w =
    card_same (at ps n) (password algorithm phrase seed) k n high
    (λ count a b.
    let same : n - (k - 1) + (k - 1 - (n - count)) ≡ count = omega arith in
    w phrase seed (n - (k - 1)) refl (n - count) (omega arith) ∙ ap (password algorithm phrase seed) same)

module _ (phrase challenge : List ℕ) (k : ℕ) where
  pub refused : (room : ℕ) (why : Refusal) → card_checked phrase challenge k ≡ Err why → Err why ≡ card_written phrase challenge k room
  unfolding card_written
  refused room why e = rw e

  module _ (e : card_checked phrase challenge k ≡ Ok tt) where
    pub written : (room : ℕ) → card_written phrase challenge k room ≡ written_of room (card_of phrase challenge k)
    unfolding card_written
    written room = rw e

    pub bounds : (n : ℕ) → n ≡ count_of (challenge_of challenge) → (1 ≤ k) × (k ≤ 99) × (k ≤ n)
    bounds n p = let b = card_bounds phrase challenge k e in (b.0, b.1, omega (arith, b.2))

  pub card_from : (algorithm : Algorithm) (n : ℕ) → algorithm ≡ algorithm_of (challenge_of challenge) → n ≡ count_of (challenge_of challenge)
      → card_text (password algorithm phrase (seed_of challenge)) n k ≡ card_of phrase challenge k
  unfolding card_of
  card_from algorithm n e p = ap₂ (λ (a : Algorithm) (m : ℕ). card_text (password a phrase (seed_of challenge)) m k) e p
