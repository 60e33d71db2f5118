-- 01, The card.
use Rattle.std.specs.Prelude.{ℕ, List, Err}
use Rattle.refusal.specs.Answers.{Written}
use Rattle.refusal.specs.Checks.{unless}
use Rattle.text.specs.Put.{written_of}
use Rattle.password.specs.Password.{password}
use Rattle.challenge.specs.Challenges.{challenge_of, algorithm_of, seed_of}
use Rattle.cards.specs.CardLines.{card_text}
use Rattle.cards.specs.CardChecks.{count_of, card_checked}

-- the card of a pass-phrase and a challenge, by the challenge's algorithm
unfoldable pub card_of : List ℕ → List ℕ → ℕ → List ℕ
card_of phrase challenge k =
    card_text (password (algorithm_of (challenge_of challenge)) phrase (seed_of challenge)) (count_of (challenge_of challenge)) k

-- the checks, and then 40
unfoldable pub card_written : List ℕ → List ℕ → ℕ → ℕ → Written
card_written phrase challenge k room =
    unless Err (card_checked phrase challenge k) (written_of room (card_of phrase challenge k))
