-- Laws of cards: how long one is, and what the generator gives at its counts.
use Rattle.std.specs.Prelude.{ℕ, ◌≤◌, ◌≡◌, List, length, Ok}
use Rattle.std.proofs.Common.{ap, arith}
use Rattle.password.specs.declared.algorithm.Algorithm.{Algorithm}
use Rattle.password.specs.Password.{password, generated_by}
use Rattle.password.specs.Laws.{generated_good}
use Rattle.challenge.specs.Challenges.{challenge_of, algorithm_of, seed_of}
use Rattle.challenge.specs.Laws.{read_seed_good, read_count_low}
use Rattle.cards.specs.CardLineLaws.{card_length}
use Rattle.cards.specs.CardChecks.{count_of, card_checked}
use Rattle.cards.specs.CardCheckLaws.{is_read, checks_good, card_bounds}
use Rattle.cards.specs.Cards.{card_of}

-- "The largest card is 99 lines of 52 bytes"
pub largest_card : (phrase challenge : List ℕ) (k : ℕ) → card_checked phrase challenge k ≡ Ok tt → length (card_of phrase challenge k) ≤ 5148
unfolding card_of
largest_card phrase challenge k e =
    let password_at = password (algorithm_of (challenge_of challenge)) phrase (seed_of challenge) in
    omega (arith, card_length password_at k (count_of (challenge_of challenge)), card_bounds phrase challenge k e)

-- at a count of the card the generator refuses nothing
pub card_generated : (phrase challenge : List ℕ) (k : ℕ) → card_checked phrase challenge k ≡ Ok tt
    → (algorithm : Algorithm) (m : ℕ) → m ≤ count_of (challenge_of challenge)
    → generated_by algorithm phrase (seed_of challenge) m ≡ Ok (password algorithm phrase (seed_of challenge) m)
card_generated phrase challenge k e algorithm m h =
    let checks = checks_good phrase challenge k e in
    let read = is_read (challenge_of challenge) checks.1 in
    let low = read_count_low read.0 read.1 read.2 read.3 read.4 read.5 challenge read.6 in
    let same = ap count_of read.6 in
    generated_good algorithm phrase (seed_of challenge) m checks.0
    (read_seed_good read.0 read.1 read.2 read.3 read.4 read.5 challenge read.6) (omega (arith, low, same))
