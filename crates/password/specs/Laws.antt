-- Laws of the generator, for the crates above.
use Rattle.std.specs.Prelude.{ℕ, ◌≤◌, ◌<◌, ◌≡◌, List, Ok, Err}
use Rattle.std.proofs.Common.{sym}
use borrow.Author.Tests.{lt-ltb, le-ltb}
use Rattle.refusal.specs.declared.Refusal.{Refusal}
use Rattle.password.specs.PhraseAndSeed.{phrase_checked, seed_checked}
use Rattle.password.specs.Algorithm.{algorithm_number}
use Rattle.password.specs.AlgorithmLaws.{number_numbered, known_done}
use Rattle.password.specs.declared.algorithm.Algorithm.{Algorithm}
use Rattle.password.specs.Password.{password, generated_by, generated}

-- the generator's answers, one for each way through its checks

module _ (algorithm : Algorithm) (phrase seed : List ℕ) (count : ℕ) where
  pub refused_phrase : (why : Refusal) → phrase_checked phrase ≡ Err why
      → generated_by algorithm phrase seed count ≡ Err why
  unfolding generated_by
  refused_phrase why e = rw e

  pub refused_seed : (why : Refusal) → phrase_checked phrase ≡ Ok tt → seed_checked seed ≡ Err why
      → generated_by algorithm phrase seed count ≡ Err why
  unfolding generated_by
  refused_seed why e g = rw (e, g)

  pub refused_count : phrase_checked phrase ≡ Ok tt → seed_checked seed ≡ Ok tt → 9999 < count
      → generated_by algorithm phrase seed count ≡ Err Refusal.CountHigh
  unfolding generated_by
  refused_count e g h = rw (e, g, lt-ltb 9999 count h)

  pub generated_good : phrase_checked phrase ≡ Ok tt → seed_checked seed ≡ Ok tt → count ≤ 9999
      → generated_by algorithm phrase seed count ≡ Ok (password algorithm phrase seed count)
  unfolding generated_by
  generated_good e g h = rw (e, g, le-ltb 9999 count h)

-- the generator by an algorithm's number is the generator by the algorithm
pub generated_numbered : (algorithm : Algorithm) (phrase seed : List ℕ) (count : ℕ)
    → generated (algorithm_number algorithm) phrase seed count ≡ generated_by algorithm phrase seed count
unfolding generated
generated_numbered algorithm phrase seed count =
    sym (known_done Err (λ (a : Algorithm). generated_by a phrase seed count) _ algorithm (number_numbered algorithm))
