-- Nothing outside this crate rests on this: what its private functions promise.
use Rattle.std.specs.Prelude.{ℕ, ◌+◌, cond, List, length, drop, Option, Some, None, Result, Err}
use Rattle.std.specs.Option.{unwrap_or, is_some}
use Rattle.refusal.specs.declared.Refusal.{Refusal}
use Rattle.refusal.specs.Checks.{unless, must}
use Rattle.password.specs.declared.algorithm.Algorithm.{Algorithm}
use Rattle.password.specs.PhraseAndSeed.{seed_checked}
use Rattle.challenge.specs.declared.reading.Challenge.{Challenge}
use Rattle.challenge.specs.Challenges.{token_at, end_of, terminated, mark_at, has_mark, used_by, a_challenge}

-- where the mark behind the seed at a place ends, if there is one
unfoldable pub mark_end : List ℕ → ℕ → Option ℕ
mark_end text start = cond (has_mark text start) (Some (end_of text (mark_at text start))) None

-- what is said on success, by that
abbrev pub read_by : Algorithm → ℕ → ℕ → ℕ → Option ℕ → Result Challenge Refusal
read_by algorithm count start len end = a_challenge algorithm count start len (unwrap_or end (start + len) + 1) (is_some end)

-- what is said on success, for a seed that starts at a place
abbrev pub read_from : List ℕ → Algorithm → ℕ → ℕ → Result Challenge Refusal
read_from text algorithm count start =
    a_challenge algorithm count start (length (token_at text start)) (used_by text start) (has_mark text start)

-- steps 4 and 5, for a seed that starts at a place
unfoldable pub seed_from : List ℕ → Algorithm → ℕ → ℕ → Result Challenge Refusal
seed_from text algorithm count start =
    unless Err (seed_checked (token_at text start))
    (unless Err (must (terminated (drop (end_of text start) text)) Refusal.SeedUnended)
    (read_from text algorithm count start))
