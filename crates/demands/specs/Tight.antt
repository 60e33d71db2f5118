-- 'By the 180th tick' is tight: a port that joins fourth, with no tick before, waits for just so many. `three_wait` is an account, of either
-- algorithm, and three ports in line for it; `has_turn_after` says that the fourth has the turn so many ticks after it has joined.
use Rattle.std.specs.Prelude.{◌≡◌, true, not, replicate, Ok}
use Rattle.text.specs.Tests.{every}
use Rattle.digests.specs.Lists.{up_to}
use Rattle.password.specs.declared.algorithm.Algorithm.{Algorithm}
use Rattle.table.specs.Table.{fresh}
use Rattle.table.specs.Steps.{join}
use Rattle.reached.specs.Calls.{Call, run}
use Rattle.reached.specs.InTurn.{TurnBegins}
use Rattle.grounds.specs.LongestWait as LongestWait
use Rattle.grounds.specs.LongestWait.{three_wait, has_turn_after}

pub fourth_joins : (algorithm : Algorithm) → (join 3 1 (run (three_wait algorithm) fresh)).answer ≡ Ok tt
fourth_joins algorithm = LongestWait.fourth_joins algorithm

-- Not after 0 to 179 ticks, and then after 180.
pub waits_180_ticks : (algorithm : Algorithm)
    → (every (λ n. not (has_turn_after algorithm n)) (up_to 180 (λ n. n)) ≡ true) × (has_turn_after algorithm 180 ≡ true)
waits_180_ticks algorithm = LongestWait.waits_180_ticks algorithm

-- With 179 ticks the demand's first sentence would not hold.
pub not_sooner : (algorithm : Algorithm) → TurnBegins 3 1 179 (replicate 180 Call.Tick) (join 3 1 (run (three_wait algorithm) fresh)).state → ⊥
not_sooner algorithm = LongestWait.not_sooner algorithm
