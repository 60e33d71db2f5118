-- The schedule by sixteen words and the steps by quarters, as the code has them: nothing outside this crate rests on
-- them.
use Rattle.std.specs.Prelude.{ℕ, ◌+◌, ◌/◌, cond, List, eqb}
use Rattle.digests.specs.declared.FiveWords.{FiveWords}
use Rattle.digests.specs.Lists.{up_to}
use Rattle.digests.specs.Sha1.{Ch, Parity, Maj, K, word_at, schedule, step_with}
use Rattle.block.specs.declared.by_four.Four.{Four}
use Rattle.block.specs.ByFour.{four_at}
use Rattle.sha1_hash.specs.declared.eighty_steps.Quarter.{Quarter}

-- Word t of the schedule that begins with the sixteen words M, and the sixteen words after those.
unfoldable pub scheduled : List ℕ → ℕ → ℕ
scheduled M t = word_at M t (schedule M t)

unfoldable pub following : List ℕ → List ℕ
following M = up_to 16 (λ j. scheduled M (16 + j))

-- The number of a quarter of the steps, and its function and constant.
abbrev pub number : Quarter → ℕ
number Quarter.First = 0
number Quarter.Second = 1
number Quarter.Third = 2
number Quarter.Fourth = 3

abbrev pub function_of : ℕ → ℕ → ℕ → ℕ → ℕ
function_of quarter = cond (eqb quarter 0) Ch (cond (eqb quarter 1) Parity (cond (eqb quarter 2) Maj Parity))

abbrev pub constant_of : ℕ → ℕ
constant_of quarter = cond (eqb quarter 0) (K 0) (cond (eqb quarter 1) (K 20) (cond (eqb quarter 2) (K 40) (K 60)))

-- One step of a quarter, four of them, and sixteen steps from step t on.
unfoldable pub step_of : ℕ → ℕ → FiveWords → FiveWords
step_of quarter w v = step_with (function_of quarter v.b v.c v.d) (constant_of quarter) w v

unfoldable pub four_of : ℕ → Four → FiveWords → FiveWords
four_of quarter w v = step_of quarter w.3 (step_of quarter w.2 (step_of quarter w.1 (step_of quarter w.0 v)))

unfoldable pub sixteen_of : ℕ → List ℕ → FiveWords → FiveWords
sixteen_of t w v =
    four_of ((t + 12) / 20) (four_at w 12)
    (four_of ((t + 8) / 20) (four_at w 8) (four_of ((t + 4) / 20) (four_at w 4) (four_of (t / 20) (four_at w 0) v)))
