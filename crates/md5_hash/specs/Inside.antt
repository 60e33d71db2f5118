-- Helper definitions of the rounds: nothing outside this crate rests on them.
use Rattle.std.specs.Prelude.{ℕ, ◌+◌, cond, List, eqb, get_or}
use Rattle.digests.specs.declared.State.{State}
use Rattle.digests.specs.Words32.{add, rotated}
use Rattle.digests.specs.Rounds as rfc
use Rattle.digests.specs.Rounds.{round1, round2, round3, round4, operation}
use Rattle.md5_hash.specs.declared.round.Round.{Round}

-- The rounds by their numbers, 1 to 4.
unfoldable pub round_of : ℕ → rfc.Round
round_of n = cond (eqb n 1) round1 (cond (eqb n 2) round2 (cond (eqb n 3) round3 round4))

-- A round of the code by its number, and as the RFC prints it.
abbrev pub number : Round → ℕ
number Round.First = 1
number Round.Second = 2
number Round.Third = 3
number Round.Fourth = 4

abbrev pub as_printed : Round → rfc.Round
as_printed round = round_of (number round)

-- The operation of the round r at step i, 0 to 15, on the block X.
unfoldable pub operation_of : rfc.Round → List ℕ → ℕ → State → State
operation_of r X i q =
    operation r.function (get_or X (get_or r.order i 0) 0) (get_or r.shifts i 0) (get_or r.constants i 0) q

-- The four operations of the round r from step i on.
unfoldable pub four_of : rfc.Round → List ℕ → ℕ → State → State
four_of r X i q =
    operation_of r X (i + 3) (operation_of r X (i + 2) (operation_of r X (i + 1) (operation_of r X i q)))

-- An operation in the code's order: y is summed before v is known, so that v is waited for by one addition only.
unfoldable pub operation_summed : ℕ → ℕ → ℕ → State → State
operation_summed v y s q =
    record { a = q.d; b = add q.b (rotated (add (add q.a y) v) s); c = q.b; d = q.c }
