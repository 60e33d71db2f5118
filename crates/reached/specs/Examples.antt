-- Document 01's examples of the table, computed from the written steps.
use Rattle.std.specs.Prelude.{ℕ, ◌≡◌, refl, List, [], ◌∷◌, map, replicate}
use Rattle.text.specs.Tests.{every}
use Rattle.text.specs.Quoted.{codes}
use Rattle.password.specs.PhraseAndSeed.{plain}
use Rattle.password.specs.Password.{number_after}
use Rattle.line.specs.Line.{some, ticked}
use Rattle.table.specs.Table.{fresh, place_of, line_of, in_lines, stands_at}
use Rattle.table.specs.Steps.{enrol_checked, enrol, join_checked, joins, join, tick}
use Rattle.reached.specs.Calls.{Call, run, answers, numbers}

-- A password of eight bytes.
abbrev eight : List ℕ
eight = 0 ∷ 0 ∷ 0 ∷ 0 ∷ 0 ∷ 0 ∷ 0 ∷ 7 ∷ []

-- Account 1, by MD5, with the count 99; port 0 joins for it.
abbrev enrolled : Call
enrolled = Call.Enrol 1 1 99 (codes "AValidSeed") eight

abbrev ticks : ℕ → List Call
ticks n = replicate n Call.Tick

-- "empty table: 60 ticks change nothing"
pub empty_ticks : run (ticks 60) fresh ≡ fresh
unfolding run tick ticked
empty_ticks = refl

-- "the first enrol, then join, has the turn at once": port 0 is in front, with 60 ticks.
pub first_join : line_of 1 (run (enrolled ∷ Call.Join 0 1 ∷ []) fresh) ≡ record { ports = 0 ∷ []; turn = 60 }
unfolding run enrol_checked enrol join_checked joins join place_of stands_at in_lines some plain every number_after codes
first_join = refl

-- "and loses it on tick 60", not before: one tick left after 59.
pub first_turn : map (λ n. line_of 1 (run (enrolled ∷ Call.Join 0 1 ∷ ticks n) fresh)) (59 ∷ 60 ∷ [])
    ≡ record { ports = 0 ∷ []; turn = 1 } ∷ record { ports = []; turn = 0 } ∷ []
unfolding run enrol_checked enrol join_checked joins join place_of stands_at in_lines some plain every number_after codes tick ticked
first_turn = refl

-- "Enrolling `A Seed`: 24."
pub spaced_seed : map numbers (answers (Call.Enrol 1 1 99 (codes "A Seed") eight ∷ []) fresh) ≡ (record { 0 = 24; 1 = 0 }, 0) ∷ []
unfolding answers enrol_checked enrol plain every codes place_of
spaced_seed = refl
