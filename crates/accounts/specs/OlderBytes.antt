-- The bytes of older seeds: a place among them, and how `remember` leaves them. What they mean then is in Laws (`pushed_places`,
-- `part_elsewhere`). A room has seven places of 17 bytes, 119 in all, of which six are 102.
use Rattle.std.specs.Prelude.{ℕ, ◌+◌, ◌*◌, cond, List, ◌∷◌, ◌++◌, ltb, length, get_or, take, drop}
use Rattle.accounts.specs.declared.Account.{Account}
use Rattle.accounts.specs.Rooms.{part_of, seed_in}

-- The seed in the place that begins there.
abbrev pub place_at : ℕ → List ℕ → List ℕ
place_at at places = take (get_or places at 0) (take 16 (drop (at + 1) places))

-- As many as there are places.
abbrev pub at_most_seven : ℕ → ℕ
at_most_seven n = cond (ltb n 7) n 7

-- A room's places with an account's present seed before the others, of which the last goes.
abbrev pub pushed : Account → List ℕ → List ℕ
pushed a places = length (seed_in a) ∷ (a.seed ++ take 102 places)

-- All rooms' places with those of one room changed so.
abbrev pub remembering : ℕ → Account → List ℕ → List ℕ
remembering room a older = take (room * 119) older ++ (pushed a (part_of older room) ++ drop (room * 119 + 119) older)
