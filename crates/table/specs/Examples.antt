-- Which room is the first with an id.
use Rattle.std.specs.Prelude.{ℕ, ◌≡◌, refl, [], ◌∷◌, map}
use Rattle.password.specs.declared.algorithm.Algorithm.{Algorithm}
use Rattle.line.specs.Line.{empty}
use Rattle.table.specs.Table.{Held, free_room, place_of}

-- Five rooms, two of them free and two with one id: the first with 7, the first free one, the first with 9, none with 8.
abbrev with_id : ℕ → Held
with_id id = record { account = record { id = id; algorithm = Algorithm.Md5; seed = []; older = []; count = 0; password = 0 }; line = empty }

pub first_places : map (λ (id : ℕ). place_of id (with_id 7 ∷ free_room ∷ with_id 9 ∷ free_room ∷ with_id 9 ∷ [])) (7 ∷ 0 ∷ 9 ∷ 8 ∷ []) ≡ 0 ∷ 1 ∷ 2 ∷ 5 ∷ []
unfolding place_of
first_places = refl
