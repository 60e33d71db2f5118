-- Rooms and the accounts in them: document 01, 'Table, ports and turns'; document 02, R-5.
use Rattle.std.specs.Prelude.{ℕ, zero, suc, ◌*◌, List, [], ◌∷◌, take, drop}
use Rattle.password.specs.declared.algorithm.Algorithm.{Algorithm}
use Rattle.accounts.specs.declared.Account.{Account}

-- "An account has a seed, a stored count and a stored password"; R-1: "an account keeps its algorithm". It stands in a room. A free
-- room has the id 0, and its algorithm says nothing. `older` are the seeds that it had before the present one, newest first.
pub record Room : Type 0 where
  pub id : ℕ
  pub algorithm : Algorithm
  pub seed : List ℕ
  pub older : List (List ℕ)
  pub count : ℕ
  pub password : ℕ

-- R-5: "An account shall remember its last eight seeds, the present one included", newest first.
abbrev pub remembered : Room → List (List ℕ)
remembered room = room.seed ∷ room.older

-- The seeds in places of 17 bytes, one for the length and 16 for the seed.
unfoldable pub in_places : ℕ → List ℕ → List (List ℕ)
in_places zero bytes = []
in_places (suc n) [] = []
in_places (suc n) (len ∷ bytes) = take len (take 16 bytes) ∷ in_places n (drop 16 bytes)

-- Of the bytes for older seeds those of one room: seven places.
abbrev pub part_of : List ℕ → ℕ → List ℕ
part_of older room = take 119 (drop (room * 119) older)

-- An account's present seed.
abbrev pub seed_in : Account → List ℕ
seed_in a = take a.len a.seed

-- What an account's bytes mean, with those of its room's older seeds.
abbrev pub room_of : Account → List ℕ → Room
room_of a part = record {
  id = a.id;
  algorithm = a.algorithm;
  seed = seed_in a;
  older = take a.older_count (in_places 7 part);
  count = a.count;
  password = a.password;
}

abbrev pub free : Room
free = record { id = 0; algorithm = Algorithm.Md5; seed = []; older = []; count = 0; password = 0 }
