-- What becomes of an account: document 01, 'Table, ports and turns' and 'Refusal numbers'; document 02, R-1 and R-5.
use Rattle.std.specs.Prelude.{ℕ, ◌-◌, Bool, false, not, ◌&&◌, ◌||◌, List, [], ◌∷◌, map, leb, take, Result, Ok, Err}
use Rattle.text.specs.Tests.{same}
use Rattle.text.specs.Kinds.{lower_of}
use Rattle.refusal.specs.declared.Refusal.{Refusal}
use Rattle.refusal.specs.Answers.{Checked}
use Rattle.refusal.specs.Checks.{must, unless, in_order}
use Rattle.password.specs.Algorithm.{numbered, algorithm_checked, algorithm_in}
use Rattle.password.specs.PhraseAndSeed.{seed_checked}
use Rattle.password.specs.Password.{number_of}
use Rattle.accounts.specs.Rooms.{Room, remembered, room_of}
use Rattle.accounts.specs.declared.Account.{Account}

-- Enrol and a renewal: "Seeds are kept in lower case"; R-1's algorithm is given by its number.
abbrev pub with_values : ℕ → List (List ℕ) → ℕ → ℕ → List ℕ → ℕ → Room
with_values id older number count seed password = record {
  id = id;
  algorithm = algorithm_in (numbered number);
  seed = map lower_of seed;
  older = older;
  count = count;
  password = password;
}

-- Enrol: the password is "eight bytes"; the account remembers one seed.
abbrev pub new_room : ℕ → ℕ → ℕ → List ℕ → List ℕ → Room
new_room id number count seed password = with_values id [] number count seed (number_of password)

-- A renewal: it remembers the new seed and the first seven of those that it remembered.
abbrev pub renewed_room : Room → ℕ → ℕ → List ℕ → ℕ → Room
renewed_room room number count seed password = with_values room.id (take 7 (remembered room)) number count seed password

-- A login, on a match: "store the reply, lower the count by 1". The rest stays, R-1's algorithm too.
abbrev pub lowered : Room → ℕ → Room
lowered room password = record {
  id = room.id;
  algorithm = room.algorithm;
  seed = room.seed;
  older = room.older;
  count = room.count - 1;
  password = password;
}

-- 51: "count not 2 to 9,999"
abbrev pub count_within : ℕ → Checked
count_within count = must (leb 2 count && leb count 9999) Refusal.CountOutside

-- A seed is one of those.
unfoldable pub is_one_of : List ℕ → List (List ℕ) → Bool
is_one_of seed [] = false
is_one_of seed (other ∷ seeds) = same seed other || is_one_of seed seeds

-- 63: "new seed equals the present one, case folded"; R-5: "63 now means equal to a remembered seed"
abbrev pub seed_other : List ℕ → Room → Checked
seed_other seed present = must (not (is_one_of (map lower_of seed) (remembered present))) Refusal.SeedSame

-- Enrol, and the writer of extended replies: 51, 21, 23, 24; R-1: "at enrolment and renewal an unknown algorithm gives 21 after 51".
unfoldable pub new_checked : ℕ → ℕ → List ℕ → Checked
new_checked number count seed = in_order (count_within count ∷ algorithm_checked (numbered number) ∷ seed_checked seed ∷ [])

-- A renewal: 51, 21, 23, 24, 63.
unfoldable pub values_checked : ℕ → ℕ → List ℕ → Room → Checked
values_checked number count seed present =
    in_order (count_within count ∷ algorithm_checked (numbered number) ∷ seed_checked seed ∷ seed_other seed present ∷ [])

-- The account where nothing is wrong, or what is.
abbrev pub Proposal : Type 0
Proposal = Result Room Refusal

abbrev pub proposal : Result Account Refusal → List ℕ → Proposal
proposal (Ok account) part = Ok (room_of account part)
proposal (Err why) part = Err why

abbrev pub proposed : Checked → Room → Proposal
proposed check room = unless Err check (Ok room)
