-- Checks that never refuse with certain numbers.
use Rattle.std.specs.Prelude.{ℕ, ◌≡◌, Bool, true, false, cond, not, ◌&&◌, List, [], ◌∷◌, map, eqb, leb, ltb, length, Option, Some, None, Ok, Err}
use Rattle.std.proofs.Common.{arith, sym, ap, ◌∙◌, true≢false}
use Rattle.std.proofs.lemmas.Bool.{not-true}
use Rattle.refusal.specs.declared.Refusal.{Refusal}
use Rattle.refusal.specs.Answers.{Checked}
use Rattle.refusal.specs.Numbers.{listing_of}
use Rattle.refusal.specs.Checks.{must, unless, in_order}
use Rattle.text.specs.Kinds.{lower_of}
use Rattle.text.specs.Tests.{both}
use Rattle.password.specs.Algorithm.{numbered, algorithm_checked}
use Rattle.password.specs.PhraseAndSeed.{plain, seed_checked}
use Rattle.accounts.specs.Rooms.{Room, remembered}
use Rattle.accounts.specs.Accounts.{is_one_of, values_checked}
use Rattle.table.specs.Table.{State, waits, own_account, has_turn}
use Rattle.table.specs.Steps.{turn_checked}
use Rattle.reached.specs.Offered.{Offered, new_values_checked, offer_checked}
use Rattle.grounds.specs.Listed.{is_in}
use Rattle.password.specs.declared.algorithm.Algorithm.{Algorithm}

-- A check: a test with its refusal, or that of an algorithm or of a seed.
pub data Test : Type 0 where
  test : Bool → Refusal → Test
  of_algorithm : Option Algorithm → Test
  of_seed : List ℕ → Test

abbrev pub check_of : Test → Checked
check_of (Test.test t w) = must t w
check_of (Test.of_algorithm found) = algorithm_checked found
check_of (Test.of_seed text) = seed_checked text

-- They refuse with none of the numbers.
abbrev pub other : List ℕ → Refusal → Bool
other numbers w = not (is_in (listing_of w).0 numbers)

abbrev pub others : List ℕ → List Test → Bool
others numbers [] = true
others numbers (Test.test t w ∷ rows) = other numbers w && others numbers rows
others numbers (Test.of_algorithm found ∷ rows) = other numbers Refusal.AlgorithmUnknown && others numbers rows
others numbers (Test.of_seed text ∷ rows) = other numbers Refusal.SeedLength && (other numbers Refusal.SeedCharacter && others numbers rows)

-- The checks of the port that has the turn, and those of a renewal's new values.
abbrev pub turn_tests : ℕ → State → List Test
turn_tests port s =
    test (leb port 3) Refusal.PortUnknown ∷ test (waits port s) Refusal.PortNotInLine ∷ test (has_turn port s) Refusal.PortNotInFront
    ∷ test (not (eqb (own_account port s).id 0)) Refusal.AccountMissing ∷ test (ltb 1 (own_account port s).count) Refusal.AccountUsedUp ∷ []

abbrev pub values_tests : ℕ → ℕ → List ℕ → Room → List Test
values_tests number count seed old =
    test (leb 2 count && leb count 9999) Refusal.CountOutside ∷ of_algorithm (numbered number) ∷ of_seed seed
    ∷ test (not (is_one_of (map lower_of seed) (remembered old))) Refusal.SeedSame ∷ []

module _ (numbers : List ℕ) (why : Refusal) (own : is_in (listing_of why).0 numbers ≡ true) where
  abbrev pub Never : Checked → Type 0
  Never check = check ≡ Err why → ⊥

  good_never : Never (Ok tt)
  good_never e = let z : ◌≡◌ {A = ℕ} 0 1 = cc in omega arith

  pub other_never : (w : Refusal) → other numbers w ≡ true → Never (Err w)
  other_never w h e =
      let same : w ≡ why = cc in
      true≢false (sym own ∙ ap (λ (x : Refusal). is_in (listing_of x).0 numbers) (sym same) ∙ not-true (is_in (listing_of w).0 numbers) h)

  pub then_never : (check next : Checked) → Never check → Never next → Never (unless Err check next)
  then_never (Ok _) next h k = k
  then_never (Err w) next h k = h

  pub test_never : (t : Bool) (w : Refusal) → other numbers w ≡ true → Never (must t w)
  test_never true w h = good_never
  test_never false w h = other_never w h

  algorithm_never : (found : Option Algorithm) → other numbers Refusal.AlgorithmUnknown ≡ true → Never (algorithm_checked found)
  algorithm_never (Some algorithm) h = good_never
  algorithm_never None h = other_never Refusal.AlgorithmUnknown h

  pub seed_never : (text : List ℕ) → other numbers Refusal.SeedLength ≡ true → other numbers Refusal.SeedCharacter ≡ true → Never (seed_checked text)
  seed_never text a b = go (leb 1 (length text) && leb (length text) 16) (plain text)
    where
      go : (t u : Bool) → Never (cond t (cond u (Ok tt) (Err Refusal.SeedCharacter)) (Err Refusal.SeedLength))
      go true true = good_never
      go true false = other_never Refusal.SeedCharacter b
      go false u = other_never Refusal.SeedLength a

  pub rows_never : (rows : List Test) → others numbers rows ≡ true → Never (in_order (map check_of rows))
  rows_never [] h = good_never
  rows_never (Test.test t w ∷ rows) h =
      let halves = both (other numbers w) (others numbers rows) h in
      then_never (must t w) (in_order (map check_of rows)) (test_never t w halves.0) (rows_never rows halves.1)
  rows_never (Test.of_algorithm found ∷ rows) h =
      let halves = both (other numbers Refusal.AlgorithmUnknown) (others numbers rows) h in
      then_never (algorithm_checked found) (in_order (map check_of rows)) (algorithm_never found halves.0) (rows_never rows halves.1)
  rows_never (Test.of_seed text ∷ rows) h =
      let first = both (other numbers Refusal.SeedLength) (other numbers Refusal.SeedCharacter && others numbers rows) h in
      let second = both (other numbers Refusal.SeedCharacter) (others numbers rows) first.1 in
      then_never (seed_checked text) (in_order (map check_of rows)) (seed_never text first.0 second.0) (rows_never rows second.1)

  -- ---- the checks of a turn and of a renewal

  pub turn_never : (port : ℕ) (s : State) → others numbers (turn_tests port s) ≡ true → Never (turn_checked port s)
  unfolding turn_checked
  turn_never port s h = rows_never (turn_tests port s) h

  values_never : (what : Offered) (old : Room) → ((number count : ℕ) (seed : List ℕ) → others numbers (values_tests number count seed old) ≡ true)
      → Never (new_values_checked what old)
  unfolding values_checked
  values_never (Offered.Login present) old k = good_never
  values_never (Offered.Renewal number count seed new present) old k = rows_never (values_tests number count seed old) (k number count seed)

  pub table_never : (port : ℕ) (what : Offered) (s : State) → others numbers (turn_tests port s) ≡ true
      → ((number count : ℕ) (seed : List ℕ) → others numbers (values_tests number count seed (own_account port s)) ≡ true)
      → Never (offer_checked port what s)
  table_never port what s h k =
      then_never (turn_checked port s) (new_values_checked what (own_account port s)) (turn_never port s h) (values_never what (own_account port s) k)
