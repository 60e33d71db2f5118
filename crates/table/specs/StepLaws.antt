-- Laws of the written steps: what a call's checks say where they found nothing wrong, and each call's two ways, a refusal or what it does.
use Rattle.std.specs.Prelude.{ℕ, ◌-◌, ◌≡◌, true, not, ◌&&◌, List, [], ◌∷◌, eqb, leb, ltb, Ok, Err}
use Rattle.refusal.specs.declared.Refusal.{Refusal}
use Rattle.refusal.specs.Laws.{must_good, each_good}
use Rattle.password.specs.Algorithm.{numbered, algorithm_checked}
use Rattle.password.specs.PhraseAndSeed.{seed_checked}
use Rattle.challenge.specs.Challenges.{challenge_written_by}
use Rattle.accounts.specs.Accounts.{new_room, count_within, seed_other}
use Rattle.table.specs.Table.{State, free_room, place_of, holds, is_there, account_of, port_of, waits, own_account, has_turn, with_room, with_account}
use Rattle.table.specs.TableChecks.{
  id_given,
  id_new,
  room_left,
  account_there,
  account_held,
  port_known,
  not_in_line,
  port_open,
  not_used_up,
  in_line,
  in_front,
}
use Rattle.table.specs.Steps as steps
use Rattle.table.specs.Steps.{enrol_checked, join_checked, leave_checked, turn_checked, renew_checked}

-- ---- Enrol

pub record EnrolPassed (id number count : ℕ) (seed : List ℕ) (s : State) : Type 0 where
  pub given : not (eqb id 0) ≡ true
  pub within : (leb 2 count && leb count 9999) ≡ true
  pub algorithm : algorithm_checked (numbered number) ≡ Ok tt
  pub good : seed_checked seed ≡ Ok tt
  pub new : not (is_there id s) ≡ true
  pub room : holds 0 s.rooms ≡ true

module _ (id number count : ℕ) (seed : List ℕ) (s : State) where
  pub enrol_passed : enrol_checked id number count seed s ≡ Ok tt → EnrolPassed id number count seed s
  unfolding enrol_checked
  enrol_passed e =
      let found = each_good (id_given id ∷ count_within count ∷ algorithm_checked (numbered number) ∷ seed_checked seed ∷ id_new id s ∷ room_left s ∷ []) e in
      record {
        given = must_good _ _ found.0;
        within = must_good _ _ found.1.0;
        algorithm = found.1.1.0;
        good = found.1.1.1.0;
        new = must_good _ _ found.1.1.1.1.0;
        room = must_good _ _ found.1.1.1.1.1.0;
      }

  pub enrol-refused : (password : List ℕ) (why : Refusal) → enrol_checked id number count seed s ≡ Err why
      → steps.enrol id number count seed password s ≡ steps.refused s why
  unfolding steps.enrol
  enrol-refused password why e = rw e

  pub enrol-done : (password : List ℕ) → enrol_checked id number count seed s ≡ Ok tt
      → steps.enrol id number count seed password s ≡ steps.done (with_account (place_of 0 s.rooms) (new_room id number count seed password) s)
  unfolding steps.enrol
  enrol-done password e = rw e

-- ---- Remove

module _ (id : ℕ) (s : State) where
  pub remove-done : is_there id s ≡ true
      → steps.remove id s ≡ steps.done (with_room (place_of id s.rooms) free_room s)
  unfolding steps.remove
  remove-done e = rw e

-- ---- Join

pub record JoinPassed (port id : ℕ) (s : State) : Type 0 where
  pub known : leb port 3 ≡ true
  pub there : is_there id s ≡ true
  pub out : not (waits port s) ≡ true
  pub unshut : eqb (port_of port s).shut 0 ≡ true
  pub unused : ltb 1 (account_of id s).count ≡ true

module _ (port id : ℕ) (s : State) where
  pub join_passed : join_checked port id s ≡ Ok tt → JoinPassed port id s
  unfolding join_checked
  join_passed e =
      let found = each_good (port_known port ∷ account_there id s ∷ not_in_line port s ∷ port_open port s ∷ not_used_up (account_of id s) ∷ []) e in
      record {
        known = must_good _ _ found.0;
        there = must_good _ _ found.1.0;
        out = must_good _ _ found.1.1.0;
        unshut = must_good _ _ found.1.1.1.0;
        unused = must_good _ _ found.1.1.1.1.0;
      }

  pub join-refused : (why : Refusal) → join_checked port id s ≡ Err why → steps.join port id s ≡ steps.refused s why
  unfolding steps.join
  join-refused why e = rw e

  pub join-done : join_checked port id s ≡ Ok tt → steps.join port id s ≡ steps.done (steps.joins port id s)
  unfolding steps.join
  join-done e = rw e

-- ---- Leave

module _ (port : ℕ) (s : State) where
  pub leave-refused : (why : Refusal) → leave_checked port s ≡ Err why → steps.leave port s ≡ steps.refused s why
  unfolding steps.leave
  leave-refused why e = rw e

  pub leave-done : leave_checked port s ≡ Ok tt → steps.leave port s ≡ steps.done (steps.leaves port s)
  unfolding steps.leave
  leave-done e = rw e

-- ---- Challenge and Offer, also of a renewal

pub record TurnPassed (port : ℕ) (s : State) : Type 0 where
  pub known : leb port 3 ≡ true
  pub inside : waits port s ≡ true
  pub front : has_turn port s ≡ true
  pub there : not (eqb (own_account port s).id 0) ≡ true
  pub unused : ltb 1 (own_account port s).count ≡ true

pub record RenewPassed (port number count : ℕ) (seed : List ℕ) (s : State) : Type 0 where
  pub turn : turn_checked port s ≡ Ok tt
  pub within : (leb 2 count && leb count 9999) ≡ true
  pub algorithm : algorithm_checked (numbered number) ≡ Ok tt
  pub good : seed_checked seed ≡ Ok tt
  pub new : seed_other seed (own_account port s) ≡ Ok tt

module _ (port : ℕ) (s : State) where
  pub turn_passed : turn_checked port s ≡ Ok tt → TurnPassed port s
  unfolding turn_checked
  turn_passed e =
      let found = each_good (port_known port ∷ in_line port s ∷ in_front port s ∷ account_held (own_account port s) ∷ not_used_up (own_account port s) ∷ [])
      e in
      record {
        known = must_good _ _ found.0;
        inside = must_good _ _ found.1.0;
        front = must_good _ _ found.1.1.0;
        there = must_good _ _ found.1.1.1.0;
        unused = must_good _ _ found.1.1.1.1.0;
      }

  pub challenge_refused : (room : ℕ) (why : Refusal) → turn_checked port s ≡ Err why → steps.challenge port room s ≡ Err why
  unfolding steps.challenge
  challenge_refused room why e = rw e

  pub challenge_done : (room : ℕ) → turn_checked port s ≡ Ok tt
      → steps.challenge port room s
      ≡ challenge_written_by true (own_account port s).algorithm (own_account port s).seed ((own_account port s).count - 1) room
  unfolding steps.challenge
  challenge_done room e = rw e

module _ (port number count : ℕ) (seed : List ℕ) (s : State) where
  pub renew_passed : renew_checked port number count seed s ≡ Ok tt → RenewPassed port number count seed s
  unfolding renew_checked
  renew_passed e =
      let found = each_good (turn_checked port s ∷ count_within count ∷ algorithm_checked (numbered number) ∷ seed_checked seed
      ∷ seed_other seed (own_account port s) ∷ []) e in
      record {
        turn = found.0;
        within = must_good _ _ found.1.0;
        algorithm = found.1.1.0;
        good = found.1.1.1.0;
        new = found.1.1.1.1.0;
      }
