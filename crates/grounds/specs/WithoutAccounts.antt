-- What each call answers in a table with no account, and what it leaves.
use Rattle.std.specs.Prelude.{ℕ, suc, ◌≡◌, Bool, true, false, cond, not, eqb, length, Ok, Err}
use Rattle.std.proofs.Common.{arith, le_refl, sym, ◌∙◌, eqb-true, eq-eqb, ne_eqb, le-ltb, lt-ltb}
use Rattle.std.proofs.Math.Decide.{ℕ_discrete}
use Rattle.std.proofs.Math.Path.{refl, ap, ap₂}
use mathlib.Core.List.{List, [], ◌∷◌, ◌++◌, map}
use Rattle.refusal.specs.declared.Refusal.{Refusal}
use Rattle.refusal.specs.Answers.{Checked, Written}
use Rattle.refusal.specs.Checks.{must, unless, in_order}
use Rattle.refusal.specs.Each.{Each, each_get}
use Rattle.password.specs.Algorithm.{numbered, algorithm_checked}
use Rattle.password.specs.PhraseAndSeed.{seed_checked}
use Rattle.line.specs.Line.{Waiting, empty, some, stands_in, ticked}
use Rattle.port.specs.Port.{cooled}
use Rattle.accounts.specs.Accounts.{count_within, new_room}
use Rattle.table.specs.Answers.{Replied}
use Rattle.table.specs.Table.{State, Held, free_room, place_of, holds, is_there, account_of, line_of, stands_at, waits, own_account, lined, with_account}
use Rattle.table.specs.TableChecks.{id_given, account_there, port_known, not_in_line, port_open, not_used_up, in_line, in_front}
use Rattle.table.specs.Steps as Steps
use Rattle.table.specs.Steps.{After, refused, reply_refused, done, enrol_checked, join_checked, leave_checked, turn_checked}
use Rattle.reached.specs.Calls.{Call, checked_answer, replied_answer, written_answer, answer, after}
use Rattle.reached.specs.Offered.{Offered, Offers, new_values_checked, offer_checked, offers}
use Rattle.reached.specs.OfferedLaws.{call_offers}
use Rattle.reached.specs.Equal.{accounts_in}
use Rattle.reached.specs.Made.{Idle, Made}
use Rattle.grounds.specs.Full.{settled_answer}

-- ---- no id is there, and the first room is free

Free : Held → Type 0
Free held = held.account.id ≡ 0

all_free : (rooms : List Held) → accounts_in rooms ≡ 0 → Each Free rooms
unfolding accounts_in Free
all_free [] e = tt
all_free (room ∷ rooms) e = go (eqb room.account.id 0) refl e (all_free rooms)
  where
    go : (t : Bool) → eqb room.account.id 0 ≡ t → cond t (accounts_in rooms) (suc (accounts_in rooms)) ≡ 0 → (accounts_in rooms ≡ 0 → Each Free rooms)
        → Each Free (room ∷ rooms)
    go true f e ih = (eqb-true room.account.id 0 f, ih e)
    go false f e ih = absurd (omega arith)

nowhere : (id : ℕ) → (id ≡ 0 → ⊥) → (rooms : List Held) → Each Free rooms → place_of id rooms ≡ length rooms
unfolding place_of Free
nowhere id n [] h = refl
nowhere id n (room ∷ rooms) h = rw (ne_eqb room.account.id id (λ e. n (sym e ∙ h.0))) (ap suc (nowhere id n rooms h.1))

first_free : (rooms : List Held) → length rooms ≡ 32 → Each Free rooms → (place_of 0 rooms ≡ 0) × (holds 0 rooms ≡ true)
unfolding place_of Free
first_free [] e h = absurd (omega arith)
first_free (room ∷ rooms) e h = rw (eq-eqb room.account.id 0 h.0) (refl, lt-ltb 0 (suc (length rooms)) (omega arith))

-- ---- behind checks that refuse

-- The call answers as the checks do, and the table is as it was.
abbrev pub OnlyAnswers : Call → State → Checked → Type 0
OnlyAnswers c s check = (answer c s ≡ checked_answer check) × (after c s ≡ s)

settled_refused : (s s' : State) (check found : Checked) → check ≡ found → (found ≡ Ok tt → ⊥)
    → (checked_answer (unless (refused s) check (done s')).answer ≡ checked_answer found) × ((unless (refused s) check (done s')).state ≡ s)
settled_refused s s' (Ok _) found e n = absurd (n (sym e))
settled_refused s s' (Err why) found e n = (ap checked_answer e, refl)

replied_refused : (s : State) (next : After Replied) (check found : Checked) → check ≡ found → (found ≡ Ok tt → ⊥)
    → (replied_answer (unless (reply_refused s) check next).answer ≡ checked_answer found) × ((unless (reply_refused s) check next).state ≡ s)
replied_refused s next (Ok _) found e n = absurd (n (sym e))
replied_refused s next (Err why) found e n = (ap checked_answer e, refl)

written_refused : (next : Written) (check found : Checked) → check ≡ found → (found ≡ Ok tt → ⊥)
    → written_answer (unless Err check next) ≡ checked_answer found
written_refused next (Ok _) found e n = absurd (n (sym e))
written_refused next (Err why) found e n = ap checked_answer e

not_good : {why : Refusal} → ◌≡◌ {A = Checked} (Err why) (Ok tt) → ⊥
not_good e = let z : ◌≡◌ {A = ℕ} 0 1 = cc in omega arith

-- Checks with such a one at their end refuse.
ends_refused : (checks : List Checked) (why : Refusal) → in_order (checks ++ Err why ∷ []) ≡ Ok tt → ⊥
ends_refused [] why e = not_good e
ends_refused (Ok _ ∷ checks) why e = ends_refused checks why e
ends_refused (Err w ∷ checks) why e = not_good e

-- ---- the calls, on any such table

-- 54, and 59: what is found where there is no account, and nobody in line.
abbrev pub missing : Checked
missing = Err Refusal.AccountMissing

abbrev pub outside : Checked
outside = Err Refusal.PortNotInLine

-- Enrol's own checks: 50, 51, 23, 24.
abbrev pub own_checks : ℕ → ℕ → ℕ → List ℕ → Checked
own_checks id number count seed = in_order (id_given id ∷ count_within count ∷ algorithm_checked (numbered number) ∷ seed_checked seed ∷ [])

-- A turn's, where the account that the port waits for isn't there: 55, 59, 60, 54.
abbrev pub in_turn : ℕ → State → Checked
in_turn port s = in_order (port_known port ∷ in_line port s ∷ in_front port s ∷ missing ∷ [])

module _ (s : State) (none : accounts_in s.rooms ≡ 0) where
  not_there : (id : ℕ) → is_there id s ≡ false
  not_there id = go (ℕ_discrete id 0)
    where
      go : Dec (id ≡ 0) → is_there id s ≡ false
      go (yes e) = rw (eq-eqb id 0 e)
      go (no n) = rw (ne_eqb id 0 n, nowhere id n s.rooms (all_free s.rooms none)) (le-ltb (length s.rooms) (length s.rooms) (le_refl _))

  -- No id is taken, and the first room is free.
  pub enrol_first : length s.rooms ≡ 32 → (id number count : ℕ) (seed password : List ℕ)
      → (answer (Call.Enrol id number count seed password) s ≡ checked_answer (own_checks id number count seed))
      × (after (Call.Enrol id number count seed password) s
      ≡ unless (λ why. s) (own_checks id number count seed) (with_account 0 (new_room id number count seed password) s))
  unfolding Steps.enrol enrol_checked
  enrol_first rooms id number count seed password =
      let vacant = first_free s.rooms rooms (all_free s.rooms none) in
      let checked : enrol_checked id number count seed s ≡ own_checks id number count seed =
      ap₂ (λ (taken room : Bool).
      in_order (id_given id ∷ count_within count ∷ algorithm_checked (numbered number) ∷ seed_checked seed
      ∷ must (not taken) Refusal.IdTaken ∷ must room Refusal.TableFull ∷ []))
      (not_there id) vacant.1 in
      let did = go (enrol_checked id number count seed s) (place_of 0 s.rooms) in (
        did.0 ∙ ap checked_answer checked,
        did.1 ∙ ap₂ (λ (k : Checked) (place : ℕ). unless (λ why. s) k (with_account place (new_room id number count seed password) s)) checked vacant.0,
      )
    where
      go : (k : Checked) (place : ℕ)
          → (checked_answer (unless (refused s) k (done (with_account place (new_room id number count seed password) s))).answer ≡ checked_answer k)
          × ((unless (refused s) k (done (with_account place (new_room id number count seed password) s))).state
          ≡ unless (λ why. s) k (with_account place (new_room id number count seed password) s))
      go (Ok _) place = (refl, refl)
      go (Err why) place = (refl, refl)

  pub remove_nobody : (id : ℕ) → OnlyAnswers (Call.Remove id) s missing
  unfolding Steps.remove
  remove_nobody id =
      settled_refused s _ (account_there id s) missing (ap (λ (there : Bool). must there Refusal.AccountMissing) (not_there id)) not_good

  pub join_nobody : (port id : ℕ) → OnlyAnswers (Call.Join port id) s (in_order (port_known port ∷ missing ∷ []))
  unfolding Steps.join join_checked
  join_nobody port id =
      settled_refused s _ (join_checked port id s) (in_order (port_known port ∷ missing ∷ []))
      (ap (λ (there : Bool). in_order (port_known port ∷ must there Refusal.AccountMissing ∷ not_in_line port s ∷ port_open port s
      ∷ not_used_up (account_of id s) ∷ []))
      (not_there id))
      (ends_refused (port_known port ∷ []) Refusal.AccountMissing)

  turn_checks : (port : ℕ) → turn_checked port s ≡ in_turn port s
  unfolding turn_checked Free
  turn_checks port =
      ap (λ (id : ℕ). in_order (port_known port ∷ in_line port s ∷ in_front port s ∷ must (not (eqb id 0)) Refusal.AccountMissing
      ∷ not_used_up (own_account port s) ∷ []))
      (each_get Free s.rooms (stands_at port s.rooms) free_room (all_free s.rooms none) refl)

  turn_refuses : (port : ℕ) → in_turn port s ≡ Ok tt → ⊥
  turn_refuses port = ends_refused (port_known port ∷ in_line port s ∷ in_front port s ∷ []) Refusal.AccountMissing

  pub challenge_nobody : (port room : ℕ) → OnlyAnswers (Call.Challenge port room) s (in_turn port s)
  unfolding Steps.challenge
  challenge_nobody port room = (written_refused _ (turn_checked port s) (in_turn port s) (turn_checks port) (turn_refuses port), refl)

  -- Offer, whatever is offered.
  offer_checks : (port : ℕ) (what : Offered) → offer_checked port what s ≡ in_turn port s
  offer_checks port what = go (turn_checked port s) (turn_checks port)
    where
      go : (turn : Checked) → turn ≡ in_turn port s → unless Err turn (new_values_checked what (own_account port s)) ≡ in_turn port s
      go (Ok _) e = absurd (turn_refuses port (sym e))
      go (Err why) e = e

  pub offers_nobody : (port : ℕ) (what : Offered) (c : Call) → Offers port what c → OnlyAnswers c s (in_turn port s)
  unfolding offers
  offers_nobody port what c p =
      let did = call_offers port what c s p in
      let found = replied_refused s _ (offer_checked port what s) (in_turn port s) (offer_checks port what) (turn_refuses port) in
      (did.0 ∙ found.0, did.1 ∙ found.1)

-- Leave, where a port may be in line.
pub leave_answer : (port : ℕ) (s : State) → answer (Call.Leave port) s ≡ checked_answer (in_order (port_known port ∷ in_line port s ∷ []))
unfolding Steps.leave leave_checked
leave_answer port s = ap checked_answer (settled_answer s _ (leave_checked port s))

-- ---- in tables that calls make nobody is in line then

-- Nobody is in the room's line.
Empty : Held → Type 0
Empty held = held.line ≡ empty

nowhere_in_line : (port : ℕ) (rooms : List Held) → Each Empty rooms → stands_at port rooms ≡ length rooms
unfolding stands_at Empty some
nowhere_in_line port [] h = refl
nowhere_in_line port (held ∷ rooms) h =
    ap₂ (λ (in-line : Bool) (n : ℕ). cond in-line 0 (suc n)) (ap (stands_in port) h.0) (nowhere_in_line port rooms h.1)

lines_stand : (rooms : List Held) → Each Empty rooms → map (lined ticked) rooms ≡ rooms
unfolding Empty ticked
lines_stand [] h = refl
lines_stand (held ∷ rooms) h =
    ap₂ (λ (w : Waiting) (l : List Held). record { account = held.account; line = w } ∷ l) (ap ticked h.0 ∙ sym h.0) (lines_stand rooms h.1)

module _ (s : State) (m : Made s) (none : accounts_in s.rooms ≡ 0) where
  all_empty : Each Empty s.rooms
  unfolding Empty Free
  all_empty = go s.rooms (all_free s.rooms none) m.idle
    where
      go : (l : List Held) → Each Free l → Each Idle l → Each Empty l
      go [] f h = tt
      go (held ∷ l) f h = (h.0 f.0, go l f.1 h.1)

  pub lines_empty : (id : ℕ) → line_of id s ≡ empty
  unfolding Empty
  lines_empty id = each_get Empty s.rooms (place_of id s.rooms) free_room all_empty refl

  pub nobody_waits : (port : ℕ) → waits port s ≡ false
  nobody_waits port = rw (nowhere_in_line port s.rooms all_empty) (le-ltb (length s.rooms) (length s.rooms) (le_refl _))

  out_of_line : (port : ℕ) → in_line port s ≡ outside
  out_of_line port = ap (λ (b : Bool). must b Refusal.PortNotInLine) (nobody_waits port)

  pub turn_outside : (port : ℕ) → in_turn port s ≡ in_order (port_known port ∷ outside ∷ [])
  turn_outside port = ap (λ (k : Checked). in_order (port_known port ∷ k ∷ in_front port s ∷ missing ∷ [])) (out_of_line port)

  pub leave_outside : (port : ℕ) → OnlyAnswers (Call.Leave port) s (in_order (port_known port ∷ outside ∷ []))
  unfolding Steps.leave leave_checked
  leave_outside port =
      settled_refused s _ (leave_checked port s) (in_order (port_known port ∷ outside ∷ []))
      (ap (λ (k : Checked). in_order (port_known port ∷ k ∷ [])) (out_of_line port)) (ends_refused (port_known port ∷ []) Refusal.PortNotInLine)

  pub tick_cools : Steps.tick s ≡ record { rooms = s.rooms; ports = map cooled s.ports }
  unfolding Steps.tick
  tick_cools = ap (λ (rooms : List Held). record { rooms = rooms; ports = map cooled s.ports }) (lines_stand s.rooms all_empty)
