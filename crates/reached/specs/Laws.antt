-- Laws of tables: calls keep the accounts and their lines apart, treat equal tables alike, and give 53 exactly when 32 accounts are there.
use Rattle.std.specs.Prelude.{ℕ, ◌+◌, ◌≤◌, ◌<◌, ◌≡◌, refl, ◌↔◌, Bool, true, false, cond, not, ◌&&◌, List, map, ltb, length, get_or, set, Ok, Err}
use Rattle.std.proofs.Common.{sym, ap, ◌∙◌, subst, arith, eq-eqb, ne_eqb, le-ltb, lt-ltb, ltb-true, ltb-false, length-set}
use Rattle.std.proofs.Math.Decide.{ℕ_discrete}
use Rattle.std.proofs.lemmas.List.{length-map}
use Rattle.refusal.specs.declared.Refusal.{Refusal}
use Rattle.refusal.specs.Checks.{must}
use Rattle.refusal.specs.Each.{Each, each_set, each_map, each_replicate}
use Rattle.line.specs.Line as Line
use Rattle.line.specs.Line.{Waiting, empty, of_port, some, left, ticked}
use Rattle.port.specs.declared.Port.{Port}
use Rattle.table.specs.Table.{State, Held, fresh, free_room, place_of, holds, is_there, room_at, in_lines, stands_at, with_line, line_of, lined}
use Rattle.table.specs.TableChecks.{room_left}
use Rattle.table.specs.Steps as steps
use Rattle.reached.specs.Calls.{Call, after, answer, checked_answer, replied_answer, written_answer}
use Rattle.table.specs.StepLaws.{remove-done}
use Rattle.reached.specs.Made.{Idle, Once}
use Rattle.reached.specs.Equal.{Equal, times, accounts_in, Housed}
use Rattle.reached.specs.RoomsFound.{is, holds-times, placed_id, times-set, accounts_free}
use Rattle.reached.specs.RoomsChanged.{there_parts}
use Rattle.line.specs.Laws.{left-empty, ticked-empty}
use Rattle.reached.specs.LinesChanged.{
  Fewer,
  fewer_same,
  fewer_none,
  fewer_left,
  fewer_ticked,
  waits_in,
  lines_fewer,
  set_fewer,
  join_each,
  join_once,
  lined-times,
}
use Rattle.reached.specs.EqualLaws.{table, join_alike, leave_alike, challenge_same, tick_equal, offer_alike, renewal_alike, remove_alike, enrol_alike}
use Rattle.reached.specs.Outcome.{Outcome}

-- ---- the accounts and the lines stay apart

-- A room is set, and no id comes to be there twice: what is left to say of the lines.
module _ (s : State) (k : ℕ) (held : Held) (P : List Port) (h : Housed s) (at : k < length s.rooms)
    (f : (id : ℕ) → (id ≡ 0 → ⊥) → is held.account.id id + times id s.rooms ≤ 1 + is (get_or s.rooms k free_room).account.id id)
    (idle : Idle held)
  where
    housed_put : Once (in_lines (set s.rooms k held)) → Each (λ (port : ℕ). port ≤ 3) (in_lines (set s.rooms k held))
        → Housed (record { rooms = set s.rooms k held; ports = P })
    housed_put o n = record {
      all = length-set s.rooms k held ∙ h.all;
      once = λ id g. omega (arith, times-set held id s.rooms k at, f id g);
      idle = each_set Idle s.rooms k held h.idle idle;
      single = o;
      known = n;
    }

    housed_set : Fewer held.line.ports (get_or s.rooms k free_room).line.ports → Housed (record { rooms = set s.rooms k held; ports = P })
    housed_set w =
        let fewer = set_fewer s.rooms k held w in
        housed_put (fewer.once h.single) (fewer.each (λ (port : ℕ). port ≤ 3) h.known)

-- Every line changes, and nobody comes.
housed_lines : (change : Waiting → Waiting) → ((w : Waiting) → Fewer (change w).ports w.ports) → change empty ≡ empty → (s : State) (P : List Port)
    → Housed s → Housed (record { rooms = map (lined change) s.rooms; ports = P })
housed_lines change f e s P h =
    let fewer = lines_fewer change f s.rooms in
    record {
      all = length-map s.rooms (lined change) ∙ h.all;
      once = λ id g. omega (arith, lined-times change id s.rooms, h.once id g);
      idle = each_map Idle Idle (lined change) (λ held i z. ap change (i z) ∙ e) s.rooms h.idle;
      single = fewer.once h.single;
      known = fewer.each (λ (port : ℕ). port ≤ 3) h.known;
    }

-- The port leaves.
housed_leaves : (port : ℕ) (s : State) (P : List Port) → Housed s → Housed (record { rooms = map (lined (left port)) s.rooms; ports = P })
housed_leaves port = housed_lines (left port) (fewer_left port) (left-empty port)

-- Whatever a call does: what is put in a room has an id that no other room has, or the one that stood there, or is free; and a port comes to a
-- line only if it is in none.
pub housed_outcome : (call : Call) (s : State) {s' : State} → Outcome call s s' → Housed s → Housed s'
unfolding steps.tick steps.joins
housed_outcome call s (Outcome.nothing z) h = h
housed_outcome call s (Outcome.enrolled z room a n t f) h =
    let k = place_of 0 s.rooms in
    housed_set s k (record { account = room; line = (room_at k s).line }) s.ports h (ltb-true k (length s.rooms) f)
    (λ id g. by id (h.once id g) (ℕ_discrete room.id id)) (λ e. absurd (n e)) (fewer_same (room_at k s).line.ports)
  where
    absent : times room.id s.rooms ≤ 0
    absent =
        ltb-false 0 (times room.id s.rooms)
        (sym (holds-times room.id s.rooms)
        ∙ sym (ap (λ (b : Bool). not b && holds room.id s.rooms) (ne_eqb room.id 0 n)) ∙ t)

    by : (id : ℕ) → times id s.rooms ≤ 1 → Dec (room.id ≡ id)
        → is room.id id + times id s.rooms ≤ 1 + is (get_or s.rooms (place_of 0 s.rooms) free_room).account.id id
    by id o (yes e) =
        let one : is room.id id ≡ 1 = ap (λ (b : Bool). cond b 1 0) (eq-eqb room.id id e) in
        omega (arith, absent, ap (λ (i : ℕ). times i s.rooms) e)
    by id o (no e) =
        let none : is room.id id ≡ 0 = ap (λ (b : Bool). cond b 1 0) (ne_eqb room.id id e) in
        omega arith
housed_outcome call s (Outcome.removed z id t n k o) h =
    housed_set s (place_of id s.rooms) free_room s.ports h (there_parts id s.rooms t).1
    (λ j g. let none : is 0 j ≡ 0 = ap (λ (b : Bool). cond b 1 0) (ne_eqb 0 j (λ e. g (sym e))) in omega (arith, h.once j g))
    (λ e. refl) (fewer_none _)
housed_outcome call s (Outcome.joined z port id k t n o b x) h = by (ltb (length (in_lines s.rooms)) 4)
  where
    out : some (of_port port) (in_lines s.rooms) ≡ false
    out = sym (waits_in port s) ∙ n

    by : (b : Bool) → Housed (cond b (with_line (place_of id s.rooms) (Line.joined port (line_of id s)) s) s)
    by false = h
    by true =
        let there = there_parts id s.rooms t in
        housed_put s (place_of id s.rooms) _ s.ports h there.1 (λ j g. omega (arith, h.once j g))
        (λ e. absurd (there.0 (sym (placed_id id s.rooms there.1) ∙ e)))
        (join_once port (place_of id s.rooms) s.rooms out h.single)
        (join_each (λ (port : ℕ). port ≤ 3) port (place_of id s.rooms) s.rooms k h.known)
housed_outcome call s (Outcome.left z port n o) h = housed_leaves port s s.ports h
housed_outcome call s (Outcome.accepted z port next g n o i a k x) h =
    let at = stands_at port s.rooms in
    housed_leaves port _ _
    (housed_set s at (record { account = next; line = (room_at at s).line }) s.ports h (ltb-true at (length s.rooms) g.inside)
    (λ id d. omega (arith, h.once id d, ap (λ (j : ℕ). is j id) i)) (λ e. absurd (g.there (sym i ∙ e))) (fewer_same (room_at at s).line.ports))
housed_outcome call s (Outcome.rejected z port g n o) h = housed_leaves port s _ h
housed_outcome call s (Outcome.ticked z o) h = housed_lines ticked fewer_ticked ticked-empty s _ h

-- So it is in the fresh table; that every call keeps them apart is `housed_after`, in proofs/Outcomes.antt.
pub housed_fresh : Housed fresh
unfolding times in_lines
housed_fresh = record {
  all = refl;
  once = λ id g. rw (ne_eqb 0 id (λ z. g (sym z))) (omega arith);
  idle = each_replicate Idle 32 free_room (λ e. refl);
  single = tt;
  known = tt;
}

-- ---- equal tables

-- "Two tables are equal when they have the same accounts by id, port records, line and turn; the room an account stands in
-- isn't part of that": each call answers them equally and leaves them equal.
alike_calls : (P : List Port) (l m : List Held) → Housed (table P l) → Housed (table P m) → Equal (table P l) (table P m) → (call : Call)
    → (answer call (table P l) ≡ answer call (table P m)) × Equal (after call (table P l)) (after call (table P m))
alike_calls P l m a b e (Call.Enrol id number count seed password) =
    let r = enrol_alike P l m e.accounts a b id number count seed password in
    (ap checked_answer r.answer, r.state)
alike_calls P l m a b e (Call.Remove id) =
    let r = remove_alike P l m e.accounts a b id in
    (ap checked_answer r.answer, r.state)
alike_calls P l m a b e (Call.Join port id) =
    let r = join_alike P l m e.accounts a b port id in
    (ap checked_answer r.answer, r.state)
alike_calls P l m a b e (Call.Leave port) =
    let r = leave_alike P l m e.accounts a b port in
    (ap checked_answer r.answer, r.state)
alike_calls P l m a b e (Call.Challenge port room) = (ap written_answer (challenge_same P l m e.accounts a b port room), e)
alike_calls P l m a b e (Call.Offer port password) =
    let r = offer_alike P l m e.accounts a b port password in
    (ap replied_answer r.answer, r.state)
alike_calls P l m a b e (Call.OfferRenewal port number count seed new password) =
    let r = renewal_alike P l m e.accounts a b port number count seed new password in
    (ap replied_answer r.answer, r.state)
alike_calls P l m a b e Call.Tick = (refl, tick_equal P l m e.accounts a b)

pub equal_calls : (s t : State) → Housed s → Housed t → Equal s t → (call : Call)
    → (answer call s ≡ answer call t) × Equal (after call s) (after call t)
equal_calls s t a b e call =
    let moved : table s.ports t.rooms ≡ t = λ i. record { rooms = t.rooms; ports = e.ports i } in
    subst (λ (u : State). (answer call s ≡ answer call u) × Equal (after call s) (after call u)) moved
    (alike_calls s.ports s.rooms t.rooms a
    (record { all = b.all; once = b.once; idle = b.idle; single = b.single; known = b.known })
    (record { accounts = e.accounts; ports = refl }) call)

-- ---- 53

-- "53 is given exactly when 32 accounts are there."
pub full_exactly : (s : State) → Housed s → (room_left s ≡ Err Refusal.TableFull) ↔ (accounts_in s.rooms ≡ 32)
full_exactly s h = (full, refuses)
  where
    free_rooms : accounts_in s.rooms + times 0 s.rooms ≡ 32
    free_rooms = accounts_free s.rooms ∙ h.all

    full : room_left s ≡ Err Refusal.TableFull → accounts_in s.rooms ≡ 32
    full = by (holds 0 s.rooms) refl
      where
        by : (b : Bool) → holds 0 s.rooms ≡ b → must b Refusal.TableFull ≡ Err Refusal.TableFull → accounts_in s.rooms ≡ 32
        by true e f = let z : ◌≡◌ {A = ℕ} 0 1 = cc in absurd (omega arith)
        by false e f = omega (arith, free_rooms, ltb-false 0 (times 0 s.rooms) (sym (holds-times 0 s.rooms) ∙ e))

    refuses : accounts_in s.rooms ≡ 32 → room_left s ≡ Err Refusal.TableFull
    refuses e =
        ap (λ (b : Bool). must b Refusal.TableFull)
        (holds-times 0 s.rooms ∙ le-ltb 0 (times 0 s.rooms) (omega (arith, free_rooms)))

-- "A removed account's room is used again": after a Remove that is not refused there is room, so that 53 isn't given.
pub removed_room_left : (id : ℕ) (s : State) → Housed s → is_there id s ≡ true → room_left (steps.remove id s).state ≡ Ok tt
removed_room_left id s h e = rw (remove-done id s e) (left (ℕ_discrete id 0))
  where
    left : Dec (id ≡ 0) → must (holds 0 (set s.rooms (place_of id s.rooms) free_room)) Refusal.TableFull ≡ Ok tt
    left (yes d) =
        let f : is_there 0 s ≡ true = subst (λ (i : ℕ). is_there i s ≡ true) d e in
        let z : ◌≡◌ {A = ℕ} 0 1 = cc in
        absurd (omega arith)
    left (no d) =
        let here = placed_id id s.rooms (there_parts id s.rooms e).1 in
        let none : is id 0 ≡ 0 = ap (λ (b : Bool). cond b 1 0) (ne_eqb id 0 d) in
        let more = times-set free_room 0 s.rooms (place_of id s.rooms) (there_parts id s.rooms e).1 in
        ap (λ (b : Bool). must b Refusal.TableFull)
        (holds-times 0 (set s.rooms (place_of id s.rooms) free_room)
        ∙ lt-ltb 0 (times 0 (set s.rooms (place_of id s.rooms) free_room)) (omega (arith, more, none, ap (λ (i : ℕ). is i 0) here)))
