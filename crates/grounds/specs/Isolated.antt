-- R-4: "Calls of ports in other lines change neither a line, its turn, nor its account"; and what the other calls change of them.
use Rattle.std.specs.Prelude.{ℕ, ◌≤◌, refl, Bool, cond, not, List, [], ◌∷◌, eqb, ltb, length, set, Ok, Err}
use Rattle.std.proofs.Common.{suc-le-suc, arith, sym, ◌∙◌, eqb-true, ne_eqb, ltb-true, lt-ltb, get_or-set_other}
use Rattle.std.proofs.Math.Decide.{ℕ_discrete}
use Rattle.std.proofs.Math.Path.{◌≡◌, ap}
use Rattle.std.proofs.Math.Bool.{true, false, true≢false}
use Rattle.std.proofs.lemmas.Bool.{eqb-false, not-true}
use Rattle.std.proofs.Math.ListN.{get_or}
use Rattle.std.proofs.Math.Seq.{get_or-set_same}
use Rattle.text.specs.Tests.{either, cases, second_fails}
use Rattle.refusal.specs.declared.Refusal.{Refusal}
use Rattle.refusal.specs.Answers.{Checked}
use Rattle.refusal.specs.Checks.{unless}
use Rattle.refusal.specs.Laws.{must_good}
use Rattle.password.specs.Password.{hash, bytes_of}
use Rattle.line.specs.Line as Line
use Rattle.line.specs.Line.{empty, stands_in, turn_joined}
use Rattle.accounts.specs.Rooms.{Room}
use Rattle.accounts.specs.Accounts.{new_room}
use Rattle.table.specs.Table.{
  State,
  Held,
  free_room,
  place_of,
  holds,
  is_there,
  room_at,
  held_of,
  account_of,
  line_of,
  in_lines,
  stands_at,
  waits,
  own_account,
  lined,
  with_room,
  with_account,
}
use Rattle.table.specs.HeldLaws.{account_there_lem}
use Rattle.table.specs.TableChecks.{account_there}
use Rattle.table.specs.Steps as Steps
use Rattle.table.specs.Steps.{
  refused,
  reply_refused,
  done,
  enrol_checked,
  enrol,
  remove,
  join_checked,
  joins,
  join,
  leave_checked,
  leave,
  compared,
  tick,
}
use Rattle.table.specs.StepLaws.{enrol_passed}
use Rattle.reached.specs.Calls.{Call, Answer, after, answer, replied_answer}
use Rattle.reached.specs.InTurn.{made_by, joins_for, elsewhere}
use Rattle.reached.specs.Offered.{Offered, Offers, offer_checked, present_in, next_of, offers}
use Rattle.reached.specs.OfferedLaws.{next_id, call_offers}
use Rattle.reached.specs.Day.{WrongReply}
use Rattle.reached.specs.Made.{Made}
use Rattle.reached.specs.RoomsFound.{apart_once}
use Rattle.reached.specs.RoomsChanged.{there_parts}
use Rattle.line.specs.Laws.{ticked-empty}
use Rattle.reached.specs.LinesChanged.{left_out, stands_found, stands_once, stands_inside}
use Rattle.reached.specs.Outcome.{Outcome, join_good}
use Rattle.reached.proofs.Outcomes.{outcome}
use Rattle.grounds.specs.Few.{three_others}
use Rattle.grounds.specs.HeldAfter.{
  found-lined,
  gone_holds,
  gone_free,
  enrolled_other,
  removed_other,
  lined_other,
  lined_own,
  left_held,
  accepted_line,
  accepted_other,
}
use Rattle.grounds.specs.Moved.{waits_nowhere, new_there, new_held}

-- ---- calls elsewhere

-- A port leaves that isn't in this line.
out_held : (port : ℕ) (held : Held) → stands_in port held.line ≡ false → lined (Line.left port) held ≡ held
out_held port held e = λ i. record { account = held.account; line = left_out port held.line e i }

-- Whatever the call does.
held_kept : (c : Call) (s : State) {s' : State} → Outcome c s s' → (i : ℕ) → is_there i s ≡ true → elsewhere i s c ≡ true → held_of i s' ≡ held_of i s
unfolding Steps.tick Steps.joins
held_kept c s (Outcome.nothing z) i h q = refl
held_kept c s (Outcome.enrolled z room a n t f) i h q =
    enrolled_other i s room (there_parts i s.rooms h).0 (λ e. true≢false (sym h ∙ ap (λ (j : ℕ). is_there j s) (sym e) ∙ t))
held_kept c s (Outcome.removed z id t n k o) i h q = removed_other i s id (there_parts i s.rooms h).0 (eqb-false id i (o i q))
held_kept c s (Outcome.joined z port id k t n o b x) i h q =
    either (λ (s' : State). held_of i s' ≡ held_of i s) (ltb (length (in_lines s.rooms)) 4)
    (λ e. lined_other i s id (Line.joined port (line_of id s)) t (eqb-false id i (x i q))) (λ e. refl)
held_kept c s (Outcome.left z port n o) i h q = left_held i s port ∙ out_held port (held_of i s) (o i q)
held_kept c s (Outcome.accepted z port next g n o e a k x) i h q =
    let found = stands_found port s.rooms (ltb-true (stands_at port s.rooms) (length s.rooms) g.inside) in
    accepted_other i s port next e
    (λ same. true≢false (sym found ∙ ap (λ (j : ℕ). stands_in port (room_at j s).line) (sym same) ∙ o i q))
    ∙ out_held port (held_of i s) (o i q)
held_kept c s (Outcome.rejected z port g n o) i h q = left_held i s port ∙ out_held port (held_of i s) (o i q)
held_kept c s (Outcome.ticked z o) i h q = absurd (true≢false (sym q ∙ o i))

-- On any table: the account's room holds what it held, the account, its line and turn.
pub call_elsewhere : (s : State) (i : ℕ) → is_there i s ≡ true → (c : Call) → elsewhere i s c ≡ true → held_of i (after c s) ≡ held_of i s
call_elsewhere s i h c q = held_kept c s (outcome c s) i h q

-- The calls of a port that isn't in the account's line are elsewhere, unless it joins that line.
pub out_elsewhere : (s : State) (i port : ℕ) → stands_in port (line_of i s) ≡ false
    → (c : Call) → made_by port c ≡ true → joins_for i c ≡ false → elsewhere i s c ≡ true
out_elsewhere s i port out c own other = by c own other
  where
    another : (q : ℕ) → eqb q port ≡ true → not (stands_in q (line_of i s)) ≡ true
    another q e = ap not (ap (λ (n : ℕ). stands_in n (line_of i s)) (eqb-true q port e) ∙ out)

    by : (d : Call) → made_by port d ≡ true → joins_for i d ≡ false → elsewhere i s d ≡ true
    by (Call.Enrol id number count seed password) e f = refl
    by (Call.Remove id) e f = absurd (true≢false (sym e))
    by (Call.Join q id) e f = ap not f
    by (Call.Leave q) e f = another q e
    by (Call.Challenge q room) e f = refl
    by (Call.Offer q password) e f = another q e
    by (Call.OfferRenewal q number count seed new password) e f = another q e
    by Call.Tick e f = absurd (true≢false (sym e))

-- A port that waits in another line changes nothing of this one whatever it calls: its Join is refused.
waiting_join : (port id : ℕ) (s : State) → waits port s ≡ true → (join port id s).state ≡ s
unfolding join
waiting_join port id s e = by (join_checked port id s) refl
  where
    by : (k : Checked) → join_checked port id s ≡ k → (unless (refused s) k (done (joins port id s))).state ≡ s
    by (Ok _) f = absurd (true≢false (sym e ∙ (join_good port id s f).2))
    by (Err why) f = refl

pub waiting_stays : (s : State) (i port : ℕ) → is_there i s ≡ true → waits port s ≡ true → stands_in port (line_of i s) ≡ false
    → (c : Call) → made_by port c ≡ true → held_of i (after c s) ≡ held_of i s
waiting_stays s i port there e out c own = by c own (out_elsewhere s i port out c own)
  where
    by : (d : Call) → made_by port d ≡ true → (joins_for i d ≡ false → elsewhere i s d ≡ true) → held_of i (after d s) ≡ held_of i s
    by (Call.Enrol id number count seed password) f g = call_elsewhere s i there (Call.Enrol id number count seed password) (g refl)
    by (Call.Remove id) f g = absurd (true≢false (sym f))
    by (Call.Join q id) f g = ap (held_of i) (waiting_join q id s (ap (λ (n : ℕ). waits n s) (eqb-true q port f) ∙ e))
    by (Call.Leave q) f g = call_elsewhere s i there (Call.Leave q) (g refl)
    by (Call.Challenge q room) f g = refl
    by (Call.Offer q password) f g = call_elsewhere s i there (Call.Offer q password) (g refl)
    by (Call.OfferRenewal q number count seed new password) f g =
        call_elsewhere s i there (Call.OfferRenewal q number count seed new password) (g refl)
    by Call.Tick f g = absurd (true≢false (sym f))

-- ---- what does change them

-- Tick: every line's turn falls.
pub tick_held : (i : ℕ) (s : State) → held_of i (tick s) ≡ record { account = account_of i s; line = Line.ticked (line_of i s) }
unfolding tick
tick_held i s = found-lined Line.ticked ticked-empty i s.rooms

-- An answer that is no refusal: the checks found nothing wrong, and this is what was done.
settled_done : (s next : State) (check : Checked) → (unless (refused s) check (done next)).answer ≡ Ok tt
    → (check ≡ Ok tt) × ((unless (refused s) check (done next)).state ≡ next)
settled_done s next (Ok _) e = (refl, refl)
settled_done s next (Err why) e = let z : ◌≡◌ {A = ℕ} 0 1 = cc in absurd (omega arith)

-- Join for this account, when it is done: the port is at the back of its line, where it wasn't before.
pub joined_held : (p i : ℕ) (s : State) → Made s → (join p i s).answer ≡ Ok tt
    → (held_of i (join p i s).state ≡ record { account = account_of i s; line = Line.joined p (line_of i s) }) × (p ≤ 3) × (stands_in p (line_of i s) ≡ false)
unfolding join joins
joined_held p i s m e =
    let found = settled_done s (joins p i s) (join_checked p i s) e in
    let facts = join_good p i s found.0 in
    let room = lt-ltb (length (in_lines s.rooms)) 4 (suc-le-suc (three_others p s m facts.0 facts.2)) in (
      ap (held_of i) found.1 ∙ rw room (lined_own i s (Line.joined p (line_of i s)) facts.1),
      facts.0,
      waits_nowhere p i s facts.2,
    )

-- It comes from no line.
pub joined_from_none : (p i : ℕ) (s : State) → (join p i s).answer ≡ Ok tt → (j : ℕ) → stands_in p (line_of j s) ≡ false
unfolding join
joined_from_none p i s e j =
    waits_nowhere p j s (join_good p i s (settled_done s (joins p i s) (join_checked p i s) e).0).2

-- Its turn is 60 then if nobody waited, and goes on otherwise.
pub joined_turn : (p i : ℕ) (s : State) → Made s → (join p i s).answer ≡ Ok tt
    → ((line_of i s).ports ≡ [] → (line_of i (join p i s).state).turn ≡ 60)
    × (((line_of i s).ports ≡ [] → ⊥) → (line_of i (join p i s).state).turn ≡ (line_of i s).turn)
joined_turn p i s m e =
    let turn : (line_of i (join p i s).state).turn ≡ turn_joined (line_of i s).ports (line_of i s).turn =
    ap (λ (held : Held). held.line.turn) (joined_held p i s m e).0 in (
      λ none. turn ∙ ap (λ (l : List ℕ). turn_joined l (line_of i s).turn) none,
      λ some. turn ∙ goes_on (line_of i s).ports (line_of i s).turn some,
    )
  where
    goes_on : (l : List ℕ) (turn : ℕ) → (l ≡ [] → ⊥) → turn_joined l turn ≡ turn
    goes_on [] turn n = absurd (n refl)
    goes_on (x ∷ l) turn n = refl

-- Remove, when it is done: the account was there, and this is the table then.
removed : (i : ℕ) (s : State) → (remove i s).answer ≡ Ok tt
    → (is_there i s ≡ true) × ((remove i s).state ≡ with_room (place_of i s.rooms) free_room s)
unfolding remove
removed i s e =
    let found = settled_done s (with_room (place_of i s.rooms) free_room s) (account_there i s) e in
    (must_good (is_there i s) Refusal.AccountMissing found.0, found.1)

-- The account's room is free, on any table.
pub removed_free : (i : ℕ) (s : State) → (remove i s).answer ≡ Ok tt → room_at (place_of i s.rooms) (remove i s).state ≡ free_room
removed_free i s e =
    let at = place_of i s.rooms in
    let did = removed i s e in
    ap (room_at at) did.1 ∙ get_or-set_same s.rooms at free_room free_room (there_parts i s.rooms did.0).1

-- The account isn't there, and nobody waits for it.
pub removed_gone : (i : ℕ) (s : State) → Made s → (remove i s).answer ≡ Ok tt
    → (is_there i (remove i s).state ≡ false) × (line_of i (remove i s).state ≡ empty)
removed_gone i s m e =
    let did = removed i s e in
    let once = apart_once s.rooms m.apart in (
      ap (is_there i) did.1 ∙ second_fails (not (eqb i 0)) _ (gone_holds i s.rooms once did.0),
      ap (line_of i) did.1 ∙ ap (λ (held : Held). held.line) (gone_free i s.rooms once did.0),
    )

-- Every port that was in its line is in no line then: not in that one, which is empty, and not in another, since it was in one at most.
module _ (p i : ℕ) (s : State) (m : Made s) (stood : stands_in p (line_of i s) ≡ true) where
  abbrev gone_rooms : List Held
  gone_rooms = set s.rooms (place_of i s.rooms) free_room

  nowhere_then : (k : ℕ) → stands_in p (get_or gone_rooms k free_room).line ≡ true → Dec (k ≡ place_of i s.rooms) → ⊥
  unfolding Line.some
  nowhere_then k f (yes same) =
      let at = place_of i s.rooms in
      let free = get_or-set_same s.rooms at free_room free_room (stands_inside p at s.rooms stood) in
      true≢false (sym f ∙ ap (λ (h : Held). stands_in p h.line) (ap (λ (n : ℕ). get_or gone_rooms n free_room) same ∙ free))
  nowhere_then k f (no other) =
      let at = place_of i s.rooms in
      let there : stands_in p (get_or s.rooms k free_room).line ≡ true =
      ap (λ (h : Held). stands_in p h.line) (sym (get_or-set_other s.rooms at k free_room free_room other)) ∙ f in
      other (sym (stands_once p k s.rooms m.once there) ∙ stands_once p at s.rooms m.once stood)

  pub removed_out : (remove i s).answer ≡ Ok tt → waits p (remove i s).state ≡ false
  removed_out e =
      let next = with_room (place_of i s.rooms) free_room s in
      let k = stands_at p gone_rooms in
      ap (waits p) (removed i s e).1
      ∙ cases (waits p next)
      (λ f. absurd (nowhere_then k (stands_found p gone_rooms (ltb-true k (length gone_rooms) f)) (ℕ_discrete k (place_of i s.rooms))))
      (λ f. f)

-- Enrol, when it is done: what its checks found, and the table then.
enrolled : (i number count : ℕ) (seed password : List ℕ) (s : State) → (enrol i number count seed password s).answer ≡ Ok tt
    → ((enrol i number count seed password s).state ≡ with_account (place_of 0 s.rooms) (new_room i number count seed password) s)
    × (i ≡ 0 → ⊥) × (is_there i s ≡ false) × (holds 0 s.rooms ≡ true)
unfolding enrol
enrolled i number count seed password s e =
    let next = with_account (place_of 0 s.rooms) (new_room i number count seed password) s in
    let found = settled_done s next (enrol_checked i number count seed s) e in
    let passed = enrol_passed i number count seed s found.0 in
    (found.1, eqb-false i 0 (not-true (eqb i 0) passed.given), not-true (is_there i s) passed.new, passed.room)

-- The account is the new one, on any table.
pub enrolled_account : (i number count : ℕ) (seed password : List ℕ) (s : State) → (enrol i number count seed password s).answer ≡ Ok tt
    → account_of i (enrol i number count seed password s).state ≡ new_room i number count seed password
enrolled_account i number count seed password s e =
    let did = enrolled i number count seed password s e in
    ap (account_of i) did.0
    ∙ ap (λ (held : Held). held.account) (new_there (new_room i number count seed password) s did.1 did.2 did.3)

-- It is there.
pub enrolled_there : (i number count : ℕ) (seed password : List ℕ) (s : State) → (enrol i number count seed password s).answer ≡ Ok tt
    → is_there i (enrol i number count seed password s).state ≡ true
enrolled_there i number count seed password s e =
    sym (account_there_lem i (enrol i number count seed password s).state.rooms)
    ∙ ap (λ (room : Room). not (eqb room.id 0)) (enrolled_account i number count seed password s e)
    ∙ ap not (ne_eqb i 0 (enrolled i number count seed password s e).1)

-- In tables that calls make nobody waits for it yet.
pub enrolled_new : (i number count : ℕ) (seed password : List ℕ) (s : State) → Made s → (enrol i number count seed password s).answer ≡ Ok tt
    → held_of i (enrol i number count seed password s).state ≡ record { account = new_room i number count seed password; line = empty }
enrolled_new i number count seed password s m e =
    let did = enrolled i number count seed password s e in
    ap (held_of i) did.0 ∙ new_held (new_room i number count seed password) s m did.1 did.2 did.3

-- Leave, when it is done: the port is out of its line; a line in which it wasn't is as it was.
pub leave_held : (p i : ℕ) (s : State) → (leave p s).answer ≡ Ok tt
    → held_of i (leave p s).state ≡ record { account = account_of i s; line = Line.left p (line_of i s) }
unfolding leave
leave_held p i s e = ap (held_of i) (settled_done s (Steps.leaves p s) (leave_checked p s) e).1 ∙ left_held i s p

-- A wrong reply, 61 or 62, of an offer: so does the port leave then.
pub wrong_held : (why : Refusal) (c : Call) (s : State) (w : WrongReply why c s) (i : ℕ)
    → held_of i (after c s) ≡ record { account = account_of i s; line = Line.left w.port (line_of i s) }
wrong_held why c s w i = ap (held_of i) w.changed ∙ left_held i s w.port

-- An accepted reply or renewal: the port is out of the account's line, if it was in it.
module _ (port n : ℕ) (s : State) (i : ℕ) where
  -- A password is compared and taken.
  compared-left : (w : ℕ) (next : Room) → next.id ≡ (own_account port s).id → replied_answer (compared port w next s).answer ≡ Answer.Count n
      → line_of i (compared port w next s).state ≡ Line.left port (line_of i s)
  unfolding compared
  compared-left w next same = by (eqb (hash (own_account port s).algorithm (bytes_of w)) (own_account port s).password)
    where
      by : (t : Bool) → replied_answer (cond t (Steps.accepted port next s) (Steps.rejected port s)).answer ≡ Answer.Count n
          → line_of i (cond t (Steps.accepted port next s) (Steps.rejected port s)).state ≡ Line.left port (line_of i s)
      by true e = accepted_line i s port next same
      by false e = let z : ◌≡◌ {A = ℕ} 0 1 = cc in absurd (omega arith)

  -- It is what was offered, behind checks.
  offers-left : (what : Offered) → replied_answer (offers port what s).answer ≡ Answer.Count n
      → line_of i (offers port what s).state ≡ Line.left port (line_of i s)
  unfolding offers
  offers-left what = by (offer_checked port what s)
    where
      by : (k : Checked)
          → replied_answer (unless (reply_refused s) k (compared port (present_in what) (next_of what (own_account port s)) s)).answer ≡ Answer.Count n
          → line_of i (unless (reply_refused s) k (compared port (present_in what) (next_of what (own_account port s)) s)).state ≡ Line.left port (line_of i s)
      by (Err why) e = let z : ◌≡◌ {A = ℕ} 0 1 = cc in absurd (omega arith)
      by (Ok _) e = compared-left (present_in what) (next_of what (own_account port s)) (next_id what (own_account port s)) e

-- Of the call.
pub accepted_left : (port n : ℕ) (what : Offered) (c : Call) (s : State) → Offers port what c → answer c s ≡ Answer.Count n → (i : ℕ)
    → line_of i (after c s) ≡ Line.left port (line_of i s)
accepted_left port n what c s p e i =
    let did = call_offers port what c s p in
    ap (line_of i) did.1 ∙ offers-left port n s i what (sym did.0 ∙ e)
