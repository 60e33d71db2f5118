-- Each call keeps what holds of tables that calls make; and what follows of a port that has the turn.
use Rattle.std.specs.Prelude.{ℕ, ◌+◌, ◌-◌, ◌≤◌, ◌≡◌, refl, Bool, true, false, cond, ◌||◌, List, [], ◌∷◌, map, eqb, leb, ltb, length, get_or, set}
use Rattle.std.proofs.Common.{arith, sym, ap, ◌∙◌, subst, true≢false, eqb-true, leb-false, length-set, get_or-set_other}
use Rattle.std.proofs.lemmas.Bool.{eqb-false}
use Rattle.std.proofs.lemmas.List.{length-map}
use Rattle.std.proofs.Math.ListN.{get_or-map}
use Rattle.text.specs.Tests.{either}
use Rattle.line.specs.Line as Line
use Rattle.line.specs.Line.{Waiting, of_port, some, stands_in, front_of, others}
use Rattle.port.specs.declared.Port.{Port}
use Rattle.port.specs.Port.{wrongly, rightly, cooled}
use Rattle.table.specs.Table.{
  State,
  Held,
  free_room,
  fresh_port,
  fresh,
  place_of,
  is_there,
  room_at,
  held_of,
  account_of,
  line_of,
  port_of,
  in_lines,
  stands_at,
  waits,
  own_room,
  own_account,
  is_front,
  has_turn,
  lined,
}
use Rattle.table.specs.Steps as Steps
use Rattle.reached.specs.Calls.{Call, after, run}
use Rattle.reached.specs.InTurn.{Reached, HasTurn}
use Rattle.refusal.specs.Each.{Each, each_set, each_get, each_append, each_replicate, each_map, each_weaker}
use Rattle.reached.specs.Equal.{Housed}
use Rattle.reached.specs.RoomsChanged.{there_parts}
use Rattle.reached.specs.RoomsFound.{placed_id, once_apart, apart_once}
use Rattle.reached.specs.LinesChanged.{
  fewer_same,
  fewer_none,
  fewer_left,
  fewer_ticked,
  each_parts,
  waits_in,
  line_in,
  stands_once,
  line_once,
  line_each,
  lines_fewer,
  set_fewer,
  join_each,
  placed_own,
}
use Rattle.reached.specs.Laws.{housed_fresh}
use Rattle.reached.specs.Outcome.{Outcome}
use Rattle.reached.proofs.Outcomes.{outcome, housed_after}
use Rattle.reached.specs.Made.{TurnRight, Standing, LineRight, Idle, AccountGood, RoomGood, PortGood, Made}
use Rattle.grounds.specs.Standing.{turn-left, turn-joined, turn-ticked}
use Rattle.grounds.specs.Starts.{front_stands}
use Rattle.grounds.specs.HeldAfter.{in_room, stands_there}

-- ---- no port in line is shut

-- The port isn't shut.
abbrev Unshut : List Port → ℕ → Type 0
Unshut ports port = (get_or ports port fresh_port).shut ≡ 0

-- What follows for each port that isn't one that leaves holds of those that stay, in one line and in all.
each_stay : (P Q : ℕ → Type 0) (gone : ℕ → Bool) → ((x : ℕ) → P x → gone x ≡ false → Q x) → (l : List ℕ) → Each P l → Each Q (others gone l)
unfolding others
each_stay P Q gone f [] h = tt
each_stay P Q gone f (x ∷ l) h = by (gone x) refl (each_stay P Q gone f l h.1)
  where
    by : (t : Bool) → gone x ≡ t → Each Q (others gone l) → Each Q (cond t (others gone l) (x ∷ others gone l))
    by true e ih = ih
    by false e ih = (f x h.0 e, ih)

lines_stay : (P Q : ℕ → Type 0) (port : ℕ) → ((x : ℕ) → P x → of_port port x ≡ false → Q x) → (rooms : List Held)
    → Each P (in_lines rooms) → Each Q (in_lines (map (lined (Line.left port)) rooms))
unfolding in_lines Line.left
lines_stay P Q port f [] h = tt
lines_stay P Q port f (held ∷ rooms) h =
    let parts = each_parts P held.line.ports (in_lines rooms) h in
    each_append Q (others (of_port port) held.line.ports) (in_lines (map (lined (Line.left port)) rooms))
    (each_stay P Q (of_port port) f held.line.ports parts.0) (lines_stay P Q port f rooms parts.1)

-- A port's changed record is its own.
unshut_others : (ports : List Port) (port : ℕ) (changed : Port) (x : ℕ) → Unshut ports x → of_port port x ≡ false → Unshut (set ports port changed) x
unshut_others ports port changed x k g = ap (λ (p : Port). p.shut) (get_or-set_other ports port x changed fresh_port (eqb-false x port g)) ∙ k

-- Nobody in line is shut after a call: who joins isn't shut, and whose record changes leaves.
unshut_after : (c : Call) (s : State) {s' : State} → Outcome c s s'
    → Each (Unshut s.ports) (in_lines s.rooms) → Each (Unshut s'.ports) (in_lines s'.rooms)
unfolding Steps.tick Steps.joins
unshut_after c s (Outcome.nothing z) h = h
unshut_after c s (Outcome.enrolled z room a n t f) h =
    (set_fewer s.rooms (place_of 0 s.rooms) (record { account = room; line = (room_at (place_of 0 s.rooms) s).line }) (fewer_same _)
    ).each (Unshut s.ports) h
unshut_after c s (Outcome.removed z id t n k o) h =
    (set_fewer s.rooms (place_of id s.rooms) free_room (fewer_none _)).each (Unshut s.ports) h
unshut_after c s (Outcome.joined z port id k t n o b x) h =
    either (λ (s' : State). Each (Unshut s'.ports) (in_lines s'.rooms)) (ltb (length (in_lines s.rooms)) 4)
    (λ e. join_each (Unshut s.ports) port (place_of id s.rooms) s.rooms o h) (λ e. h)
unshut_after c s (Outcome.left z port n o) h = (lines_fewer (Line.left port) (fewer_left port) s.rooms).each (Unshut s.ports) h
unshut_after c s (Outcome.accepted z port next g n o i a k x) h =
    let at = stands_at port s.rooms in
    lines_stay (Unshut s.ports) (Unshut (set s.ports port (rightly (port_of port s)))) port
    (unshut_others s.ports port (rightly (port_of port s))) (in_room next at s.rooms)
    ((set_fewer s.rooms at (record { account = next; line = (room_at at s).line }) (fewer_same _)).each (Unshut s.ports) h)
unshut_after c s (Outcome.rejected z port g n o) h =
    lines_stay (Unshut s.ports) (Unshut (set s.ports port (wrongly (port_of port s)))) port
    (unshut_others s.ports port (wrongly (port_of port s))) s.rooms h
unshut_after c s (Outcome.ticked z o) h =
    each_weaker (Unshut s.ports) (Unshut (map cooled s.ports))
    (λ x k. ap (λ (p : Port). p.shut) (get_or-map cooled s.ports x fresh_port) ∙ ap (λ (n : ℕ). n - 1) k)
    (in_lines (map (lined Line.ticked) s.rooms)) ((lines_fewer Line.ticked fewer_ticked s.rooms).each (Unshut s.ports) h)

-- ---- the rooms: the turn of each line, and the accounts

-- What stands in a room of which the account is in use is a good one.
pub held_good : (k : ℕ) (s : State) → Each RoomGood s.rooms → ((room_at k s).account.id ≡ 0 → ⊥) → AccountGood (room_at k s).account
held_good k s h = each_get RoomGood s.rooms k free_room h (λ n. absurd (n refl))

-- The account with an id that is there is a good one.
pub account_good : (id : ℕ) (s : State) → is_there id s ≡ true → Each RoomGood s.rooms → AccountGood (account_of id s)
account_good id s t h =
    let parts = there_parts id s.rooms t in
    held_good (place_of id s.rooms) s h (λ z. parts.0 (sym (placed_id id s.rooms parts.1) ∙ z))

-- The turn of a room's line.
pub line_right : (k : ℕ) (s : State) → Each LineRight s.rooms → LineRight (room_at k s)
line_right k s h = each_get LineRight s.rooms k free_room h refl

-- Accounts and turns are right, in all rooms; so they are when a room is set, and when every line changes.
abbrev Right : List Held → Type 0
Right rooms = Each RoomGood rooms × Each LineRight rooms

-- A room is set.
right_set : (rooms : List Held) (k : ℕ) (held : Held) → Right rooms → RoomGood held → LineRight held → Right (set rooms k held)
right_set rooms k held h a t = (each_set RoomGood rooms k held h.0 a, each_set LineRight rooms k held h.1 t)

-- Every line changes.
right_lined : (change : Waiting → Waiting) → ((w : Waiting) → TurnRight w.ports w.turn → TurnRight (change w).ports (change w).turn)
    → (rooms : List Held) → Right rooms → Right (map (lined change) rooms)
right_lined change f rooms h = (
  each_map RoomGood RoomGood (lined change) (λ held a. a) rooms h.0,
  each_map LineRight LineRight (lined change) (λ held t. f held.line t) rooms h.1,
)

-- After a call.
right_after : (c : Call) (s : State) {s' : State} → Outcome c s s' → Right s.rooms → Right s'.rooms
unfolding Steps.tick Steps.joins
right_after c s (Outcome.nothing z) h = h
right_after c s (Outcome.enrolled z room a n e f) h =
    let at = place_of 0 s.rooms in
    right_set s.rooms at (record { account = room; line = (room_at at s).line }) h (λ m. a) (line_right at s h.1)
right_after c s (Outcome.removed z id e n k o) h = right_set s.rooms (place_of id s.rooms) free_room h (λ m. absurd (m refl)) refl
right_after c s (Outcome.joined z port id k e n o b x) h =
    let at = place_of id s.rooms in
    either (λ (s' : State). Right s'.rooms) (ltb (length (in_lines s.rooms)) 4)
    (λ e. right_set s.rooms at (record { account = account_of id s; line = Line.joined port (line_of id s) }) h (held_good at s h.0)
    (turn-joined port (line_of id s) (line_right at s h.1)))
    (λ e. h)
right_after c s (Outcome.left z port n o) h = right_lined (Line.left port) (turn-left port) s.rooms h
right_after c s (Outcome.accepted z port next g n o i a k x) h =
    let at = stands_at port s.rooms in
    right_lined (Line.left port) (turn-left port) (in_room next at s.rooms)
    (right_set s.rooms at (record { account = next; line = (room_at at s).line }) h (λ m. a (held_good at s h.0 g.there)) (line_right at s h.1))
right_after c s (Outcome.rejected z port g n o) h = right_lined (Line.left port) (turn-left port) s.rooms h
right_after c s (Outcome.ticked z o) h = right_lined Line.ticked turn-ticked s.rooms h

-- ---- the ports' records

-- 0 to 2 wrong replies, 0 to 900 shut ticks.
runs_after : (c : Call) (s : State) {s' : State} → Outcome c s s' → Each PortGood s.ports → Each PortGood s'.ports
unfolding Steps.tick Steps.joins
runs_after c s (Outcome.nothing z) h = h
runs_after c s (Outcome.enrolled z room a n t f) h = h
runs_after c s (Outcome.removed z id t n k o) h = h
runs_after c s (Outcome.joined z port id k t n o b x) h =
    either (λ (s' : State). Each PortGood s'.ports) (ltb (length (in_lines s.rooms)) 4) (λ e. h) (λ e. h)
runs_after c s (Outcome.left z port n o) h = h
runs_after c s (Outcome.accepted z port next g n o i a k x) h =
    let own = each_get PortGood s.ports port fresh_port h (omega arith, omega arith) in
    each_set PortGood s.ports port (rightly (port_of port s)) h (omega arith, own.1)
runs_after c s (Outcome.rejected z port g n o) h =
    let own = each_get PortGood s.ports port fresh_port h (omega arith, omega arith) in
    each_set PortGood s.ports port (wrongly (port_of port s)) h
    (either PortGood (leb 3 ((port_of port s).wrong + 1)) (λ e. (omega arith, omega arith))
    (λ e. let low = leb-false 3 ((port_of port s).wrong + 1) e in (omega arith, own.1)))
runs_after c s (Outcome.ticked z o) h =
    each_map PortGood PortGood cooled (λ port k. let low = k.1 in (k.0, omega arith)) s.ports h

-- As many ports.
ports_after : (c : Call) (s : State) {s' : State} → Outcome c s s' → length s'.ports ≡ length s.ports
unfolding Steps.tick Steps.joins
ports_after c s (Outcome.nothing z) = refl
ports_after c s (Outcome.enrolled z room a n t f) = refl
ports_after c s (Outcome.removed z id t n k o) = refl
ports_after c s (Outcome.joined z port id k t n o b x) =
    either (λ (s' : State). length s'.ports ≡ length s.ports) (ltb (length (in_lines s.rooms)) 4) (λ e. refl) (λ e. refl)
ports_after c s (Outcome.left z port n o) = refl
ports_after c s (Outcome.accepted z port next g n o i a k x) = length-set s.ports port (rightly (port_of port s))
ports_after c s (Outcome.rejected z port g n o) = length-set s.ports port (wrongly (port_of port s))
ports_after c s (Outcome.ticked z o) = length-map s.ports cooled

-- ---- every call keeps it, and so it holds of all tables that calls make

-- A table that calls make is one whose accounts and lines are apart.
pub made_housed : (s : State) → Made s → Housed s
made_housed s m = record {
  all = m.room_count;
  once = apart_once s.rooms m.apart;
  idle = m.idle;
  single = m.once;
  known = m.known;
}

-- What is said of such a table, and of one with right accounts, turns and ports.
housed_made : (s : State) → Housed s → Each (Unshut s.ports) (in_lines s.rooms) → Right s.rooms → length s.ports ≡ 4
    → Each PortGood s.ports → Made s
housed_made s h u r n p =
    record {
      known = h.known;
      once = h.single;
      unshut = u;
      turns = r.1;
      idle = h.idle;
      room_count = h.all;
      port_count = n;
      good = r.0;
      apart = once_apart s.rooms h.once;
      runs = p;
    }

-- One call.
pub made_after : (c : Call) (s : State) → Made s → Made (after c s)
made_after c s m =
    let did = outcome c s in
    housed_made (after c s) (housed_after c s (made_housed s m)) (unshut_after c s did m.unshut) (right_after c s did (m.good, m.turns))
    (ports_after c s did ∙ m.port_count) (runs_after c s did m.runs)

-- Several.
pub made_run : (calls : List Call) (s : State) → Made s → Made (run calls s)
unfolding run
made_run [] s m = m
made_run (c ∷ cs) s m = made_run cs (after c s) (made_after c s m)

-- The fresh table.
pub made_fresh : Made fresh
unfolding in_lines
made_fresh =
    housed_made fresh housed_fresh tt
    (each_replicate RoomGood 32 free_room (λ n. absurd (n refl)), each_replicate LineRight 32 free_room refl)
    refl (each_replicate PortGood 4 fresh_port (omega arith, omega arith))

-- "From a fresh table, after any calls".
pub made : (s : State) → Reached s → Made s
made s r = subst Made r.reached (made_run r.calls fresh made_fresh)

-- ---- the line of an account, and the port that has its turn

-- Each account's line stands as it may.
pub standing_of : (s : State) → Made s → (i : ℕ) → Standing (line_of i s)
standing_of s m i =
    let at = place_of i s.rooms in
    record {
      known = line_each (λ (port : ℕ). port ≤ 3) s.rooms at m.known;
      once = line_once s.rooms at m.once;
      turn = line_right at s m.turns;
    }

-- What holds of each port holds of one that is among them.
some_each : (P : ℕ → Type 0) (port : ℕ) (l : List ℕ) → some (of_port port) l ≡ true → Each P l → P port
unfolding some
some_each P port [] e h = absurd (true≢false (sym e))
some_each P port (x ∷ l) e h = by (eqb x port) refl e (some_each P port l)
  where
    by : (b : Bool) → eqb x port ≡ b → (b || some (of_port port) l) ≡ true → (some (of_port port) l ≡ true → Each P l → P port) → P port
    by true f e ih = subst P (eqb-true x port f) h.0
    by false f e ih = ih e h.1

module _ (p i : ℕ) (s : State) (m : Made s) where
  -- A port in the line of an account: the account is there, the port is one of the four, in line, and that is where it stands.
  pub stands_for : stands_in p (line_of i s) ≡ true
      → (is_there i s ≡ true) × (p ≤ 3) × (waits p s ≡ true) × (stands_at p s.rooms ≡ place_of i s.rooms)
  stands_for e =
      let inside = line_in p s.rooms (place_of i s.rooms) e in (
        stands_there p i s m.idle e,
        some_each (λ (port : ℕ). port ≤ 3) p (in_lines s.rooms) inside m.known,
        waits_in p s ∙ inside,
        stands_once p (place_of i s.rooms) s.rooms m.once e,
      )

  -- So of the port that has the turn.
  pub turn_there : HasTurn p i s → (is_there i s ≡ true) × (p ≤ 3) × (waits p s ≡ true) × (stands_at p s.rooms ≡ place_of i s.rooms)
  turn_there t = stands_for (front_stands p (line_of i s) t)

  -- The account that it waits for is that one, and it is in front.
  pub turn_room : HasTurn p i s → own_room p s ≡ held_of i s
  turn_room t = ap (λ (k : ℕ). room_at k s) (turn_there t).3

  -- The account that it waits for is that one.
  pub turn_account : HasTurn p i s → own_account p s ≡ account_of i s
  turn_account t = ap (λ (held : Held). held.account) (turn_room t)

  -- It is in front of its own line.
  pub turn_has : HasTurn p i s → has_turn p s ≡ true
  turn_has t = ap (λ (held : Held). is_front p (front_of held.line)) (turn_room t) ∙ t

-- R-4: "a port is still in one line at most".
pub one_line : (s : State) → Made s → (port i j : ℕ) → stands_in port (line_of i s) ≡ true → stands_in port (line_of j s) ≡ true → i ≡ j
one_line s m port i j e f =
    let own = stands_for port i s m e in
    let other = stands_for port j s m f in
    sym (placed_id i s.rooms (there_parts i s.rooms own.0).1)
    ∙ ap (λ (k : ℕ). (room_at k s).account.id) (sym own.3 ∙ other.3)
    ∙ placed_id j s.rooms (there_parts j s.rooms other.0).1

-- The other way: who is in front of its own line has the turn for the account that it waits for.
pub has_turn_lem : (p : ℕ) (s : State) → Made s → has_turn p s ≡ true → HasTurn p (own_account p s).id s × ((own_account p s).id ≡ 0 → ⊥)
unfolding some
has_turn_lem p s m e =
    let used : (own_account p s).id ≡ 0 → ⊥ = λ z.
    let bare = each_get Idle s.rooms (stands_at p s.rooms) free_room m.idle (λ f. refl) z in
    true≢false (sym e ∙ ap (λ (w : Waiting). is_front p (front_of w)) bare) in
    let place = placed_own s.rooms (stands_at p s.rooms) (apart_once s.rooms m.apart) used in
    (ap (λ (k : ℕ). is_front p (front_of (room_at k s).line)) place ∙ e, used)
