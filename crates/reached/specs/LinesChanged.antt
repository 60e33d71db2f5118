-- All lines of a table together: who is in them, where a port stands, and what a changed line does.
use Rattle.std.specs.Prelude.{ℕ, zero, suc, ◌≤◌, ◌<◌, ◌-◌, ◌≡◌, refl, Bool, true, false, cond, ◌||◌, List, [], ◌∷◌, ◌++◌, map, eqb, ltb, length, get_or, set}
use Rattle.std.proofs.Common.{zero-le, suc-le-suc, sym, ap, ap₂, ◌∙◌, subst, true≢false, arith, not-suc-le-zero, le_of_suc-le-suc, eq-eqb, ne_eqb, eqb-true}
use Rattle.std.proofs.Common.{lt-ltb}
use Rattle.std.proofs.lemmas.Bool.{false≢true, eqb-false}
use Rattle.std.proofs.Math.Option
use Rattle.std.proofs.Math.Option.{Option}
use Rattle.std.proofs.Math.Dec.{leb-suc-suc}
use Rattle.refusal.specs.Each.{Each, each_append, each_get, each_weaker}
use Rattle.line.specs.Laws.{all_stay}
use Rattle.line.specs.Line.{Waiting, empty, of_port, some, stands_in, started, joined, others, turn_without, left, ticked}
use Rattle.accounts.specs.Rooms.{free}
use Rattle.table.specs.Table.{State, Held, free_room, place_of, line_of, in_lines, stands_at, waits, with_line, lined}
use Rattle.table.specs.Steps.{joins}
use Rattle.reached.specs.Made.{Once, Apart}
use Rattle.reached.specs.Equal.{account_by, times}
use Rattle.reached.specs.RoomsFound.{first_below, OneEach, once_apart}

-- ---- ports of one list and of two

-- No port passes the test: each fails it.
pub none_each : (test : ℕ → Bool) (l : List ℕ) → some test l ≡ false → Each (λ (x : ℕ). test x ≡ false) l
unfolding some
none_each test [] e = tt
none_each test (x ∷ l) e = by (test x) refl e (none_each test l)
  where
    by : (b : Bool) → test x ≡ b → (b || some test l) ≡ false → (some test l ≡ false → Each (λ (x : ℕ). test x ≡ false) l)
        → Each (λ (x : ℕ). test x ≡ false) (x ∷ l)
    by true f e k = absurd (true≢false e)
    by false f e k = (f, k e)

-- Each fails it: none passes.
pub each_none : (test : ℕ → Bool) (l : List ℕ) → Each (λ (x : ℕ). test x ≡ false) l → some test l ≡ false
unfolding some
each_none test [] h = refl
each_none test (x ∷ l) h = ap₂ (λ (a b : Bool). a || b) h.0 (each_none test l h.1)

-- One of two lists' ports passes the test if one of the first does or one of the second.
pub some_append : (test : ℕ → Bool) (l m : List ℕ) → some test (l ++ m) ≡ (some test l || some test m)
unfolding some
some_append test [] m = refl
some_append test (x ∷ l) m = ap (λ (b : Bool). test x || b) (some_append test l m) ∙ by (test x)
  where
    by : (b : Bool) → (b || (some test l || some test m)) ≡ ((b || some test l) || some test m)
    by true = refl
    by false = refl

-- What holds of each port of two lists holds of each of both.
pub each_parts : (P : ℕ → Type 0) (l m : List ℕ) → Each P (l ++ m) → Each P l × Each P m
each_parts P [] m h = (tt, h)
each_parts P (x ∷ l) m h = let rest = each_parts P l m h.1 in ((h.0, rest.0), rest.1)

-- What follows from two facts of each port.
each_two : (P Q R : ℕ → Type 0) → ((x : ℕ) → P x → Q x → R x) → (l : List ℕ) → Each P l → Each Q l → Each R l
each_two P Q R f [] h k = tt
each_two P Q R f (x ∷ l) h k = (f x h.0 k.0, each_two P Q R f l h.1 k.1)

-- Two ports that are different, seen from the other.
other_way : (x y : ℕ) → eqb x y ≡ false → eqb y x ≡ false
other_way x y e = ne_eqb y x (λ same. eqb-false x y e (sym same))

-- No port of the first list stands in the second.
abbrev pub Disjoint : List ℕ → List ℕ → Type 0
Disjoint l m = Each (λ (x : ℕ). some (of_port x) m ≡ false) l

-- No port stands twice in two lists together: in neither list twice, and in both none.
pub once_parts : (l m : List ℕ) → Once (l ++ m) → Once l × Once m × Disjoint l m
once_parts [] m o = (tt, o, tt)
once_parts (x ∷ l) m o =
    let rest = once_parts l m o.1 in
    let apart = each_parts (λ (y : ℕ). of_port x y ≡ false) l m (none_each (of_port x) (l ++ m) o.0) in
    ((each_none (of_port x) l apart.0, rest.0), rest.1, (each_none (of_port x) m apart.1, rest.2))

-- And so no port stands twice in them together.
pub once_append : (l m : List ℕ) → Once l → Once m → Disjoint l m → Once (l ++ m)
once_append [] m o p d = p
once_append (x ∷ l) m o p d =
    (some_append (of_port x) l m ∙ ap₂ (λ (a b : Bool). a || b) o.0 d.0, once_append l m o.1 p d.1)

-- A port of the second list isn't in the first.
pub not_before : (port : ℕ) (l m : List ℕ) → Disjoint l m → some (of_port port) m ≡ true → some (of_port port) l ≡ false
not_before port l m d e =
    each_none (of_port port) l
    (each_weaker (λ (x : ℕ). some (of_port x) m ≡ false) (λ (x : ℕ). of_port port x ≡ false)
    (λ x f. ne_eqb x port (λ same. true≢false (sym e ∙ ap (λ (p : ℕ). some (of_port p) m) (sym same) ∙ f))) l d)

-- ---- fewer ports

-- The ports l are some of the ports m, or all: what holds of each of those holds of each of these, and none is twice where none was.
pub record Fewer (l m : List ℕ) : Type 1 where
  pub each : (P : ℕ → Type 0) → Each P m → Each P l
  pub once : Once m → Once l

-- The same ports; none of them; all but the first.
pub fewer_same : (l : List ℕ) → Fewer l l
fewer_same l = record { each = λ P h. h; once = λ o. o }

pub fewer_none : (l : List ℕ) → Fewer [] l
fewer_none l = record { each = λ P h. tt; once = λ o. tt }

pub fewer_tail : (x : ℕ) (l : List ℕ) → Fewer l (x ∷ l)
fewer_tail x l = record { each = λ P h. h.1; once = λ o. o.1 }

-- Those that stay where some leave: what holds of each still does, and none is twice.
each_others : (P : ℕ → Type 0) (gone : ℕ → Bool) (l : List ℕ) → Each P l → Each P (others gone l)
unfolding others
each_others P gone [] h = tt
each_others P gone (x ∷ l) h = by (gone x) (each_others P gone l h.1)
  where
    by : (b : Bool) → Each P (others gone l) → Each P (cond b (others gone l) (x ∷ others gone l))
    by true k = k
    by false k = (h.0, k)

once_others : (gone : ℕ → Bool) (l : List ℕ) → Once l → Once (others gone l)
unfolding others
once_others gone [] o = tt
once_others gone (x ∷ l) o = by (gone x) (once_others gone l o.1)
  where
    by : (b : Bool) → Once (others gone l) → Once (cond b (others gone l) (x ∷ others gone l))
    by true k = k
    by false k = (
      each_none (of_port x) (others gone l)
          (each_others (λ (y : ℕ). of_port x y ≡ false) gone l (none_each (of_port x) l o.0)),
      k,
    )

pub fewer_others : (gone : ℕ → Bool) (l : List ℕ) → Fewer (others gone l) l
fewer_others gone l = record { each = λ P. each_others P gone l; once = once_others gone l }

-- Fewer in each of two lists, so in both together.
pub fewer_append : {l m l' m' : List ℕ} → Fewer l l' → Fewer m m' → Fewer (l ++ m) (l' ++ m')
fewer_append {l} {m} {l'} {m'} f g = record {
  each = λ P h. let parts = each_parts P l' m' h in each_append P l m (f.each P parts.0) (g.each P parts.1);
  once = λ o.
      let parts = once_parts l' m' o in
      once_append l m (f.once parts.0) (g.once parts.1)
      (each_weaker (λ (x : ℕ). some (of_port x) m' ≡ false) (λ (x : ℕ). some (of_port x) m ≡ false)
      (λ x e. each_none (of_port x) m (g.each (λ (y : ℕ). of_port x y ≡ false) (none_each (of_port x) m' e))) l
      (f.each (λ (x : ℕ). some (of_port x) m' ≡ false) parts.2));
}

-- ---- one line

-- Whether a port leaves or a tick falls, nobody comes.
pub fewer_left : (port : ℕ) (w : Waiting) → Fewer (left port w).ports w.ports
unfolding left
fewer_left port w = fewer_others (of_port port) w.ports

pub fewer_ticked : (w : Waiting) → Fewer (ticked w).ports w.ports
unfolding ticked
fewer_ticked w = by w.ports
  where
    by : (l : List ℕ) → Fewer (ticked (record { ports = l; turn = w.turn })).ports l
    by [] = fewer_same []
    by (x ∷ l) = go (eqb (w.turn - 1) 0)
      where
        go : (b : Bool) → Fewer (cond b (started l) (record { ports = x ∷ l; turn = w.turn - 1 })).ports (x ∷ l)
        go true = fewer_tail x l
        go false = fewer_same (x ∷ l)

-- A port leaves a line in which it isn't.
pub left_out : (port : ℕ) (w : Waiting) → stands_in port w ≡ false → left port w ≡ w
unfolding left turn_without
left_out port w e = λ i. record { ports = all_stay (of_port port) w.ports e i; turn = stays w.ports e i }
  where
    stays : (l : List ℕ) → some (of_port port) l ≡ false → turn_without (of_port port) l w.turn ≡ w.turn
    stays [] e = refl
    stays (x ∷ l) e = rw (none_each (of_port port) (x ∷ l) e).0

-- ---- where a port stands

-- The port is in line if it is in one of the lines.
pub stands_some : (port : ℕ) (rooms : List Held) → ltb (stands_at port rooms) (length rooms) ≡ some (of_port port) (in_lines rooms)
unfolding stands_at in_lines some
stands_some port [] = refl
stands_some port (held ∷ rooms) = by (stands_in port held.line) (stands_some port rooms) ∙ sym (some_append (of_port port) held.line.ports (in_lines rooms))
  where
    by : (b : Bool) → ltb (stands_at port rooms) (length rooms) ≡ some (of_port port) (in_lines rooms)
        → ltb (cond b 0 (suc (stands_at port rooms))) (suc (length rooms)) ≡ (b || some (of_port port) (in_lines rooms))
    by true e = first_below (length rooms)
    by false e = leb-suc-suc (suc (stands_at port rooms)) (length rooms) ∙ e

pub waits_in : (port : ℕ) (s : State) → waits port s ≡ some (of_port port) (in_lines s.rooms)
waits_in port s = stands_some port s.rooms

-- The line that is found has the port.
pub stands_found : (port : ℕ) (rooms : List Held) → stands_at port rooms < length rooms
    → stands_in port (get_or rooms (stands_at port rooms) free_room).line ≡ true
unfolding stands_at
stands_found port [] = λ h. absurd (not-suc-le-zero h)
stands_found port (held ∷ rooms) = by (stands_in port held.line) refl (stands_found port rooms)
  where
    by : (b : Bool) → stands_in port held.line ≡ b
        → (stands_at port rooms < length rooms → stands_in port (get_or rooms (stands_at port rooms) free_room).line ≡ true)
        → cond b 0 (suc (stands_at port rooms)) < suc (length rooms)
        → stands_in port (get_or (held ∷ rooms) (cond b 0 (suc (stands_at port rooms))) free_room).line ≡ true
    by true e f h = e
    by false e f h = f (le_of_suc-le-suc h)

-- A port of one line is among those of all.
pub line_in : (port : ℕ) (rooms : List Held) (k : ℕ) → stands_in port (get_or rooms k free_room).line ≡ true → some (of_port port) (in_lines rooms) ≡ true
unfolding in_lines some
line_in port [] k e = e
line_in port (held ∷ rooms) zero e =
    some_append (of_port port) held.line.ports (in_lines rooms) ∙ ap (λ (b : Bool). b || some (of_port port) (in_lines rooms)) e
line_in port (held ∷ rooms) (suc k) e =
    some_append (of_port port) held.line.ports (in_lines rooms)
    ∙ ap (λ (b : Bool). some (of_port port) held.line.ports || b) (line_in port rooms k e) ∙ or-true (some (of_port port) held.line.ports)
  where
    or-true : (b : Bool) → (b || true) ≡ true
    or-true true = refl
    or-true false = refl

-- "a port is still in one line at most": where it stands it is found.
pub stands_once : (port k : ℕ) (rooms : List Held) → Once (in_lines rooms) → stands_in port (get_or rooms k free_room).line ≡ true → stands_at port rooms ≡ k
unfolding stands_at in_lines some
stands_once port k [] o e = absurd (false≢true e)
stands_once port zero (held ∷ rooms) o e = rw e
stands_once port (suc k) (held ∷ rooms) o e =
    let parts = once_parts held.line.ports (in_lines rooms) o in
    let before = not_before port held.line.ports (in_lines rooms) parts.2 (line_in port rooms k e) in
    rw before (ap suc (stands_once port k rooms parts.1 e))

-- A line that has a port is one of the rooms'.
pub stands_inside : (port k : ℕ) (rooms : List Held) → stands_in port (get_or rooms k free_room).line ≡ true → k < length rooms
unfolding some
stands_inside port k [] e = absurd (false≢true e)
stands_inside port zero (held ∷ rooms) e = suc-le-suc zero-le
stands_inside port (suc k) (held ∷ rooms) e = suc-le-suc (stands_inside port k rooms e)

-- ---- one line of all

-- Its ports are some of all: what holds of those holds of these.
pub line_fewer : (rooms : List Held) (k : ℕ) → Fewer (get_or rooms k free_room).line.ports (in_lines rooms)
unfolding in_lines
line_fewer [] k = fewer_none []
line_fewer (held ∷ rooms) zero = record {
  each = λ P h. (each_parts P held.line.ports (in_lines rooms) h).0;
  once = λ o. (once_parts held.line.ports (in_lines rooms) o).0;
}
line_fewer (held ∷ rooms) (suc k) = let rest = line_fewer rooms k in record {
  each = λ P h. rest.each P (each_parts P held.line.ports (in_lines rooms) h).1;
  once = λ o. rest.once (once_parts held.line.ports (in_lines rooms) o).1;
}

pub line_once : (rooms : List Held) (k : ℕ) → Once (in_lines rooms) → Once (get_or rooms k free_room).line.ports
line_once rooms k = (line_fewer rooms k).once

pub line_each : (P : ℕ → Type 0) (rooms : List Held) (k : ℕ) → Each P (in_lines rooms) → Each P (get_or rooms k free_room).line.ports
line_each P rooms k = (line_fewer rooms k).each P

-- ---- lines that change

-- Every line changes, each to fewer ports.
pub lines_fewer : (change : Waiting → Waiting) → ((w : Waiting) → Fewer (change w).ports w.ports) → (rooms : List Held)
    → Fewer (in_lines (map (lined change) rooms)) (in_lines rooms)
unfolding in_lines
lines_fewer change f [] = fewer_same []
lines_fewer change f (held ∷ rooms) = fewer_append (f held.line) (lines_fewer change f rooms)

-- A room is set, whose line has fewer ports.
pub set_fewer : (rooms : List Held) (k : ℕ) (held : Held) → Fewer held.line.ports (get_or rooms k free_room).line.ports
    → Fewer (in_lines (set rooms k held)) (in_lines rooms)
unfolding in_lines
set_fewer [] k held f = fewer_same []
set_fewer (x ∷ rooms) zero held f = fewer_append f (fewer_same (in_lines rooms))
set_fewer (x ∷ rooms) (suc k) held f = fewer_append (fewer_same x.line.ports) (set_fewer rooms k held f)

-- The rooms when a port has joined the line of one.
abbrev pub joined_at : ℕ → ℕ → List Held → List Held
joined_at port k rooms = set rooms k (record { account = (get_or rooms k free_room).account; line = joined port (get_or rooms k free_room).line })

-- What holds of the port too holds of each still, and a port that was in no line isn't there twice.
pub join_each : (P : ℕ → Type 0) (port k : ℕ) (rooms : List Held) → P port → Each P (in_lines rooms) → Each P (in_lines (joined_at port k rooms))
unfolding in_lines
join_each P port k [] p h = tt
join_each P port zero (held ∷ rooms) p h =
    let parts = each_parts P held.line.ports (in_lines rooms) h in
    each_append P (held.line.ports ++ port ∷ []) (in_lines rooms) (each_append P held.line.ports (port ∷ []) parts.0 (p, tt)) parts.1
join_each P port (suc k) (held ∷ rooms) p h =
    let parts = each_parts P held.line.ports (in_lines rooms) h in
    each_append P held.line.ports (in_lines (joined_at port k rooms)) parts.0 (join_each P port k rooms p parts.1)

pub join_once : (port k : ℕ) (rooms : List Held) → some (of_port port) (in_lines rooms) ≡ false → Once (in_lines rooms)
    → Once (in_lines (joined_at port k rooms))
unfolding in_lines some
join_once port k [] e o = tt
join_once port zero (held ∷ rooms) e o =
    let l = held.line.ports in
    let m = in_lines rooms in
    let parts = once_parts l m o in
    let absent = each_parts (λ (x : ℕ). of_port port x ≡ false) l m (none_each (of_port port) (l ++ m) e) in
    once_append (l ++ port ∷ []) m
    (once_append l (port ∷ []) parts.0 (refl, tt)
    (each_weaker (λ (x : ℕ). of_port port x ≡ false) (λ (x : ℕ). some (of_port x) (port ∷ []) ≡ false)
    (λ x f. each_none (of_port x) (port ∷ []) (other_way x port f, tt)) l absent.0))
    parts.1
    (each_append (λ (x : ℕ). some (of_port x) m ≡ false) l (port ∷ []) parts.2 (each_none (of_port port) m absent.1, tt))
join_once port (suc k) (held ∷ rooms) e o =
    let l = held.line.ports in
    let m = in_lines rooms in
    let parts = once_parts l m o in
    let absent = each_parts (λ (x : ℕ). of_port port x ≡ false) l m (none_each (of_port port) (l ++ m) e) in
    once_append l (in_lines (joined_at port k rooms)) parts.0 (join_once port k rooms (each_none (of_port port) m absent.1) parts.1)
    (each_two (λ (x : ℕ). some (of_port x) m ≡ false) (λ (x : ℕ). of_port port x ≡ false)
    (λ (x : ℕ). some (of_port x) (in_lines (joined_at port k rooms)) ≡ false)
    (λ x f g. each_none (of_port x) (in_lines (joined_at port k rooms))
    (join_each (λ (y : ℕ). of_port x y ≡ false) port k rooms (other_way x port g) (none_each (of_port x) m f))) l parts.2 absent.0)

-- Of rooms whose lines change: where an account stands, what a room holds, how often an id is there, and what is found by it.
pub lined_place : (change : Waiting → Waiting) (id : ℕ) (rooms : List Held) → place_of id (map (lined change) rooms) ≡ place_of id rooms
unfolding place_of
lined_place change id [] = refl
lined_place change id (held ∷ rooms) = ap (λ (k : ℕ). cond (eqb held.account.id id) 0 (suc k)) (lined_place change id rooms)

pub lined_at : (change : Waiting → Waiting) → change empty ≡ empty → (rooms : List Held) (k : ℕ)
    → get_or (map (lined change) rooms) k free_room ≡ lined change (get_or rooms k free_room)
lined_at change e [] k = λ i. record { account = free; line = sym e i }
lined_at change e (held ∷ rooms) zero = refl
lined_at change e (held ∷ rooms) (suc k) = lined_at change e rooms k

pub lined-times : (change : Waiting → Waiting) (id : ℕ) (rooms : List Held) → times id (map (lined change) rooms) ≡ times id rooms
unfolding times
lined-times change id [] = refl
lined-times change id (held ∷ rooms) = ap (λ (n : ℕ). cond (eqb held.account.id id) (suc n) n) (lined-times change id rooms)

pub lined_by : (change : Waiting → Waiting) (id : ℕ) (rooms : List Held)
    → account_by id (map (lined change) rooms) ≡ Option.map (lined change) (account_by id rooms)
unfolding account_by
lined_by change id [] = refl
lined_by change id (held ∷ rooms) = by (eqb held.account.id id) (lined_by change id rooms)
  where
    by : (b : Bool) → account_by id (map (lined change) rooms) ≡ Option.map (lined change) (account_by id rooms)
        → cond b (Option.some (lined change held)) (account_by id (map (lined change) rooms))
        ≡ Option.map (lined change) (cond b (Option.some held) (account_by id rooms))
    by true e = refl
    by false e = e

-- ---- accounts apart

-- A room that isn't free is the one that its id finds.
pub placed_own : (rooms : List Held) (k : ℕ) → OneEach rooms → ((get_or rooms k free_room).account.id ≡ 0 → ⊥)
    → place_of (get_or rooms k free_room).account.id rooms ≡ k
unfolding place_of
placed_own rooms k o g = by rooms k (once_apart rooms o) g
  where
    by : (rooms : List Held) (k : ℕ) → Apart rooms → ((get_or rooms k free_room).account.id ≡ 0 → ⊥)
        → place_of (get_or rooms k free_room).account.id rooms ≡ k
    by [] k a g = absurd (g refl)
    by (held ∷ rooms) zero a g = rw (eq-eqb held.account.id held.account.id refl)
    by (held ∷ rooms) (suc k) a g =
        let other : held.account.id ≡ (get_or rooms k free_room).account.id → ⊥ = λ same.
        let used : held.account.id ≡ 0 → ⊥ = λ z. g (sym same ∙ z) in
        each_get (λ (x : Held). x.account.id ≡ held.account.id → ⊥) rooms k free_room (a.0 used) (λ z. used (sym z)) (sym same) in
        rw (ne_eqb held.account.id (get_or rooms k free_room).account.id other) (ap suc (by rooms k a.1 g))

-- ---- how many ports there are

-- At most one of them is a given port.
all_but_one : (k : ℕ) (l : List ℕ) → Once l → length l ≤ suc (length (others (of_port k) l))
unfolding others
all_but_one k [] o = zero-le
all_but_one k (x ∷ l) o = by (eqb x k) refl (all_but_one k l o.1)
  where
    by : (b : Bool) → eqb x k ≡ b → length l ≤ suc (length (others (of_port k) l))
        → suc (length l) ≤ suc (length (cond b (others (of_port k) l) (x ∷ others (of_port k) l)))
    by true e h =
        let none : some (of_port k) l ≡ false = subst (λ (n : ℕ). some (of_port n) l ≡ false) (eqb-true x k e) o.0 in
        rw (all_stay (of_port k) l none) (omega arith)
    by false e h = suc-le-suc h

-- None of those that leave is left.
none_left : (gone : ℕ → Bool) (l : List ℕ) → Each (λ (x : ℕ). gone x ≡ false) (others gone l)
unfolding others
none_left gone [] = tt
none_left gone (x ∷ l) = by (gone x) refl (none_left gone l)
  where
    by : (b : Bool) → gone x ≡ b → Each (λ (x : ℕ). gone x ≡ false) (others gone l)
        → Each (λ (x : ℕ). gone x ≡ false) (cond b (others gone l) (x ∷ others gone l))
    by true e h = h
    by false e h = (e, h)

-- Ports below n, none of them twice: at most n.
pub few : (n : ℕ) (l : List ℕ) → Each (λ (x : ℕ). x < n) l → Once l → length l ≤ n
few zero [] h o = zero-le
few zero (x ∷ l) h o = absurd (not-suc-le-zero h.0)
few (suc n) l h o =
    let rest = each_two (λ (x : ℕ). x < suc n) (λ (x : ℕ). of_port n x ≡ false) (λ (x : ℕ). x < n) (λ x a b. omega (arith, eqb-false x n b))
    (others (of_port n) l) ((fewer_others (of_port n) l).each (λ (x : ℕ). x < suc n) h) (none_left (of_port n) l) in
    omega (arith, all_but_one n l o, few n (others (of_port n) l) rest (once_others (of_port n) l o))

-- "Four ports, 0 to 3".
below_four : (l : List ℕ) → Each (λ (x : ℕ). x ≤ 3) l → Each (λ (x : ℕ). x < 4) l
below_four l h = each_weaker (λ (x : ℕ). x ≤ 3) (λ (x : ℕ). x < 4) (λ x g. suc-le-suc g) l h

-- At most four are in line, and three beside a port that isn't.
pub at_most_four : (l : List ℕ) → Each (λ (x : ℕ). x ≤ 3) l → Once l → length l ≤ 4
at_most_four l h o = few 4 l (below_four l h) o

pub three_others : (port : ℕ) (l : List ℕ) → port ≤ 3 → some (of_port port) l ≡ false → Each (λ (x : ℕ). x ≤ 3) l → Once l → length l ≤ 3
three_others port l k n h o = le_of_suc-le-suc (few 4 (port ∷ l) (suc-le-suc k, below_four l h) (n, o))

-- So Join finds room: no four are in line without the port.
pub joins_in : (port id : ℕ) (s : State) → port ≤ 3 → waits port s ≡ false → Each (λ (x : ℕ). x ≤ 3) (in_lines s.rooms) → Once (in_lines s.rooms)
    → joins port id s ≡ with_line (place_of id s.rooms) (joined port (line_of id s)) s
unfolding joins
joins_in port id s k n h o =
    let fit = three_others port (in_lines s.rooms) k (sym (waits_in port s) ∙ n) h o in
    rw (lt-ltb (length (in_lines s.rooms)) 4 (suc-le-suc fit))
