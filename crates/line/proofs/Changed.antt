-- A change of all places is a change of each account's line.
use Prim.Native.Nat.{ℕ, ◌-◌}
use mathlib.Core.Path.{◌≡◌, refl, sym, ap, ap₂, ◌∙◌}
use mathlib.Core.Bool.{Bool, true, false, cond, not, ◌||◌, not-not}
use mathlib.Core.List.{List, [], ◌∷◌, ◌++◌}
use borrow.Author.Tests.{eqb-true, ltb-true, ltb-false, eq-eqb, ne_eqb}
use native.Mathlib.Omega.{arith}
use lib.Dec.{eqb, ltb}
use Rattle.line.specs.declared.Place.{Place}
use Rattle.line.specs.Line.{Waiting, empty, of_port, start, started, others, turn_without, left, ticked, is_for, ports_for, turn_for, line_for}
use Rattle.line.specs.Inside.{room_in, taken, stays, step, changed, is_of, same, is_for_room, runs_out, less}
use Rattle.line.specs.Laws.{line_of, turn_none}
use Rattle.line.proofs.Taken.{taken_last}

-- A line with one port more in front.
abbrev ahead : ℕ → ℕ → Waiting → Waiting
ahead port turn w = line_of (port ∷ w.ports) turn

-- What a change makes of a line, from who leaves it in front, by port and turn, and who behind the front.
abbrev changed_line : (ℕ → ℕ → Bool) → (ℕ → Bool) → (ℕ → ℕ) → List ℕ → ℕ → Waiting
changed_line front_gone behind_gone after [] turn = line_of [] turn
changed_line front_gone behind_gone after (port ∷ ports) turn =
    let w = started (others behind_gone ports) in
    cond (front_gone port turn) w (ahead port (after turn) w)

module _ (room : ℕ) where
  -- A place of another room, given up or not.
  another : (b : Bool) (p : Place) (l : List Place) → is_for room p ≡ false → line_for room (cond b [] (p ∷ []) ++ l) ≡ line_for room l
  unfolding ports_for turn_for
  another true p l e = refl
  another false p l e = ap (λ (b : Bool). line_of (cond b (p.port ∷ ports_for room l) (ports_for room l)) (cond b p.turn (turn_for room l))) e

  -- A place of the room.
  own : (b : Bool) (p : Place) (l : List Place) → is_for room p ≡ true
      → line_for room (cond b [] (p ∷ []) ++ l) ≡ cond b (line_for room l) (ahead p.port p.turn (line_for room l))
  unfolding ports_for turn_for
  own true p l e = refl
  own false p l e = ap (λ (b : Bool). line_of (cond b (p.port ∷ ports_for room l) (ports_for room l)) (cond b p.turn (turn_for room l))) e

module _ (gone : Bool → Place → Bool) (after : ℕ → ℕ) (room : ℕ) where
  -- The room's line from a place of the room on, which is in front or not.
  from_own : (before l : List Place) (p : Place) (front : Bool) → is_for room p ≡ true → taken room before ≡ not front
      → line_for room (step gone after before p ++ l)
      ≡ cond (gone front p) (line_for room l) (ahead p.port (cond front (after p.turn) 60) (line_for room l))
  from_own before l p front e t =
      let f : not (taken (room_in p) before) ≡ front = ap (λ (k : ℕ). not (taken k before)) (eqb-true (room_in p) room e) ∙ ap not t ∙ not-not front in
      ap (λ (f : Bool). line_for room (cond (gone f p) [] (stays f (after p.turn) p ∷ []) ++ l)) f
      ∙ own room (gone front p) (stays front (after p.turn) p) l e

  from_another : (before l : List Place) (p : Place) → is_for room p ≡ false → line_for room (step gone after before p ++ l) ≡ line_for room l
  from_another before l p e =
      let front = not (taken (room_in p) before) in
      another room (gone front p) (stays front (after p.turn) p) l e

  -- In the room's line the change goes by the port, and in front by the turn too.
  module _ (front_gone : ℕ → ℕ → Bool) (behind_gone : ℕ → Bool)
      (front-gone : (p : Place) → room_in p ≡ room → gone true p ≡ front_gone p.port p.turn)
      (behind-gone : (p : Place) → room_in p ≡ room → gone false p ≡ behind_gone p.port) where
    -- Behind the room's front those that stay have their whole turn before them.
    behind : (before l : List Place) → taken room before ≡ true
        → line_for room (changed gone after before l) ≡ started (others behind_gone (ports_for room l))
    unfolding changed others ports_for turn_for
    behind before [] t = refl
    behind before (p ∷ l) t =
        by (is_for room p) refl (behind (before ++ p ∷ []) l (taken_last room before p ∙ ap (λ (b : Bool). b || is_for room p) t))
      where
        put : (b : Bool) (w : Waiting) (ports : List ℕ) → w ≡ started ports → cond b w (ahead p.port 60 w) ≡ started (cond b ports (p.port ∷ ports))
        put true w ports e = e
        put false w ports e = ap (ahead p.port 60) e

        by : (b : Bool) → is_for room p ≡ b
            → line_for room (changed gone after (before ++ p ∷ []) l) ≡ started (others behind_gone (ports_for room l))
            → line_for room (step gone after before p ++ changed gone after (before ++ p ∷ []) l)
            ≡ started (others behind_gone (cond b (p.port ∷ ports_for room l) (ports_for room l)))
        by true e ih =
            let rest = line_for room (changed gone after (before ++ p ∷ []) l) in
            from_own before (changed gone after (before ++ p ∷ []) l) p false e t
            ∙ ap (λ (b : Bool). cond b rest (ahead p.port 60 rest)) (behind-gone p (eqb-true (room_in p) room e))
            ∙ put (behind_gone p.port) rest (others behind_gone (ports_for room l)) ih
        by false e ih = from_another before (changed gone after (before ++ p ∷ []) l) p e ∙ ih

    from_front : (before l : List Place) → taken room before ≡ false
        → line_for room (changed gone after before l) ≡ changed_line front_gone behind_gone after (ports_for room l) (turn_for room l)
    unfolding changed ports_for turn_for
    from_front before [] t = refl
    from_front before (p ∷ l) t = by (is_for room p) refl (from_front (before ++ p ∷ []) l)
      where
        next : (b : Bool) → is_for room p ≡ b → taken room (before ++ p ∷ []) ≡ b
        next b e = taken_last room before p ∙ ap (λ (b : Bool). b || is_for room p) t ∙ e

        by : (b : Bool) → is_for room p ≡ b
            → (taken room (before ++ p ∷ []) ≡ false
            → line_for room (changed gone after (before ++ p ∷ []) l) ≡ changed_line front_gone behind_gone after (ports_for room l) (turn_for room l))
            → line_for room (step gone after before p ++ changed gone after (before ++ p ∷ []) l)
            ≡ changed_line front_gone behind_gone after (cond b (p.port ∷ ports_for room l) (ports_for room l)) (cond b p.turn (turn_for room l))
        by true e ih =
            from_own before (changed gone after (before ++ p ∷ []) l) p true e t
            ∙ ap₂ (λ (b : Bool) (w : Waiting). cond b w (ahead p.port (after p.turn) w))
            (front-gone p (eqb-true (room_in p) room e)) (behind (before ++ p ∷ []) l (next true e))
        by false e ih = from_another before (changed gone after (before ++ p ∷ []) l) p e ∙ ih (next false e)

    line_changed : (l : List Place) → line_for room (changed gone after [] l) ≡ changed_line front_gone behind_gone after (ports_for room l) (turn_for room l)
    unfolding taken
    line_changed l = from_front [] l refl

-- ---- each of the changes

none_gone : (l : List ℕ) → others (λ (_ : ℕ). false) l ≡ l
unfolding others
none_gone [] = refl
none_gone (p ∷ l) = ap (λ (t : List ℕ). p ∷ t) (none_gone l)

all_gone : (l : List ℕ) → others (λ (_ : ℕ). true) l ≡ []
unfolding others
all_gone [] = refl
all_gone (p ∷ l) = all_gone l

leave_line : (port : ℕ) (ports : List ℕ) (turn : ℕ) → changed_line (λ q turn. eqb q port) (of_port port) same ports turn ≡ left port (line_of ports turn)
unfolding left others turn_without
leave_line port [] turn = refl
leave_line port (q ∷ ports) turn = by (eqb q port)
  where
    by : (b : Bool) → let rest = others (of_port port) ports in cond b (started rest) (line_of (q ∷ rest) turn)
        ≡ line_of (cond b rest (q ∷ rest)) (cond b (start rest) turn)
    by true = refl
    by false = refl

-- A turn ends with its last tick.
last_tick : (turn : ℕ) → ltb turn 2 ≡ eqb (turn - 1) 0
last_tick turn = by (ltb turn 2) refl
  where
    by : (b : Bool) → ltb turn 2 ≡ b → b ≡ eqb (turn - 1) 0
    by true e = let h = ltb-true turn 2 e in sym (eq-eqb (turn - 1) 0 (omega arith))
    by false e = let h = ltb-false turn 2 e in sym (ne_eqb (turn - 1) 0 (λ z. omega arith))

tick_line : (ports : List ℕ) (turn : ℕ) → changed_line (λ q turn. ltb turn 2) (λ q. false) less ports turn ≡ ticked (line_of ports turn)
unfolding ticked
tick_line [] turn = refl
tick_line (q ∷ ports) turn =
    ap₂ (λ (b : Bool) (l : List ℕ). cond b (started l) (line_of (q ∷ l) (turn - 1))) (last_tick turn) (none_gone ports)

-- Of an account that is removed or not.
remove_line : (b : Bool) (ports : List ℕ) (turn : ℕ) → (ports ≡ [] → turn ≡ 0)
    → changed_line (λ q turn. b) (λ q. b) same ports turn ≡ cond b empty (line_of ports turn)
remove_line true [] turn z = ap (line_of []) (z refl)
remove_line false [] turn z = refl
remove_line true (q ∷ ports) turn z = ap started (all_gone ports)
remove_line false (q ∷ ports) turn z = ap (λ (l : List ℕ). line_of (q ∷ l) turn) (none_gone ports)

-- A port leaves each line, in which it may be or not.
pub changed_leave : (port room : ℕ) (l : List Place) → line_for room (changed (is_of port) same [] l) ≡ left port (line_for room l)
changed_leave port room l =
    line_changed (is_of port) same room (λ q turn. eqb q port) (of_port port) (λ p e. refl) (λ p e. refl) l
    ∙ leave_line port (ports_for room l) (turn_for room l)

-- One room's line is emptied.
pub changed_remove : (at room : ℕ) (l : List Place) →
    line_for room (changed (is_for_room at) same [] l) ≡ cond (eqb room at) empty (line_for room l)
changed_remove at room l =
    line_changed (is_for_room at) same room (λ q turn. eqb room at) (λ q. eqb room at)
    (λ p e. ap (λ (k : ℕ). eqb k at) e) (λ p e. ap (λ (k : ℕ). eqb k at) e) l
    ∙ remove_line (eqb room at) (ports_for room l) (turn_for room l) (turn_none room l)

-- A tick passes for each line.
pub changed_tick : (room : ℕ) (l : List Place) → line_for room (changed runs_out less [] l) ≡ ticked (line_for room l)
changed_tick room l =
    line_changed runs_out less room (λ q turn. ltb turn 2) (λ q. false) (λ p e. refl) (λ p e. refl) l
    ∙ tick_line (ports_for room l) (turn_for room l)
