-- How any call can move the line of an account: it stands, a port leaves it, a port comes to its back, it is emptied, or a tick passes.
use Rattle.std.specs.Prelude.{ℕ, ◌≤◌, ◌≡◌, refl, Bool, true, false, not, ◌&&◌, ltb, length}
use Rattle.std.proofs.Math.Decide.{ℕ_discrete}
use Rattle.std.proofs.Common.{sym, ap, ◌∙◌, subst, ne_eqb}
use Rattle.text.specs.Tests.{either}
use Rattle.line.specs.Line as Line
use Rattle.line.specs.Line.{Waiting, empty, of_port, stands_in}
use Rattle.accounts.specs.Rooms.{Room}
use Rattle.table.specs.Table.{State, Held, free_room, place_of, holds, is_there, room_at, held_of, line_of, in_lines, waits, with_room, with_account, with_line}
use Rattle.table.specs.Steps as Steps
use Rattle.reached.specs.Calls.{Call}
use Rattle.reached.specs.InTurn.{tick_of}
use Rattle.reached.specs.Outcome.{Outcome, NotBy, NotFor}
use Rattle.reached.specs.Made.{Made}
use Rattle.reached.specs.RoomsFound.{apart_once}
use Rattle.line.specs.Laws.{ticked-empty}
use Rattle.reached.specs.LinesChanged.{waits_in, line_fewer}
use Rattle.grounds.specs.Standing.{none_fewer}
use Rattle.grounds.specs.HeldAfter.{
  found-lined,
  gone_free,
  new_found,
  absent_line,
  enrolled_other,
  removed_other,
  lined_other,
  lined_own,
  left_held,
  accepted_line,
}

-- The line of the account i. A port that leaves or comes is none that is quiet then; if the line is emptied, the call removes the account.
pub data Moved (c : Call) (i : ℕ) (w : Waiting) : Waiting → Type 0 where
  stood : tick_of c ≡ 0 → Moved c i w w
  gone : tick_of c ≡ 0 → (port : ℕ) → NotBy c port → Moved c i w (Line.left port w)
  come : tick_of c ≡ 0 → (port : ℕ) → port ≤ 3 → stands_in port w ≡ false → NotBy c port → Moved c i w (Line.joined port w)
  emptied : tick_of c ≡ 0 → NotFor c i → Moved c i w empty
  ticked : tick_of c ≡ 1 → Moved c i w (Line.ticked w)

-- What it has become, in other words.
become : (c : Call) (i : ℕ) (w : Waiting) {v v' : Waiting} → v ≡ v' → Moved c i w v → Moved c i w v'
become c i w e m = subst (Moved c i w) e m

-- Of what a room holds.
abbrev line : Held → Waiting
line held = held.line

-- Who is in no line isn't in this one.
pub waits_nowhere : (port i : ℕ) (s : State) → waits port s ≡ false → stands_in port (line_of i s) ≡ false
waits_nowhere port i s e =
    none_fewer (of_port port) (line_of i s).ports (in_lines s.rooms) (line_fewer s.rooms (place_of i s.rooms)) (sym (waits_in port s) ∙ e)

-- An account that comes is found, on any table, with the line that the free room had.
pub new_there : (room : Room) (s : State) → (room.id ≡ 0 → ⊥) → is_there room.id s ≡ false → holds 0 s.rooms ≡ true
    → held_of room.id (with_account (place_of 0 s.rooms) room s) ≡ record { account = room; line = (room_at (place_of 0 s.rooms) s).line }
new_there room s n t f =
    let absent : holds room.id s.rooms ≡ false = sym (ap (λ (b : Bool). not b && holds room.id s.rooms) (ne_eqb room.id 0 n)) ∙ t in
    new_found s.rooms (record { account = room; line = (room_at (place_of 0 s.rooms) s).line }) f absent

-- In tables that calls make that line is empty, as it was while the account wasn't there.
pub new_held : (room : Room) (s : State) → Made s → (room.id ≡ 0 → ⊥) → is_there room.id s ≡ false → holds 0 s.rooms ≡ true
    → held_of room.id (with_account (place_of 0 s.rooms) room s) ≡ record { account = room; line = empty }
new_held room s m n t f = new_there room s n t f ∙ ap (λ (w : Waiting). record { account = room; line = w }) (absent_line 0 s m.idle refl)

-- Every call, on a table that calls make.
pub moved : (c : Call) (s : State) {s' : State} → Made s → Outcome c s s' → (i : ℕ) → (i ≡ 0 → ⊥) → Moved c i (line_of i s) (line_of i s')
unfolding Steps.tick Steps.joins
moved c s m (Outcome.nothing z) i g = Moved.stood z
moved c s m (Outcome.enrolled z room a n t f) i g = by (ℕ_discrete room.id i)
  where
    by : Dec (room.id ≡ i) → Moved c i (line_of i s) (line_of i (with_account (place_of 0 s.rooms) room s))
    by (yes e) =
        subst (λ (j : ℕ). Moved c j (line_of j s) (line_of j (with_account (place_of 0 s.rooms) room s))) e
        (become c room.id (line_of room.id s) (absent_line room.id s m.idle t ∙ ap line (sym (new_held room s m n t f))) (Moved.stood z))
    by (no d) = become c i (line_of i s) (ap line (sym (enrolled_other i s room g d))) (Moved.stood z)
moved c s m (Outcome.removed z id t n k o) i g = by (ℕ_discrete id i)
  where
    by : Dec (id ≡ i) → Moved c i (line_of i s) (line_of i (with_room (place_of id s.rooms) free_room s))
    by (yes e) =
        subst (λ (j : ℕ). Moved c j (line_of j s) (line_of j (with_room (place_of id s.rooms) free_room s))) e
        (become c id (line_of id s) (ap line (sym (gone_free id s.rooms (apart_once s.rooms m.apart) t))) (Moved.emptied z n))
    by (no d) = become c i (line_of i s) (ap line (sym (removed_other i s id g d))) (Moved.stood z)
moved c s m (Outcome.joined z port id k t n o b x) i g =
    either (λ (s' : State). Moved c i (line_of i s) (line_of i s')) (ltb (length (in_lines s.rooms)) 4) (λ e. by (ℕ_discrete id i)) (λ e. Moved.stood z)
  where
    by : Dec (id ≡ i) → Moved c i (line_of i s) (line_of i (with_line (place_of id s.rooms) (Line.joined port (line_of id s)) s))
    by (yes e) =
        subst (λ (j : ℕ). Moved c j (line_of j s) (line_of j (with_line (place_of id s.rooms) (Line.joined port (line_of id s)) s))) e
        (become c id (line_of id s) (ap line (sym (lined_own id s (Line.joined port (line_of id s)) t)))
        (Moved.come z port k (waits_nowhere port id s n) b))
    by (no d) = become c i (line_of i s) (ap line (sym (lined_other i s id (Line.joined port (line_of id s)) t d))) (Moved.stood z)
moved c s m (Outcome.left z port n o) i g = become c i (line_of i s) (ap line (sym (left_held i s port))) (Moved.gone z port n)
moved c s m (Outcome.accepted z port next t n o e a k x) i g =
    become c i (line_of i s) (sym (accepted_line i s port next e)) (Moved.gone z port n)
moved c s m (Outcome.rejected z port t n o) i g = become c i (line_of i s) (ap line (sym (left_held i s port))) (Moved.gone z port n)
moved c s m (Outcome.ticked z o) i g =
    become c i (line_of i s) (ap line (sym (found-lined Line.ticked ticked-empty i s.rooms))) (Moved.ticked z)
