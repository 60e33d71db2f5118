-- What the room of an account holds when another room has changed, its own, or every line; and the lines of accounts that aren't there.
use Prim.Native.Nat.{ℕ, zero, suc, ◌≤◌, ◌<◌}
use Rattle.std.proofs.Common.{arith, sym, ◌∙◌, true≢false, eqb-true, eq-eqb, ne_eqb, ltb-true, ltb-false, le-ltb, get_or-set_same, get_or-set_other}
use Rattle.std.specs.Prelude.{◌≡◌, Bool, true, false, not, ◌&&◌, eqb, length, get_or, set}
use Rattle.std.proofs.Math.Path.{refl, ap}
use Rattle.std.proofs.Math.Bool.{cond}
use mathlib.Core.List.{List, [], ◌∷◌, map}
use Rattle.std.proofs.Math.Option.{none, some}
use Rattle.std.proofs.lemmas.Bool.{not-false}
use Rattle.std.proofs.Math.ListN.{get_or-eq_default}
use Rattle.text.specs.Tests.{cases}
use Rattle.line.specs.Line as Line
use Rattle.line.specs.Line.{Waiting, empty, stands_in}
use Rattle.accounts.specs.Rooms.{Room}
use Rattle.table.specs.Table.{
  State,
  Held,
  free_room,
  place_of,
  holds,
  is_there,
  room_at,
  held_of,
  account_of,
  line_of,
  stands_at,
  own_account,
  with_room,
  with_account,
  with_line,
  lined,
}
use Rattle.table.specs.Steps.{leaves, accepted}
use Rattle.table.specs.HeldLaws.{account_there_lem}
use Rattle.refusal.specs.Each.{Each, each_get}
use Rattle.reached.specs.Made.{Idle}
use Rattle.reached.specs.Equal.{times}
use Rattle.reached.specs.RoomsFound.{is, OneEach, holds-times, placed_id, times-set, account_by_lem, set_here}
use Rattle.reached.specs.RoomsChanged.{there_parts, other_same, same_changed}
use Rattle.line.specs.Laws.{left-empty}
use Rattle.reached.specs.LinesChanged.{lined_place, lined_at}

-- What stands in the first room with that id.
abbrev pub found : ℕ → List Held → Held
found i rooms = get_or rooms (place_of i rooms) free_room

-- Where no room has the id, nothing is found.
pub found_free : (i : ℕ) (rooms : List Held) → holds i rooms ≡ false → found i rooms ≡ free_room
found_free i rooms e = get_or-eq_default rooms free_room (ltb-false (place_of i rooms) (length rooms) e)

-- ---- every line changes

-- What was found, with its line changed.
pub found-lined : (change : Waiting → Waiting) → change empty ≡ empty → (i : ℕ) (rooms : List Held)
    → found i (map (lined change) rooms) ≡ lined change (found i rooms)
found-lined change e i rooms =
    ap (λ (k : ℕ). get_or (map (lined change) rooms) k free_room) (lined_place change i rooms) ∙ lined_at change e rooms (place_of i rooms)

-- ---- the account leaves its room

module _ (i : ℕ) (rooms : List Held) (once : OneEach rooms) (there : (not (eqb i 0) && holds i rooms) ≡ true) where
  -- No room has its id then, and nothing is found.
  pub gone_holds : holds i (set rooms (place_of i rooms) free_room) ≡ false
  gone_holds =
      let parts = there_parts i rooms there in
      let was : is (found i rooms).account.id i ≡ 1 = ap (λ (b : Bool). cond b 1 0) (eq-eqb _ i (placed_id i rooms parts.1)) in
      let free : is 0 i ≡ 0 = ap (λ (b : Bool). cond b 1 0) (ne_eqb 0 i (λ e. parts.0 (sym e))) in
      holds-times i (set rooms (place_of i rooms) free_room)
      ∙ le-ltb 0 (times i (set rooms (place_of i rooms) free_room))
      (omega (arith, times-set free_room i rooms (place_of i rooms) parts.1, once i parts.0))

  -- A free room is what is found then.
  pub gone_free : found i (set rooms (place_of i rooms) free_room) ≡ free_room
  gone_free = found_free i (set rooms (place_of i rooms) free_room) gone_holds

-- ---- an account comes to a free room

-- Of an id that no room has: what was put there is found.
pub new_found : (rooms : List Held) (held : Held) → holds 0 rooms ≡ true → holds held.account.id rooms ≡ false
    → found held.account.id (set rooms (place_of 0 rooms) held) ≡ held
new_found rooms held room new = by (holds id changed) refl (sym (account_by_lem id changed) ∙ set_here held rooms (place_of 0 rooms) inside before)
  where
    id : ℕ
    id = held.account.id

    changed : List Held
    changed = set rooms (place_of 0 rooms) held

    inside : place_of 0 rooms < length rooms
    inside = ltb-true (place_of 0 rooms) (length rooms) room

    before : place_of 0 rooms ≤ place_of held.account.id rooms
    before = omega (arith, inside, ltb-false (place_of held.account.id rooms) (length rooms) new)

    by : (b : Bool) → holds id changed ≡ b → cond b (some (found id changed)) none ≡ some held → found id changed ≡ held
    by true e f = cc
    by false e f = let z : ◌≡◌ {A = ℕ} 0 1 = cc in absurd (omega arith)

-- ---- the account in a room becomes another with the same id

module _ (next : Room) where
  -- The rooms then.
  abbrev pub in_room : ℕ → List Held → List Held
  in_room k rooms = set rooms k (record { account = next; line = (get_or rooms k free_room).line })

  -- Each account stands where it stood.
  pub place_kept : (i k : ℕ) (rooms : List Held) → next.id ≡ (get_or rooms k free_room).account.id → place_of i (in_room k rooms) ≡ place_of i rooms
  unfolding place_of
  place_kept i k [] e = refl
  place_kept i zero (x ∷ rooms) e = ap (λ (j : ℕ). cond (eqb j i) 0 (suc (place_of i rooms))) e
  place_kept i (suc k) (x ∷ rooms) e = ap (λ (n : ℕ). cond (eqb x.account.id i) 0 (suc n)) (place_kept i k rooms e)

  -- Each room has its line.
  pub line_kept : (j k : ℕ) (rooms : List Held) → (get_or (in_room k rooms) j free_room).line ≡ (get_or rooms j free_room).line
  line_kept j k [] = refl
  line_kept zero zero (x ∷ rooms) = refl
  line_kept (suc j) zero (x ∷ rooms) = refl
  line_kept zero (suc k) (x ∷ rooms) = refl
  line_kept (suc j) (suc k) (x ∷ rooms) = line_kept j k rooms

  -- Each account has its line.
  pub found-line : (i k : ℕ) (rooms : List Held) → next.id ≡ (get_or rooms k free_room).account.id → (found i (in_room k rooms)).line ≡ (found i rooms).line
  found-line i k rooms e =
      ap (λ (j : ℕ). (get_or (in_room k rooms) j free_room).line) (place_kept i k rooms e) ∙ line_kept (place_of i rooms) k rooms

  -- The accounts of the other rooms are as they were.
  pub found_other : (i k : ℕ) (rooms : List Held) → next.id ≡ (get_or rooms k free_room).account.id → (place_of i rooms ≡ k → ⊥)
      → found i (in_room k rooms) ≡ found i rooms
  found_other i k rooms e n =
      ap (λ (j : ℕ). get_or (in_room k rooms) j free_room) (place_kept i k rooms e) ∙ get_or-set_other rooms k (place_of i rooms) _ free_room n

-- ---- accounts that aren't there

-- An account that isn't there has an empty line: nobody waits in a free room.
pub absent_line : (i : ℕ) (s : State) → Each Idle s.rooms → is_there i s ≡ false → line_of i s ≡ empty
absent_line i s h e =
    each_get Idle s.rooms (place_of i s.rooms) free_room h (λ z. refl)
    (eqb-true (held_of i s).account.id 0 (not-false (eqb (held_of i s).account.id 0) (account_there_lem i s.rooms ∙ e)))

-- So who is in line waits for an account that is there.
pub stands_there : (p i : ℕ) (s : State) → Each Idle s.rooms → stands_in p (line_of i s) ≡ true → is_there i s ≡ true
unfolding Line.some
stands_there p i s h e = cases (is_there i s) (λ t. t) (λ f. absurd (true≢false (sym e ∙ ap (stands_in p) (absent_line i s h f))))

-- ---- what the calls put in the rooms of accounts

module _ (i : ℕ) (s : State) where
  -- Another account is enrolled.
  pub enrolled_other : (room : Room) → (i ≡ 0 → ⊥) → (room.id ≡ i → ⊥) → held_of i (with_account (place_of 0 s.rooms) room s) ≡ held_of i s
  enrolled_other room g n = other_same i 0 s.rooms (record { account = room; line = (room_at (place_of 0 s.rooms) s).line }) g n

  -- Another is removed.
  pub removed_other : (id : ℕ) → (i ≡ 0 → ⊥) → (id ≡ i → ⊥) → held_of i (with_room (place_of id s.rooms) free_room s) ≡ held_of i s
  removed_other id g n = other_same i id s.rooms free_room (λ e. n (sym e)) (λ e. g (sym e))

  -- Another gets another line.
  pub lined_other : (id : ℕ) (w : Waiting) → is_there id s ≡ true → (id ≡ i → ⊥) → held_of i (with_line (place_of id s.rooms) w s) ≡ held_of i s
  lined_other id w t n =
      other_same i id s.rooms (record { account = account_of id s; line = w }) (λ e. n (sym e))
      (λ e. n (sym (placed_id id s.rooms (there_parts id s.rooms t).1) ∙ e))

  -- The account's own line becomes another.
  pub lined_own : (w : Waiting) → is_there i s ≡ true → held_of i (with_line (place_of i s.rooms) w s) ≡ record { account = account_of i s; line = w }
  lined_own w t =
      let inside = (there_parts i s.rooms t).1 in
      same_changed i s.rooms (record { account = account_of i s; line = w }) (placed_id i s.rooms inside) inside

  -- A port leaves all lines.
  pub left_held : (port : ℕ) → held_of i (leaves port s) ≡ lined (Line.left port) (held_of i s)
  left_held port = found-lined (Line.left port) (left-empty port) i s.rooms

  -- The account in whose line the port stands becomes another with its id, and the port leaves.
  pub accepted_line : (port : ℕ) (next : Room) → next.id ≡ (own_account port s).id
      → line_of i (accepted port next s).state ≡ Line.left port (line_of i s)
  accepted_line port next e =
      ap (λ (held : Held). held.line) (found-lined (Line.left port) (left-empty port) i (in_room next (stands_at port s.rooms) s.rooms))
      ∙ ap (Line.left port) (found-line next i (stands_at port s.rooms) s.rooms e)

  -- The account i is in another room: only the port leaves, if it is in its line.
  pub accepted_other : (port : ℕ) (next : Room) → next.id ≡ (own_account port s).id → (place_of i s.rooms ≡ stands_at port s.rooms → ⊥)
      → held_of i (accepted port next s).state ≡ lined (Line.left port) (held_of i s)
  accepted_other port next e n =
      found-lined (Line.left port) (left-empty port) i (in_room next (stands_at port s.rooms) s.rooms)
      ∙ ap (lined (Line.left port)) (found_other next i (stands_at port s.rooms) s.rooms e n)

  -- The account i is in that room.
  pub accepted_own : (port : ℕ) (next : Room) → next.id ≡ (own_account port s).id → stands_at port s.rooms < length s.rooms
      → place_of i s.rooms ≡ stands_at port s.rooms → held_of i (accepted port next s).state ≡ record { account = next; line = Line.left port (line_of i s) }
  accepted_own port next e inside own =
      let at = stands_at port s.rooms in
      found-lined (Line.left port) (left-empty port) i (in_room next at s.rooms)
      ∙ ap (lined (Line.left port))
      (ap (λ (j : ℕ). get_or (in_room next at s.rooms) j free_room) (place_kept next i at s.rooms e ∙ own)
      ∙ get_or-set_same s.rooms at (record { account = next; line = (room_at at s).line }) free_room inside
      ∙ ap (λ (j : ℕ). record { account = next; line = (room_at j s).line }) (sym own))
