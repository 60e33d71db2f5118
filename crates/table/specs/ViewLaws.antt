-- What a table's bytes mean, law by law: each room's account and line, and the table with another account, with other older seeds or other lines.
use Prim.Native.Nat.{ℕ, zero, suc, ◌+◌, ◌≤◌, ◌<◌}
use Rattle.std.specs.Prelude.{◌≡◌, Bool, ltb, get_or, set}
use Rattle.std.proofs.Math.Path.{refl, ap, ap₂}
use Rattle.std.proofs.Common.{sym, ◌∙◌, eq-eqb, ne_eqb, ltb-true, ltb-false}
use Rattle.std.proofs.Math.Bool.{true, false, cond}
use mathlib.Core.List.{List, [], ◌∷◌, map}
use native.Mathlib.Omega.{arith}
use Rattle.std.proofs.Math.ListN.{length, length-append, get_or-eq_default}
use Rattle.password.specs.declared.algorithm.Algorithm.{Algorithm}
use Rattle.line.specs.declared.Lines.{Lines}
use Rattle.line.specs.Line.{Waiting, stands_in, into, room_from, waiting, waiting_in}
use Rattle.line.specs.Line as line
use Rattle.line.specs.Laws.{past_rooms, waiting_from, all_waiting}
use Rattle.accounts.specs.declared.Account.{Account}
use Rattle.accounts.specs.Rooms.{Room, part_of, room_of}
use Rattle.table.specs.declared.Table.{Table}
use Rattle.table.specs.Table.{
  Held,
  free_room,
  held_from,
  view,
  room_at,
  in_lines,
  stands_at,
  waits,
  with_account,
  with_line,
  lined,
  each_line,
}

-- What is read past the end of the accounts.
abbrev pub blank : Account
blank = record { id = 0; algorithm = Algorithm.Md5; seed = []; len = 0; count = 0; older_count = 0; password = 0 }

-- ---- the rooms from room k on, with these older seeds and lines

module _ (parts : ℕ → List ℕ) (lines : ℕ → Waiting) where
  held_length : (k : ℕ) (l : List Account) → length (held_from k l parts lines) ≡ length l
  unfolding held_from
  held_length k [] = refl
  held_length k (a ∷ l) = ap suc (held_length (suc k) l)

  -- Each room's account, and a free one past the last; each room's line.
  pub held_account : (k : ℕ) (l : List Account) (i room : ℕ) → room ≡ k + i
      → (get_or (held_from k l parts lines) i free_room).account ≡ room_of (get_or l i blank) (parts room)
  unfolding held_from
  held_account k [] i room e = refl
  held_account k (a ∷ l) zero room e = ap (λ (r : ℕ). room_of a (parts r)) (omega arith)
  held_account k (a ∷ l) (suc i) room e = held_account (suc k) l i room (omega arith)

  held_line : (k : ℕ) (l : List Account) (i room : ℕ) → i < length l → room ≡ k + i → (get_or (held_from k l parts lines) i free_room).line ≡ lines room
  unfolding held_from
  held_line k [] i room h e = absurd (omega arith)
  held_line k (a ∷ l) zero room h e = ap lines (omega arith)
  held_line k (a ∷ l) (suc i) room h e = held_line (suc k) l i room (omega arith) (omega arith)

  -- Another account in a room, whose line stays.
  pub held_set : (k : ℕ) (l : List Account) (i room : ℕ) (a : Account) → room ≡ k + i
      → held_from k (set l i a) parts lines
      ≡ set (held_from k l parts lines) i (record { account = room_of a (parts room); line = (get_or (held_from k l parts lines) i free_room).line })
  unfolding held_from
  held_set k [] i room a e = refl
  held_set k (b ∷ l) zero room a e = ap (λ (r : ℕ). record { account = room_of a (parts r); line = lines k } ∷ held_from (suc k) l parts lines) (omega arith)
  held_set k (b ∷ l) (suc i) room a e =
      ap (λ (t : List Held). record { account = room_of b (parts k); line = lines k } ∷ t) (held_set (suc k) l i room a (omega arith))

  -- A change of every line.
  held_changed : (change : Waiting → Waiting) (k : ℕ) (l : List Account)
      → held_from k l parts (λ room. change (lines room)) ≡ map (lined change) (held_from k l parts lines)
  unfolding held_from
  held_changed change k [] = refl
  held_changed change k (a ∷ l) =
      ap (λ (t : List Held). record { account = room_of a (parts k); line = change (lines k) } ∷ t) (held_changed change (suc k) l)

  -- The line of a room before the first is another.
  held_before : (w : Waiting) (k : ℕ) (l : List Account) (room : ℕ) → room < k → held_from k l parts (into room w lines) ≡ held_from k l parts lines
  unfolding held_from
  held_before w k [] room h = refl
  held_before w k (a ∷ l) room h =
      ap₂ (λ (b : Bool) (t : List Held). record { account = room_of a (parts k); line = cond b w (lines k) } ∷ t)
      (ne_eqb k room (λ same. omega arith)) (held_before w (suc k) l room (omega arith))

  -- The line of one of the rooms is another.
  held_into : (w : Waiting) (k : ℕ) (l : List Account) (i room : ℕ) → room ≡ k + i
      → held_from k l parts (into room w lines)
      ≡ set (held_from k l parts lines) i (record { account = (get_or (held_from k l parts lines) i free_room).account; line = w })
  unfolding held_from
  held_into w k [] i room e = refl
  held_into w k (a ∷ l) zero room e =
      ap₂ (λ (b : Bool) (t : List Held). record { account = room_of a (parts k); line = cond b w (lines k) } ∷ t)
      (eq-eqb k room (omega arith)) (held_before w (suc k) l room (omega arith))
  held_into w k (a ∷ l) (suc i) room e =
      ap₂ (λ (b : Bool) (t : List Held). record { account = room_of a (parts k); line = cond b w (lines k) } ∷ t)
      (ne_eqb k room (λ same. omega arith)) (held_into w (suc k) l i room (omega arith))

  -- The first room in whose line a port stands.
  held_stands : (port k : ℕ) (l : List Account) → room_from port k (length l) lines ≡ k + stands_at port (held_from k l parts lines)
  unfolding held_from stands_at room_from
  held_stands port k [] = omega arith
  held_stands port k (a ∷ l) = by (stands_in port (lines k)) _ _ (held_stands port (suc k) l)
    where
      by : (b : Bool) (m n : ℕ) → m ≡ suc k + n → cond b k m ≡ k + cond b 0 (suc n)
      by true m n e = omega arith
      by false m n e = omega arith

  -- How many wait in all.
  held_waiting : (k : ℕ) (l : List Account) → length (in_lines (held_from k l parts lines)) ≡ waiting_from k (length l) lines
  unfolding held_from in_lines waiting_from
  held_waiting k [] = refl
  held_waiting k (a ∷ l) =
      length-append (lines k).ports (in_lines (held_from (suc k) l parts lines)) ∙ ap (λ (n : ℕ). length (lines k).ports + n) (held_waiting (suc k) l)

-- ---- the rooms with other older seeds

module _ (lines : ℕ → Waiting) (parts parts' : ℕ → List ℕ) where
  -- From room k on they are the same.
  held_parts : (k : ℕ) (l : List Account) → ((room : ℕ) → k ≤ room → parts' room ≡ parts room) → held_from k l parts' lines ≡ held_from k l parts lines
  unfolding held_from
  held_parts k [] f = refl
  held_parts k (a ∷ l) f =
      ap₂ (λ (part : List ℕ) (t : List Held). record { account = room_of a part; line = lines k } ∷ t) (f k (omega arith))
      (held_parts (suc k) l (λ room h. f room (omega arith)))

  -- A line doesn't go by them.
  held_line_same : (k : ℕ) (l : List Account) (i : ℕ) → (get_or (held_from k l parts' lines) i free_room).line
      ≡ (get_or (held_from k l parts lines) i free_room).line
  unfolding held_from
  held_line_same k [] i = refl
  held_line_same k (a ∷ l) zero = refl
  held_line_same k (a ∷ l) (suc i) = held_line_same (suc k) l i

  -- All but those of one room are the same, and that room is another.
  held_elsewhere : (k : ℕ) (l : List Account) (i : ℕ) (held : Held) → ((room : ℕ) → (room ≡ k + i → ⊥) → parts' room ≡ parts room)
      → set (held_from k l parts' lines) i held ≡ set (held_from k l parts lines) i held
  unfolding held_from
  held_elsewhere k [] i held f = refl
  held_elsewhere k (a ∷ l) zero held f = ap (λ (t : List Held). held ∷ t) (held_parts (suc k) l (λ room h. f room (λ e. omega arith)))
  held_elsewhere k (a ∷ l) (suc i) held f =
      ap₂ (λ (part : List ℕ) (t : List Held). record { account = room_of a part; line = lines k } ∷ t) (f k (λ e. omega arith))
      (held_elsewhere (suc k) l i held (λ room g. f room (λ e. g (omega arith))))

-- The same of a table.
pub older_elsewhere : (t : Table) (older older' : List ℕ) (place : ℕ) (account : Room)
    → ((room : ℕ) → (room ≡ place → ⊥) → part_of older' room ≡ part_of older room)
    → with_account place account (view t older') ≡ with_account place account (view t older)
older_elsewhere t older older' place account f =
    let line = held_line_same (waiting t.lines) (part_of older) (part_of older') 0 t.rooms place in
    λ i. record {
      rooms = (ap (λ (w : Waiting). set (view t older').rooms place (record { account = account; line = w })) line
          ∙ held_elsewhere (waiting t.lines) (part_of older) (part_of older') 0 t.rooms place
          (record { account = account; line = (room_at place (view t older)).line }) (λ room g. f room (λ e. g (omega arith)))) i;
      ports = t.ports;
    }

-- ---- a table with other lines

module _ (t : Table) (older : List ℕ) (lines : Lines) where
  -- Every line is changed.
  pub lines_changed : (change : Waiting → Waiting) → waiting lines ≡ (λ room. change (waiting t.lines room))
      → held_from 0 t.rooms (part_of older) (waiting lines) ≡ (each_line change (view t older)).rooms
  lines_changed change e = ap (held_from 0 t.rooms (part_of older)) e ∙ held_changed (part_of older) (waiting t.lines) change 0 t.rooms

  -- One room's line is another.
  pub line_set : (room : ℕ) (w : Waiting) → waiting lines ≡ into room w (waiting t.lines)
      → held_from 0 t.rooms (part_of older) (waiting lines) ≡ (with_line room w (view t older)).rooms
  line_set room w e = ap (held_from 0 t.rooms (part_of older)) e ∙ held_into (part_of older) (waiting t.lines) w 0 t.rooms room room (omega arith)

-- ---- a table of 32 rooms

module _ (t : Table) (older : List ℕ) (all : length t.rooms ≡ 32) where
  pub rooms-32 : length (view t older).rooms ≡ 32
  rooms-32 = held_length (part_of older) (waiting t.lines) 0 t.rooms ∙ all

  -- Each room's line; past the last room there is none.
  pub line_at : (room : ℕ) → (room_at room (view t older)).line ≡ waiting t.lines room
  line_at room = by (ltb room 32) refl
    where
      by : (b : Bool) → ltb room 32 ≡ b → (room_at room (view t older)).line ≡ waiting t.lines room
      by true e = held_line (part_of older) (waiting t.lines) 0 t.rooms room room (omega (arith, ltb-true)) (omega arith)
      by false e =
          ap (λ (held : Held). held.line) (get_or-eq_default (view t older).rooms free_room {n = room} (omega (arith, ltb-false, rooms-32)))
          ∙ sym (past_rooms room (waiting_in t.lines) (omega (arith, ltb-false)))

  -- The room in whose line a port stands.
  pub stands_at_lem : (port : ℕ) → line.room_for port (waiting t.lines) ≡ stands_at port (view t older).rooms
  stands_at_lem port =
      ap (λ (n : ℕ). room_from port 0 n (waiting t.lines)) (sym all)
      ∙ omega (arith, held_stands (part_of older) (waiting t.lines) port 0 t.rooms)

  pub waits_at : (port : ℕ) → ltb (line.room_for port (waiting t.lines)) 32 ≡ waits port (view t older)
  waits_at port = ap₂ ltb (stands_at_lem port) (sym rooms-32)

  -- How many wait in all.
  pub all_in_line : length (in_lines (view t older).rooms) ≡ length (waiting_in t.lines)
  all_in_line =
      held_waiting (part_of older) (waiting t.lines) 0 t.rooms
      ∙ ap (λ (n : ℕ). waiting_from 0 n (waiting t.lines)) all
      ∙ all_waiting (waiting_in t.lines)
