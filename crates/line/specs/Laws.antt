-- Laws of lines: who starts with which turn when somebody joins, leaves or a tick passes, and that the rooms' lines hold all who wait; and
-- some of lists.
use Prim.Native.Nat.{ℕ, zero, suc, ◌+◌, ◌-◌, ◌%◌, ◌≤◌, ◌<◌}
use Rattle.std.specs.Prelude.{◌≡◌, Bool, cond, ◌||◌, List, [], ◌∷◌, map, take, ltb, Some, None}
use Rattle.std.proofs.Math.Path.{refl, ap₂}
use Rattle.std.proofs.Common.{sym, ap, ◌∙◌, true≢false}
use Rattle.std.proofs.Math.Bool.{true, false}
use borrow.Author.Tests.{eq-eqb, ne_eqb, eqb-true, eqb-false, ltb-false}
use native.Mathlib.Omega.{arith}
use Rattle.std.proofs.Math.ListN.{length}
use Rattle.std.proofs.lemmas.List.{length-map}
use Rattle.std.specs.Option.{unwrap_or}
use Rattle.line.specs.declared.Place.{Place}
use Rattle.line.specs.Line.{
  Waiting,
  empty,
  of_port,
  some,
  first,
  front_of,
  start,
  started,
  joined,
  others,
  turn_without,
  left,
  ticked,
  stands_in,
  room_from,
  room_for,
  room_found,
  is_for,
  ports_for,
  turn_for,
  line_for,
}

-- The length of an array of structs, from that of its rows: what is known of such a field where a function starts.
pub unmapped {ℓ ℓ'} : {A : Type ℓ} {B : Type ℓ'} (f : A → B) (l : List A) (n : ℕ) → length (map f l) ≡ n → length l ≡ n
unmapped f l n e = sym (length-map l f) ∙ e

-- A part at the front, taken by its own length.
take_count : {A : Type 0} (k : ℕ) (l : List A) → take (length (take k l)) l ≡ take k l
take_count zero l = refl
take_count (suc k) [] = refl
take_count (suc k) (a ∷ l) = ap (λ (t : List _). a ∷ t) (take_count k l)

-- The first n are all that are taken, if that is how many they are.
pub all_taken : {A : Type 0} (n k : ℕ) (l : List A) → n ≡ length (take k l) → take n l ≡ take k l
all_taken n k l e = ap (λ (m : ℕ). take m l) e ∙ take_count k l

-- A line from its ports and its turn.
abbrev pub line_of : List ℕ → ℕ → Waiting
line_of ports turn = record { ports = ports; turn = turn }

-- ---- leaving

-- Where nobody leaves, all stay.
pub all_stay : (gone : ℕ → Bool) (l : List ℕ) → some gone l ≡ false → others gone l ≡ l
unfolding some others
all_stay gone [] h = refl
all_stay gone (x ∷ l) h = by (gone x) h (all_stay gone l)
  where
    by : (b : Bool) → (b || some gone l) ≡ false → (some gone l ≡ false → others gone l ≡ l)
        → cond b (others gone l) (x ∷ others gone l) ≡ x ∷ l
    by true h k = absurd (true≢false h)
    by false h k = ap (λ (m : List ℕ). x ∷ m) (k h)

pub left-empty : (port : ℕ) → left port empty ≡ empty
unfolding left others turn_without
left-empty port = refl

-- "Whenever the front port leaves, for any reason, the next one starts at 60"; "while the line is empty the turn stands at 0".
pub next_starts : (port : ℕ) (w : Waiting) → front_of w ≡ Some port → (left port w).turn ≡ start (left port w).ports
unfolding left others turn_without
next_starts port w e = by w.ports w.turn e
  where
    by : (l : List ℕ) (turn : ℕ) → first l ≡ Some port → (left port (line_of l turn)).turn ≡ start (left port (line_of l turn)).ports
    by [] turn e = let z : ◌≡◌ {A = ℕ} 0 1 = cc in absurd (omega arith)
    by (q ∷ l) turn e = let same : q ≡ port = cc in rw (eq-eqb q port same)

-- The turn goes on where the front port stays.
pub front_goes_on : (port other : ℕ) (w : Waiting) → front_of w ≡ Some other → (other ≡ port → ⊥) → (left port w).turn ≡ w.turn
unfolding left others turn_without
front_goes_on port other w e n = by w.ports w.turn e
  where
    by : (l : List ℕ) (turn : ℕ) → first l ≡ Some other → (left port (line_of l turn)).turn ≡ turn
    by [] turn e = let z : ◌≡◌ {A = ℕ} 0 1 = cc in absurd (omega arith)
    by (q ∷ l) turn e = let same : q ≡ other = cc in rw (ne_eqb q port (λ m. n (sym same ∙ m)))

-- ---- a tick

pub ticked_none : (w : Waiting) → front_of w ≡ None → ticked w ≡ w
unfolding ticked
ticked_none w e = by w.ports w.turn e
  where
    by : (l : List ℕ) (turn : ℕ) → first l ≡ None → ticked (line_of l turn) ≡ line_of l turn
    by [] turn e = refl
    by (q ∷ l) turn e = let z : ◌≡◌ {A = ℕ} 0 1 = cc in absurd (omega arith)

pub ticked-empty : ticked empty ≡ empty
ticked-empty = ticked_none empty refl

-- "at 0 the front port leaves": in a line in which it doesn't stand twice.
pub tick_leaves : (port turn : ℕ) (l : List ℕ) → turn < 2 → some (of_port port) l ≡ false
    → ticked (line_of (port ∷ l) turn) ≡ left port (line_of (port ∷ l) turn)
unfolding ticked left others turn_without
tick_leaves port turn l h e =
    let last : turn - 1 ≡ 0 = omega arith in
    let stay = all_stay (of_port port) l e in
    rw (eq-eqb (turn - 1) 0 last, eq-eqb port port refl) (ap started (sym stay))

-- The next one starts then.
pub tick_starts : (w : Waiting) (port : ℕ) → front_of w ≡ Some port → w.turn < 2 → (ticked w).turn ≡ start (ticked w).ports
unfolding ticked
tick_starts w port e h = by w.ports w.turn e h
  where
    by : (l : List ℕ) (turn : ℕ) → first l ≡ Some port → turn < 2 → (ticked (line_of l turn)).turn ≡ start (ticked (line_of l turn)).ports
    by [] turn e h = let z : ◌≡◌ {A = ℕ} 0 1 = cc in absurd (omega arith)
    by (q ∷ l) turn e h = let last : turn - 1 ≡ 0 = omega arith in rw (eq-eqb (turn - 1) 0 last)

-- Any other tick: the turn falls, and nobody leaves.
pub tick_goes_on : (w : Waiting) (port : ℕ) → front_of w ≡ Some port → 2 ≤ w.turn → ticked w ≡ line_of w.ports (w.turn - 1)
unfolding ticked
tick_goes_on w port e h = by w.ports w.turn e h
  where
    by : (l : List ℕ) (turn : ℕ) → first l ≡ Some port → 2 ≤ turn → ticked (line_of l turn) ≡ line_of l (turn - 1)
    by [] turn e h = let z : ◌≡◌ {A = ℕ} 0 1 = cc in absurd (omega arith)
    by (q ∷ l) turn e h = rw (ne_eqb (turn - 1) 0 (λ z. omega arith))

-- ---- joining

-- "A port that joins an empty line starts at 60 at once."
pub joins_empty : (port turn : ℕ) → joined port (line_of [] turn) ≡ line_of (port ∷ []) 60
joins_empty port turn = refl

-- ---- the rooms

-- "while the line is empty the turn stands at 0"
pub turn_none : (room : ℕ) (l : List Place) → ports_for room l ≡ [] → turn_for room l ≡ 0
unfolding ports_for turn_for
turn_none room [] e = refl
turn_none room (p ∷ l) e = by (is_for room p) (turn_none room l) e
  where
    by : (b : Bool) → (ports_for room l ≡ [] → turn_for room l ≡ 0)
        → cond b (p.port ∷ ports_for room l) (ports_for room l) ≡ [] → cond b p.turn (turn_for room l) ≡ 0
    by true ih e = let z : ◌≡◌ {A = ℕ} 0 1 = cc in absurd (omega arith)
    by false ih e = ih e

-- There are 32 rooms.
pub past_rooms : (room : ℕ) (l : List Place) → 32 ≤ room → line_for room l ≡ empty
unfolding ports_for turn_for
past_rooms room [] h = refl
past_rooms room (p ∷ l) h =
    ap (λ (b : Bool). line_of (cond b (p.port ∷ ports_for room l) (ports_for room l)) (cond b p.turn (turn_for room l)))
    (ne_eqb (p.room % 32) room (λ e. omega arith))
    ∙ past_rooms room l h

-- A room behind them, where the port stands in none of their lines.
room_bound : (port k n : ℕ) (lines : ℕ → Waiting) → room_from port k n lines ≤ k + n
unfolding room_from
room_bound port k zero lines = omega arith
room_bound port k (suc n) lines = by (stands_in port (lines k)) (room_bound port (suc k) n lines)
  where
    by : (b : Bool) → room_from port (suc k) n lines ≤ suc k + n → cond b k (room_from port (suc k) n lines) ≤ k + suc n
    by true h = omega arith
    by false h = omega arith

-- The room that is found, or the one behind them.
pub found_or_past : (port : ℕ) (lines : ℕ → Waiting) → unwrap_or (room_found port lines) 32 ≡ room_for port lines
found_or_past port lines = by (ltb (room_for port lines) 32) refl
  where
    by : (b : Bool) → ltb (room_for port lines) 32 ≡ b → unwrap_or (cond b (Some (room_for port lines)) None) 32 ≡ room_for port lines
    by true e = refl
    by false e = let past = ltb-false (room_for port lines) 32 e in let bound = room_bound port 0 32 lines in omega arith

-- How many wait in the lines of n rooms, from room k on.
unfoldable pub waiting_from : ℕ → ℕ → (ℕ → Waiting) → ℕ
waiting_from k zero lines = 0
waiting_from k (suc n) lines = length (lines k).ports + waiting_from (suc k) n lines

module _ (p : Place) (l : List Place) where
  -- A place is for none of the rooms behind its own.
  counted_before : (k n : ℕ) → p.room % 32 < k → waiting_from k n (λ room. line_for room (p ∷ l)) ≡ waiting_from k n (λ room. line_for room l)
  unfolding waiting_from ports_for
  counted_before k zero h = refl
  counted_before k (suc n) h =
      ap₂ (λ (b : Bool) (rest : ℕ). length (cond b (p.port ∷ ports_for k l) (ports_for k l)) + rest)
      (ne_eqb (p.room % 32) k (λ e. omega arith)) (counted_before (suc k) n (omega arith))

  -- It is for one of them.
  counted_once : (k n : ℕ) → k ≤ p.room % 32 → p.room % 32 < k + n
      → waiting_from k n (λ room. line_for room (p ∷ l)) ≡ suc (waiting_from k n (λ room. line_for room l))
  unfolding waiting_from ports_for
  counted_once k zero h g = absurd (omega arith)
  counted_once k (suc n) h g = by (is_for k p) refl (λ h. counted_once (suc k) n h (omega arith))
    where
      by : (b : Bool) → is_for k p ≡ b
          → (suc k ≤ p.room % 32 → waiting_from (suc k) n (λ room. line_for room (p ∷ l)) ≡ suc (waiting_from (suc k) n (λ room. line_for room l)))
          → length (cond b (p.port ∷ ports_for k l) (ports_for k l)) + waiting_from (suc k) n (λ room. line_for room (p ∷ l))
          ≡ suc (length (ports_for k l) + waiting_from (suc k) n (λ room. line_for room l))
      by true e ih = let same = eqb-true (p.room % 32) k e in let rest = counted_before (suc k) n (omega arith) in omega arith
      by false e ih = let other = eqb-false (p.room % 32) k e in let rest = ih (omega arith) in omega arith

-- Whoever waits, waits in the line of one of the 32 rooms.
pub all_waiting : (l : List Place) → waiting_from 0 32 (λ room. line_for room l) ≡ length l
unfolding waiting_from ports_for
all_waiting [] = refl
all_waiting (p ∷ l) = counted_once p l 0 32 (omega arith) (omega arith) ∙ ap suc (all_waiting l)
