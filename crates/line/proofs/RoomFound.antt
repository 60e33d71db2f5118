-- The first room in whose line a port stands, and whether there is one; who is in front of a room's line.
use Rattle.std.proofs.Common.{◌≡◌, ℕ, zero, suc, ◌+◌, ◌≤◌, ◌<◌, min, Bool, true, false, cond, ◌||◌, eqb, ltb, List, [], ◌∷◌, Some, None}
use Rattle.std.proofs.Common.{refl, sym, ap, ap₂, ◌∙◌, arith}
use borrow.Author.Tests.{eqb-true, eqb-false, lt-ltb}
use Rattle.std.specs.List.{list_any, reduce, fold, filter, find}
use Rattle.std.specs.Option.{option_map}
use Rattle.std.specs.Prelude.{map}
use Rattle.line.specs.declared.Place.{Place}
use Rattle.line.specs.Line.{Waiting, of_port, some, first, stands_in, room_from, room_for, room_found, is_for, ports_for, line_for}
use Rattle.line.specs.Inside.{room_in}

-- Each room's line.
abbrev pub lines_of : List Place → ℕ → Waiting
lines_of l room = line_for room l

-- The first place that is for the account is in front.
pub front_found : (room : ℕ) (l : List Place) → option_map (λ p. p.port) (find (is_for room) l) ≡ first (ports_for room l)
unfolding ports_for
front_found room [] = refl
front_found room (p ∷ l) = by (is_for room p) (front_found room l)
  where
    by : (b : Bool) → option_map (λ p. p.port) (find (is_for room) l) ≡ first (ports_for room l)
        → option_map (λ p. p.port) (cond b (Some p) (find (is_for room) l)) ≡ first (cond b (p.port ∷ ports_for room l) (ports_for room l))
    by true e = refl
    by false e = e

module _ (port : ℕ) where
  abbrev pub is_of : Place → Bool
  is_of p = eqb p.port port

  -- Where nobody waits.
  none_from : (k n : ℕ) → room_from port k n (lines_of []) ≡ k + n
  unfolding room_from some ports_for
  none_from k zero = omega arith
  none_from k (suc n) = none_from (suc k) n ∙ omega arith

  -- No room before the first is it.
  past : (k n : ℕ) (l : List Place) → k ≤ room_from port k n (lines_of l)
  unfolding room_from
  past k zero l = omega arith
  past k (suc n) l = by (stands_in port (lines_of l k)) (past (suc k) n l)
    where
      by : (b : Bool) → suc k ≤ room_from port (suc k) n (lines_of l) → k ≤ cond b k (room_from port (suc k) n (lines_of l))
      by true h = omega arith
      by false h = omega arith

  module _ (p : Place) (l : List Place) where
    -- The first of n rooms, behind room k.
    abbrev after : ℕ → ℕ → List Place → ℕ
    after k n l = room_from port (suc k) n (lines_of l)

    -- Another port's place.
    another : (k n : ℕ) → is_of p ≡ false → room_from port k n (lines_of (p ∷ l)) ≡ room_from port k n (lines_of l)
    unfolding room_from some ports_for
    another k zero e = refl
    another k (suc n) e = ap₂ (λ (b : Bool) (room : ℕ). cond b k room) (by (is_for k p)) (another (suc k) n e)
      where
        by : (b : Bool) → some (of_port port) (cond b (p.port ∷ ports_for k l) (ports_for k l)) ≡ some (of_port port) (ports_for k l)
        by true = ap (λ (b : Bool). b || some (of_port port) (ports_for k l)) e
        by false = refl

    -- The port's own, in one of the rooms.
    own : (k n : ℕ) → is_of p ≡ true → k ≤ room_in p → room_in p < k + n
        → room_from port k n (lines_of (p ∷ l)) ≡ min (room_in p) (room_from port k n (lines_of l))
    unfolding room_from some ports_for
    own k zero e h g = absurd (omega arith)
    own k (suc n) e h g = by (is_for k p) refl (own (suc k) n e)
      where
        by : (b : Bool) → is_for k p ≡ b → (suc k ≤ room_in p → room_in p < suc k + n → after k n (p ∷ l) ≡ min (room_in p) (after k n l))
            → cond (some (of_port port) (cond b (p.port ∷ ports_for k l) (ports_for k l))) k (after k n (p ∷ l))
            ≡ min (room_in p) (cond (some (of_port port) (ports_for k l)) k (after k n l))
        by true f ih =
            let here = eqb-true (room_in p) k f in
            let last = past k (suc n) l in
            ap (λ (b : Bool). cond (b || some (of_port port) (ports_for k l)) k (after k n (p ∷ l))) e ∙ omega arith
        by false f ih =
            let other = eqb-false (room_in p) k f in
            let later = ih (omega arith) (omega arith) in
            at (some (of_port port) (ports_for k l)) later
          where
            at : (c : Bool) → after k n (p ∷ l) ≡ min (room_in p) (after k n l) → cond c k (after k n (p ∷ l)) ≡ min (room_in p) (cond c k (after k n l))
            at true later = omega arith
            at false later = later

  -- Who waits stands in the line of one of the rooms.
  pub in_line : (l : List Place) → list_any is_of l ≡ ltb (room_for port (lines_of l)) 32
  in_line [] = sym (ap (λ (room : ℕ). ltb room 32) (none_from 0 32))
  in_line (p ∷ l) = by (is_of p) refl (in_line l)
    where
      by : (b : Bool) → is_of p ≡ b → list_any is_of l ≡ ltb (room_for port (lines_of l)) 32
          → (b || list_any is_of l) ≡ ltb (room_for port (lines_of (p ∷ l))) 32
      by true e ih = let r = own p l 0 32 e (omega arith) (omega arith) in sym (lt-ltb _ _ (omega arith))
      by false e ih = ih ∙ sym (ap (λ (room : ℕ). ltb room 32) (another p l 0 32 e))

  -- The rooms of the port's places.
  abbrev pub rooms : List Place → List ℕ
  rooms l = map room_in (filter is_of l)

  folded : (a : ℕ) (l : List Place) → a ≤ 32 → fold min a (rooms l) ≡ min a (room_for port (lines_of l))
  folded a [] h = let none = none_from 0 32 in omega arith
  folded a (p ∷ l) h = by (is_of p) refl (λ a h. folded a l h)
    where
      by : (b : Bool) → is_of p ≡ b → ((a : ℕ) → a ≤ 32 → fold min a (rooms l) ≡ min a (room_for port (lines_of l)))
          → fold min a (map room_in (cond b (p ∷ filter is_of l) (filter is_of l))) ≡ min a (room_for port (lines_of (p ∷ l)))
      by true e ih =
          let rest = ih (min a (room_in p)) (omega arith) in
          let first = own p l 0 32 e (omega arith) (omega arith) in
          rest ∙ omega arith
      by false e ih = ih a h ∙ ap (min a) (sym (another p l 0 32 e))

  -- It is the least of them.
  pub least : (l : List Place) → reduce min (rooms l) ≡ room_found port (lines_of l)
  least [] = ap (λ (room : ℕ). cond (ltb room 32) (Some room) None) (sym (none_from 0 32))
  least (p ∷ l) = by (is_of p) refl (least l)
    where
      by : (b : Bool) → is_of p ≡ b → reduce min (rooms l) ≡ room_found port (lines_of l)
          → reduce min (map room_in (cond b (p ∷ filter is_of l) (filter is_of l))) ≡ room_found port (lines_of (p ∷ l))
      by true e ih =
          let first = own p l 0 32 e (omega arith) (omega arith) in
          ap Some (folded (room_in p) l (omega arith) ∙ sym first)
          ∙ sym (ap (λ (b : Bool). cond b (Some (room_for port (lines_of (p ∷ l)))) None) (lt-ltb _ _ (omega arith)))
      by false e ih = ih ∙ sym (ap (λ (room : ℕ). cond (ltb room 32) (Some room) None) (another p l 0 32 e))
