-- A port that comes to the front of a line has a whole turn before it, whatever brought it there.
use Rattle.std.specs.Prelude.{ℕ, ◌-◌, ◌≡◌, refl, Bool, ◌||◌, eqb}
use Rattle.std.proofs.Common.{sym, ◌∙◌, true≢false}
use Rattle.std.proofs.Math.Bool.{true, false, cond}
use mathlib.Core.List.{List, [], ◌∷◌, ◌++◌}
use Rattle.text.specs.Tests.{cases}
use Rattle.line.specs.Line as Line
use Rattle.line.specs.Line.{Waiting, of_port, some, stands_in, first, front_of, start, started, turn_joined, others, turn_without, ticked_turn}
use Rattle.table.specs.Table.{is_front}
use Rattle.reached.specs.Calls.{Call}
use Rattle.grounds.specs.Moved.{Moved}

module _ (p : ℕ) where
  -- Who begins begins at 60.
  front_start : (l : List ℕ) → is_front p (first l) ≡ true → start l ≡ 60
  front_start [] h = absurd (true≢false (sym h))
  front_start (x ∷ l) h = refl

  -- Somebody leaves.
  starts_others : (gone : ℕ → Bool) (l : List ℕ) (turn : ℕ) → is_front p (first l) ≡ false → is_front p (first (others gone l)) ≡ true
      → turn_without gone l turn ≡ 60
  unfolding others turn_without
  starts_others gone [] turn n h = absurd (true≢false (sym h))
  starts_others gone (x ∷ l) turn n h = by (gone x) h
    where
      by : (t : Bool) → is_front p (first (cond t (others gone l) (x ∷ others gone l))) ≡ true → cond t (start (others gone l)) turn ≡ 60
      by true h = front_start (others gone l) h
      by false h = absurd (true≢false (sym h ∙ n))

  -- Somebody comes.
  starts_append : (port : ℕ) (l : List ℕ) (turn : ℕ) → is_front p (first l) ≡ false → is_front p (first (l ++ port ∷ [])) ≡ true
      → turn_joined l turn ≡ 60
  starts_append port [] turn n h = refl
  starts_append port (x ∷ l) turn n h = absurd (true≢false (sym h ∙ n))

  -- A tick passes.
  starts_ticked : (l : List ℕ) (turn : ℕ) → is_front p (first l) ≡ false → is_front p (front_of (ticked_turn l turn)) ≡ true
      → (ticked_turn l turn).turn ≡ 60
  starts_ticked [] turn n h = absurd (true≢false (sym h))
  starts_ticked (x ∷ l) turn n h = by (eqb (turn - 1) 0) h
    where
      by : (t : Bool) → is_front p (front_of (cond t (started l) (record { ports = x ∷ l; turn = turn - 1 }))) ≡ true
          → (cond t (started l) (record { ports = x ∷ l; turn = turn - 1 })).turn ≡ 60
      by true h = front_start l h
      by false h = absurd (true≢false (sym h ∙ n))

  -- A port that joins and is in front at once.
  pub starts_joined : (port : ℕ) (w : Waiting) → is_front p (front_of w) ≡ false → is_front p (front_of (Line.joined port w)) ≡ true
      → (Line.joined port w).turn ≡ 60
  starts_joined port w n h = starts_append port w.ports w.turn n h

  -- Any call.
  pub starts_moved : (c : Call) (i : ℕ) (w : Waiting) {w' : Waiting} → Moved c i w w' → is_front p (front_of w) ≡ false → is_front p (front_of w') ≡ true
      → w'.turn ≡ 60
  unfolding Line.left Line.ticked
  starts_moved c i w (Moved.stood z) n h = absurd (true≢false (sym h ∙ n))
  starts_moved c i w (Moved.gone z port spares) n h = starts_others (of_port port) w.ports w.turn n h
  starts_moved c i w (Moved.come z port known absent b) n h = starts_joined port w n h
  starts_moved c i w (Moved.emptied z spares) n h = absurd (true≢false (sym h))
  starts_moved c i w (Moved.ticked z) n h = starts_ticked w.ports w.turn n h

-- Who isn't in line isn't in front, and who is in front is in line.
pub out_behind : (p : ℕ) (w : Waiting) → stands_in p w ≡ false → is_front p (front_of w) ≡ false
unfolding some
out_behind p w h = by w.ports h
  where
    by : (l : List ℕ) → some (of_port p) l ≡ false → is_front p (first l) ≡ false
    by [] h = refl
    by (x ∷ l) h = go (of_port p x) h
      where
        go : (t : Bool) → (t || some (of_port p) l) ≡ false → t ≡ false
        go true h = absurd (true≢false h)
        go false h = refl

pub front_stands : (p : ℕ) (w : Waiting) → is_front p (front_of w) ≡ true → stands_in p w ≡ true
front_stands p w e = cases (stands_in p w) (λ t. t) (λ f. absurd (true≢false (sym e ∙ out_behind p w f)))
