-- Joining, leaving and ticks keep a line's turn right, and who isn't in line out of it.
use Rattle.std.specs.Prelude.{ℕ, ◌-◌, ◌≡◌, refl, Bool, true, false, cond, ◌||◌, List, [], ◌∷◌, ◌++◌, eqb}
use Rattle.std.proofs.Common.{arith, ap₂, ◌∙◌}
use Rattle.std.proofs.lemmas.Bool.{eqb-false}
use Rattle.text.specs.Tests.{either}
use Rattle.line.specs.Line.{Waiting, of_port, some, start, turn_joined, joined, others, turn_without, left, ticked_turn, ticked}
use Rattle.reached.specs.Made.{TurnRight}
use Rattle.reached.specs.LinesChanged.{none_each, each_none, some_append, Fewer}

-- Who wasn't among them isn't among fewer.
pub none_fewer : (test : ℕ → Bool) (l m : List ℕ) → Fewer l m → some test m ≡ false → some test l ≡ false
none_fewer test l m f e = each_none test l (f.each (λ (x : ℕ). test x ≡ false) (none_each test m e))

-- ---- a port leaves

-- The turn with which the next one begins.
turn_start : (l : List ℕ) → TurnRight l (start l)
turn_start [] = refl
turn_start (x ∷ l) = (omega arith, omega arith)

-- Whoever leaves, the turn stays right: it goes on, or the next one begins.
turn_without_lem : (gone : ℕ → Bool) (l : List ℕ) (turn : ℕ) → TurnRight l turn → TurnRight (others gone l) (turn_without gone l turn)
unfolding others turn_without
turn_without_lem gone [] turn h = h
turn_without_lem gone (x ∷ l) turn h = by (gone x)
  where
    by : (b : Bool) → TurnRight (cond b (others gone l) (x ∷ others gone l)) (cond b (start (others gone l)) turn)
    by true = turn_start (others gone l)
    by false = h

-- The turn of a line that a port leaves.
pub turn-left : (port : ℕ) (w : Waiting) → TurnRight w.ports w.turn → TurnRight (left port w).ports (left port w).turn
unfolding left
turn-left port w h = turn_without_lem (of_port port) w.ports w.turn h

-- ---- a port joins

-- Who wasn't among them, and isn't the one that comes, isn't among them then.
pub none_joined : (test : ℕ → Bool) (l : List ℕ) (port : ℕ) → some test l ≡ false → test port ≡ false → some test (l ++ port ∷ []) ≡ false
none_joined test l port e f =
    some_append test l (port ∷ []) ∙ ap₂ (λ (a b : Bool). a || b) e (each_none test (port ∷ []) (f, tt))

-- The turn goes on, or the one that comes begins.
turn_append : (l : List ℕ) (port turn : ℕ) → TurnRight l turn → TurnRight (l ++ port ∷ []) (turn_joined l turn)
turn_append [] port turn h = (omega arith, omega arith)
turn_append (x ∷ l) port turn h = h

-- The turn of a line that a port joins.
pub turn-joined : (port : ℕ) (w : Waiting) → TurnRight w.ports w.turn → TurnRight (joined port w).ports (joined port w).turn
turn-joined port w h = turn_append w.ports port w.turn h

-- ---- a tick

-- The turn of a line over a tick.
pub turn-ticked : (w : Waiting) → TurnRight w.ports w.turn → TurnRight (ticked w).ports (ticked w).turn
unfolding ticked
turn-ticked w h = by w.ports h
  where
    by : (l : List ℕ) → TurnRight l w.turn → TurnRight (ticked_turn l w.turn).ports (ticked_turn l w.turn).turn
    by [] h = h
    by (x ∷ l) h =
        either (λ (v : Waiting). TurnRight v.ports v.turn) (eqb (w.turn - 1) 0)
        (λ e. turn_start l)
        (λ e. let to = h.1 in (omega (arith, eqb-false (w.turn - 1) 0 e), omega arith))
