-- A port that waits for an account, under quiet calls: it stays in the account's line, and each tick brings its turn nearer.
use Rattle.std.specs.Prelude.{ℕ, ◌+◌, ◌-◌, ◌≤◌, ◌≡◌, refl, Bool, true, false, ◌||◌, List, [], ◌∷◌, eqb}
use Rattle.std.proofs.Common.{arith, le_refl, sym, ap, ◌∙◌, true≢false, eqb-true, eq-eqb}
use Rattle.std.proofs.Math.Bool.{or-true}
use Rattle.std.proofs.lemmas.Bool.{eqb-false}
use Rattle.text.specs.Tests.{either}
use Rattle.line.specs.Line.{Waiting, of_port, some, stands_in, first, front_of, started, turn_joined, joined, left, ticked}
use Rattle.table.specs.Table.{is_front}
use Rattle.reached.specs.Calls.{Call}
use Rattle.reached.specs.InTurn.{tick_of, quiet}
use Rattle.reached.specs.Made.{TurnRight, Standing}
use Rattle.reached.specs.LinesChanged.{some_append, three_others}
use Rattle.grounds.specs.Moved.{Moved}
use Rattle.grounds.specs.Wait.{wait_of, still_others, wait_start, wait_others, wait_append, wait_back}

-- The port stands in the line, and waits at most so many ticks.
pub record Waits (p : ℕ) (w : Waiting) (most : ℕ) : Type 0 where
  pub stands : stands_in p w ≡ true
  pub most_wait : wait_of p w.ports w.turn ≤ most

-- ---- a tick

module _ (p x : ℕ) (l : List ℕ) (turn : ℕ) (from : 1 ≤ turn) (behind : of_port p x ≡ false) (stands : some (of_port p) l ≡ true) where
  -- The port stands in the line still, and waits at least a tick less.
  abbrev Nearer : Waiting → Type 0
  Nearer w = (stands_in p w ≡ true) × (wait_of p w.ports w.turn + 1 ≤ wait_of p (x ∷ l) turn)

  -- The tick ends the turn of the one in front.
  turn_over : turn - 1 ≡ 0 → Nearer (started l)
  unfolding wait_of
  turn_over last = let next = wait_start p l in (stands, rw behind (omega arith))

  -- It doesn't.
  turn_goes_on : Nearer (record { ports = x ∷ l; turn = turn - 1 })
  unfolding some wait_of
  turn_goes_on = (rw behind stands, rw behind (omega arith))

  -- Either way.
  tick_nearer : Nearer (ticked (record { ports = x ∷ l; turn = turn }))
  unfolding ticked
  tick_nearer = either Nearer (eqb (turn - 1) 0) (λ e. turn_over (eqb-true (turn - 1) 0 e)) (λ e. turn_goes_on)

-- Who is in line and not in front is behind.
some_tail : (p x : ℕ) (l : List ℕ) → of_port p x ≡ false → some (of_port p) (x ∷ l) ≡ true → some (of_port p) l ≡ true
unfolding some
some_tail p x l n h = rw n at h

-- ---- any quiet call

-- While the port isn't in front, it stays in line, and the ticks that are left to wait fall by those that pass.
pub waits_moved : (p i : ℕ) (c : Call) (w : Waiting) (most : ℕ) {w' : Waiting} → Moved c i w w' → quiet p i c ≡ true → Standing w
    → is_front p (front_of w) ≡ false → Waits p w most → Waits p w' (most - tick_of c) × (tick_of c ≤ most)
unfolding left some
waits_moved p i c w most (Moved.stood z) q h n k =
    let below = k.most_wait in (record { stands = k.stands; most_wait = omega arith }, omega arith)
waits_moved p i c w most (Moved.gone z port spares) q h n k =
    let below = k.most_wait in
    let less = wait_others p port (spares p i q) w.ports w.turn k.stands in
    (record { stands = (still_others p port (spares p i q) w.ports k.stands).0; most_wait = omega arith }, omega arith)
waits_moved p i c w most (Moved.come z port known absent b) q h n k =
    let below = k.most_wait in
    let less = wait_append p w.ports port w.turn k.stands in
    let stands = some_append (of_port p) w.ports (port ∷ []) ∙ ap (λ (t : Bool). t || some (of_port p) (port ∷ [])) k.stands in
    (record { stands = stands; most_wait = omega arith }, omega arith)
waits_moved p i c w most (Moved.emptied z spares) q h n k = absurd (eqb-false i i (spares p i q) refl)
waits_moved p i c w most (Moved.ticked z) q h n k = by w.ports w.turn h.turn n k.stands k.most_wait
  where
    by : (l : List ℕ) (turn : ℕ) → TurnRight l turn → is_front p (first l) ≡ false → some (of_port p) l ≡ true → wait_of p l turn ≤ most
        → Waits p (ticked (record { ports = l; turn = turn })) (most - tick_of c) × (tick_of c ≤ most)
    by [] turn t n h below = absurd (true≢false (sym h))
    by (x ∷ l) turn t n h below =
        let nearer = tick_nearer p x l turn t.0 n (some_tail p x l n h) in
        let less = nearer.1 in
        (record { stands = nearer.0; most_wait = omega arith }, omega arith)

-- ---- joining

-- A port that joins has at most 180 ticks to wait: 60 for each that it finds there.
pub waits_joined : (p : ℕ) (w : Waiting) → p ≤ 3 → stands_in p w ≡ false → Standing w → Waits p (joined p w) 180
unfolding some
waits_joined p w known absent h =
    let few = three_others p w.ports known absent h.known h.once in
    let most = wait_back p w.ports (turn_joined w.ports w.turn) (turn_low w.ports w.turn h.turn) in
    record {
      stands = some_append (of_port p) w.ports (p ∷ []) ∙ rw (eq-eqb p p refl) (or-true (some (of_port p) w.ports));
      most_wait = omega arith;
    }
  where
    turn_low : (l : List ℕ) (turn : ℕ) → TurnRight l turn → turn_joined l turn ≤ 60
    turn_low [] turn t = le_refl _
    turn_low (x ∷ l) turn t = t.1
