-- Along quiet calls a waiting port comes to the front of its account's line before its ticks have passed, and then has a whole turn.
use Rattle.std.specs.Prelude.{ℕ, ◌-◌, ◌≤◌, ◌≡◌, refl, true, false, Ok}
use Rattle.std.proofs.Common.{zero-le, arith, sym, ◌∙◌, subst, true≢false}
use Rattle.std.proofs.Math.Path.{ap}
use Rattle.std.proofs.Math.Bool.{or-true}
use mathlib.Core.List.{List, [], ◌∷◌, ◌++◌}
use Rattle.text.specs.Tests.{every, cases, both}
use Rattle.line.specs.Line as Line
use Rattle.line.specs.Line.{Waiting, of_port, some, first, front_of}
use Rattle.table.specs.Table.{State, Held, fresh, line_of, is_front}
use Rattle.table.specs.Steps.{join}
use Rattle.reached.specs.Calls.{Call, after, run}
use Rattle.reached.specs.InTurn.{Reached, tick_of, ticks, quiet, quiet_meanwhile, has_turn_for, HasTurn, TurnBegins}
use Rattle.reached.proofs.Outcomes.{outcome}
use Rattle.reached.specs.RoomsChanged.{there_parts}
use Rattle.reached.specs.Made.{TurnRight, Made}
use Rattle.grounds.specs.HeldAfter.{stands_there}
use Rattle.grounds.specs.Moved.{moved}
use Rattle.grounds.specs.Isolated.{joined_held}
use Rattle.grounds.specs.Wait.{wait_of}
use Rattle.grounds.specs.WaitFalls.{Waits, waits_moved, waits_joined}
use Rattle.grounds.specs.Starts.{starts_joined, starts_moved, out_behind}
use Rattle.grounds.specs.Keeps.{made_after, standing_of, turn_there}

-- Whatever call gives a port its turn, the turn is whole.
pub turn_starts : (p i : ℕ) (c : Call) (s : State) → Made s → (HasTurn p i s → ⊥) → HasTurn p i (after c s) → (line_of i (after c s)).turn ≡ 60
turn_starts p i c s m before now =
    let given = (there_parts i (after c s).rooms (turn_there p i (after c s) (made_after c s m) now).0).0 in
    cases (has_turn_for p i s) (λ e. absurd (before e)) (λ e. starts_moved p c i (line_of i s) (moved c s m (outcome c s) i given) e now)

-- Who waits and isn't in front has at least a tick to wait.
some_wait : (p : ℕ) (l : List ℕ) (turn : ℕ) → TurnRight l turn → some (of_port p) l ≡ true → is_front p (first l) ≡ false → 1 ≤ wait_of p l turn
unfolding some wait_of
some_wait p [] turn t h n = absurd (true≢false (sym h))
some_wait p (x ∷ l) turn t h n = let from = t.0 in rw n (omega arith)

-- Where the port is in front, its turn is whole: so it is until the turn has begun.
abbrev pub WholeIfFront : ℕ → Waiting → Type 0
WholeIfFront p w = is_front p (front_of w) ≡ true → w.turn ≡ 60

-- ---- along the calls

module _ (p i : ℕ) where
  -- The port is in front.
  now_begins : (limit : ℕ) (calls : List Call) (s : State) → WholeIfFront p (line_of i s) → HasTurn p i s → TurnBegins p i limit calls s
  unfolding run ticks
  now_begins limit calls s f e = record { early = []; late = calls; parted = refl; soon = zero-le; turn = e; whole = f e }

  -- It will be, after the first call.
  later_begins : (limit : ℕ) (c : Call) (cs : List Call) (s : State) → tick_of c ≤ limit
      → TurnBegins p i (limit - tick_of c) cs (after c s) → TurnBegins p i limit (c ∷ cs) s
  unfolding run ticks
  later_begins limit c cs s k b =
      let soon = b.soon in
      record {
        early = c ∷ b.early;
        late = b.late;
        parted = ap (λ (l : List Call). c ∷ l) b.parted;
        soon = omega arith;
        turn = b.turn;
        whole = b.whole;
      }

  -- As many ticks as it waits at most: its turn begins by then.
  pub wait_ends : (calls : List Call) (limit : ℕ) (s : State) → Made s → Waits p (line_of i s) limit → WholeIfFront p (line_of i s)
      → quiet_meanwhile p i calls s ≡ true → limit ≤ ticks calls → TurnBegins p i limit calls s
  unfolding quiet_meanwhile ticks
  wait_ends [] limit s m k f q t =
      cases (has_turn_for p i s) (λ e. now_begins limit [] s f e)
      (λ e.
      let least = some_wait p (line_of i s).ports (line_of i s).turn (standing_of s m i).turn k.stands e in
      let most = k.most_wait in
      absurd (omega arith))
  wait_ends (c ∷ cs) limit s m k f q t =
      cases (has_turn_for p i s) (λ e. now_begins limit (c ∷ cs) s f e)
      (λ e.
      let halves = both (quiet p i c) (quiet_meanwhile p i cs (after c s)) (rw e at q) in
      let given = (there_parts i s.rooms (stands_there p i s m.idle k.stands)).0 in
      let did = moved c s m (outcome c s) i given in
      let next = waits_moved p i c (line_of i s) limit did halves.0 (standing_of s m i) e k in
      later_begins limit c cs s next.1
      (wait_ends cs (limit - tick_of c) (after c s) (made_after c s m) next.0 (starts_moved p c i (line_of i s) did e) halves.1 (omega arith)))

-- Calls that are all quiet are quiet meanwhile.
pub all_meanwhile : (p i : ℕ) (calls : List Call) (s : State) → every (quiet p i) calls ≡ true → quiet_meanwhile p i calls s ≡ true
unfolding every quiet_meanwhile
all_meanwhile p i [] s q = refl
all_meanwhile p i (c ∷ cs) s q =
    let halves = both (quiet p i c) (every (quiet p i) cs) q in
    rw (halves.0, all_meanwhile p i cs (after c s) halves.1) (or-true (has_turn_for p i s))

-- ---- joining

-- A port whose Join is done waits at most 180 ticks.
pub joined_waits : (p i : ℕ) (s : State) → Made s → (join p i s).answer ≡ Ok tt
    → Made (join p i s).state × Waits p (line_of i (join p i s).state) 180 × WholeIfFront p (line_of i (join p i s).state)
joined_waits p i s m e =
    let facts = joined_held p i s m e in
    let line : line_of i (join p i s).state ≡ Line.joined p (line_of i s) = ap (λ (held : Held). held.line) facts.0 in (
      made_after (Call.Join p i) s m,
      subst (λ (w : Waiting). Waits p w 180) (sym line) (waits_joined p (line_of i s) facts.1 facts.2 (standing_of s m i)),
      subst (WholeIfFront p) (sym line) (starts_joined p p (line_of i s) (out_behind p (line_of i s) facts.2)),
    )

-- ---- tables that calls make

-- Some calls, and then others.
run_append : (a b : List Call) (s : State) → run (a ++ b) s ≡ run b (run a s)
unfolding run
run_append [] b s = refl
run_append (c ∷ cs) b s = run_append cs b (after c s)

-- After more calls.
pub reached_run : (s : State) (calls : List Call) → Reached s → Reached (run calls s)
reached_run s calls r =
    record { calls = r.calls ++ calls; reached = run_append r.calls calls fresh ∙ ap (run calls) r.reached }

-- After one more.
pub reached_after : (s : State) (c : Call) → Reached s → Reached (after c s)
unfolding run
reached_after s c r = reached_run s (c ∷ []) r
