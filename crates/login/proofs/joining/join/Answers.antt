-- `join` meets its promise: refused as checked, or with the port at the back of the account's line.
use Prim.Native.Nat.{ℕ}
use mathlib.Core.Path.{◌≡◌, refl, sym, ap, ◌∙◌}
use mathlib.Core.Bool.{Bool, true, false, cond, not, ◌&&◌}
use mathlib.Core.List.{List}
use borrow.Author.Rules.{rules}
use borrow.Author.Tests.{ltb-false}
use native.Mathlib.Omega.{arith}
use lib.Dec.{eqb, leb, ltb}
use lib.ListN.{length}
use lib.Seq.{set_out}
use Rattle.refusal.specs.Answers.{Checked}
use Rattle.refusal.specs.Checks.{in_order}
use Rattle.line.specs.declared.Lines.{Lines}
use Rattle.line.specs.Line.{Waiting, waiting, waiting_in, into, joined, joined_in}
use Rattle.line.specs.Laws.{unmapped}
use Rattle.accounts.specs.Rooms.{Room, part_of}
use Rattle.table.specs.declared.Table.{Table}
use Rattle.table.specs.Table.{State, Held, view, held_from, room_at, account_of, port_of, in_lines, waits, with_line}
use Rattle.table.specs.ViewLaws.{rooms-32, line_at, line_set, all_in_line}
use Rattle.table.specs.HeldLaws.{account_there_lem}
use Rattle.table.specs.Steps.{join_checked, joins}
use Rattle.table.specs.StepLaws.{join-refused, join-done}
use Rattle.login.specs.Inside.{join_checks, join_found}
use Rattle.login.proofs.joining.join.Goals as goal
use Rattle.login.proofs.joining.join.Goals.{After-check_join-answer, Start}

module _ (t : Table) (older : List ℕ) (all : length t.rooms ≡ 32) (lines : Lines) (port room : ℕ) where
  abbrev with_rooms : List Held → State
  with_rooms rooms = record { rooms = rooms; ports = t.ports }

  abbrev back : State
  back = with_line room (joined port (room_at room (view t older)).line) (view t older)

  by_tests : (few inside : Bool) → ltb room 32 ≡ inside
      → waiting lines ≡ cond (few && inside) (into room (joined port (waiting t.lines room)) (waiting t.lines)) (waiting t.lines)
      → with_rooms (held_from 0 t.rooms (part_of older) (waiting lines)) ≡ cond few back (view t older)
  by_tests false inside h e = ap (λ (f : ℕ → Waiting). with_rooms (held_from 0 t.rooms (part_of older) f)) e
  by_tests true false h e =
      ap with_rooms
      (ap (held_from 0 t.rooms (part_of older)) e ∙ sym (set_out (view t older).rooms room _ (omega (arith, ltb-false room 32 h, rooms-32 t older all))))
  by_tests true true h e =
      ap with_rooms
      (line_set t older lines room (joined port (waiting t.lines room)) e
      ∙ ap (λ (w : Waiting). (with_line room (joined port w) (view t older)).rooms) (sym (line_at t older all room)))

  joined_in_lem : waiting lines ≡ joined_in port room (length (waiting_in t.lines)) (waiting t.lines)
      → with_rooms (held_from 0 t.rooms (part_of older) (waiting lines)) ≡ cond (ltb (length (in_lines (view t older).rooms)) 4) back (view t older)
  joined_in_lem e =
      by_tests (ltb (length (waiting_in t.lines)) 4) (ltb room 32) refl e
      ∙ ap (λ (n : ℕ). cond (ltb n 4) back (view t older)) (sym (all_in_line t older all))

all : (c : Start) → length c.args.table.rooms ≡ 32
all c = search (rules, unmapped)

checked : (c : After-check_join-answer) (older : List ℕ)
    → c.check_join-answer.result ≡ join_checked c.args.port c.args.id (view c.args.table older)
unfolding join_checked
checked c older =
    let a = c.args in
    let s = view a.table older in
    let account = c.account_at.ensures older ∙ ap (λ (n : ℕ). (room_at n s).account) (c.place_of-place.ensures older).0 in
    c.check_join-answer.ensures older (part_of older c.place_of-place.result)
    ∙ ap (λ (r : Room). in_order (join_found a.port r s)) account
    ∙ ap (λ (there : Bool). in_order (join_checks (leb a.port 3) there (not (waits a.port s)) (eqb (port_of a.port s).shut 0)
    (ltb 1 (account_of a.id s).count))) (account_there_lem a.id s.rooms)

pub returns-in-Err : goal.returns-in-Err
returns-in-Err c older =
    let s = view c.args.table older in
    ap (λ (k : Checked). record { answer = k; state = s }) c.in-Err.is
    ∙ sym (join-refused _ _ s _ (sym (checked (goal.at.returns-in-Err c).After-check_join-answer older) ∙ c.in-Err.is))

pub returns : goal.returns
unfolding joins
returns c older =
    let a = c.args in
    let s = view a.table older in
    let place = c.place_of-place in
    let state = joined_in_lem a.table older (all (goal.at.returns c).Start) c.join-lines.result a.port place.result c.join-lines.ensures
    ∙ ap (λ (n : ℕ). cond (ltb (length (in_lines s.rooms)) 4) (with_line n (joined a.port (room_at n s).line) s) s) (place.ensures older).0 in
    (λ i. record { answer = c.in_default.is i; state = state i })
    ∙ sym (join-done _ _ s (sym (checked (goal.at.returns c).After-check_join-answer older) ∙ c.in_default.is))
