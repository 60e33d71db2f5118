-- `remove` meets its promise: refused where no such account is there, else its room is free and its line is empty.
use Prim.Native.Nat.{ℕ, zero, suc}
use mathlib.Core.Path.{◌≡◌, refl, sym, ap, ◌∙◌}
use mathlib.Core.Bool.{Bool, not, ◌&&◌}
use mathlib.Core.List.{List, [], ◌∷◌}
use lib.Dec.{eqb}
use lib.ListN.{get_or, set}
use Rattle.refusal.specs.declared.Refusal.{Refusal}
use Rattle.refusal.specs.Answers.{Checked}
use Rattle.refusal.specs.Checks.{must, unless}
use Rattle.line.specs.Line.{Waiting, empty}
use Rattle.accounts.specs.Rooms.{free}
use Rattle.table.specs.Table.{State, Held, free_room, view, with_line, with_room, place_of}
use Rattle.table.specs.TableChecks.{account_there}
use Rattle.table.specs.ViewLaws.{line_set}
use Rattle.table.specs.Steps.{After, done, refused, remove}
use Rattle.login.proofs.enrolling.remove.Goals as goal
use Rattle.login.proofs.enrolling.remove.Goals.{After-check_remove-answer}

freed : (l : List Held) (i : ℕ) (w : Waiting)
    → let gone = set l i (record { account = free; line = w }) in
    set gone i (record { account = (get_or gone i free_room).account; line = empty }) ≡ set l i free_room
freed [] i w = refl
freed (held ∷ l) zero w = refl
freed (held ∷ l) (suc i) w = ap (λ (t : List Held). held ∷ t) (freed l i w)

checked : (c : After-check_remove-answer) (older : List ℕ) → c.check_remove-answer.result ≡ account_there c.args.id (view c.args.table older)
checked c older =
    c.check_remove-answer.ensures
    ∙ ap (λ (held : Bool). must (not (eqb c.args.id 0) && held) Refusal.AccountMissing) (c.place_of-place.ensures older).1

-- Remove, by what its check says.
abbrev by_check : ℕ → State → Checked → After Checked
by_check id s check = unless (refused s) check (done (with_room (place_of id s.rooms) free_room s))

pub returns-in-Err : goal.returns-in-Err
unfolding remove
returns-in-Err c older =
    let s = view c.args.table older in
    ap (λ (k : Checked). record { answer = k; state = s }) c.in-Err.is
    ∙ sym (ap (by_check c.args.id s) (sym (checked (goal.at.returns-in-Err c).After-check_remove-answer older) ∙ c.in-Err.is))

pub returns : goal.returns
unfolding remove
returns c older =
    let s = view c.args.table older in
    let place = c.place_of-place.result in
    let rooms = line_set c.put-next.result older c.remove-lines.result place empty c.remove-lines.ensures
    ∙ ap (λ (s' : State). (with_line place empty s').rooms) (c.put-next.ensures older)
    ∙ freed s.rooms place (get_or s.rooms place free_room).line
    ∙ ap (λ (n : ℕ). set s.rooms n free_room) (c.place_of-place.ensures older).0 in
    (λ i. record { answer = c.in_default.is i; state = record { rooms = rooms i; ports = (c.put-next.ensures older i).ports } })
    ∙ sym (ap (by_check c.args.id s) (sym (checked (goal.at.returns c).After-check_remove-answer older) ∙ c.in_default.is))
