-- `enrol` meets its promise: refused as checked, or the account stands in the first free room.
use Rattle.std.specs.Prelude.{Ok, Err}
use Prim.Native.Nat.{ℕ}
use mathlib.Core.Path.{◌≡◌, sym, ap, ◌∙◌}
use mathlib.Core.Bool.{not, ◌&&◌}
use mathlib.Core.List.{List, [], ◌∷◌}
use lib.Dec.{eqb, ltb}
use Rattle.refusal.specs.Answers.{Checked}
use Rattle.refusal.specs.Checks.{unless, in_order, checked_of}
use Rattle.refusal.specs.Laws.{in_parts}
use Rattle.password.specs.Algorithm.{numbered, algorithm_checked}
use Rattle.password.specs.PhraseAndSeed.{seed_checked}
use Rattle.accounts.specs.Rooms.{part_of}
use Rattle.accounts.specs.Accounts.{proposal, new_room, count_within, new_checked}
use Rattle.accounts.specs.ProposalLaws.{is_proposed, found_proposed}
use Rattle.table.specs.Table.{State, view, holds, with_account}
use Rattle.table.specs.TableChecks.{id_given, id_new, room_left}
use Rattle.table.specs.Steps.{enrol_checked}
use Rattle.table.specs.StepLaws.{enrol-refused, enrol-done}
use Rattle.login.specs.Inside.{enrol_checks, enrol_found}
use Rattle.login.proofs.enrolling.enrol.Goals as goal
use Rattle.login.proofs.enrolling.enrol.Goals.{After-check_enrol}

enrol_found_lem : (id number count : ℕ) (seed : List ℕ) (s : State) (place room : ℕ) → ltb place 32 ≡ holds id s.rooms → ltb room 32 ≡ holds 0 s.rooms
    → in_order (enrol_found id (new_checked number count seed) place room) ≡ enrol_checked id number count seed s
unfolding enrol_checked new_checked
enrol_found_lem id number count seed s place room held left =
    (λ i. in_order (enrol_checks (not (eqb id 0)) (new_checked number count seed) (not (not (eqb id 0) && held i)) (left i)))
    ∙ ap (unless Err (id_given id))
    (in_parts (count_within count ∷ algorithm_checked (numbered number) ∷ seed_checked seed ∷ []) (id_new id s ∷ room_left s ∷ []))

found : (c : After-check_enrol) → checked_of c.check_enrol.result
    ≡ in_order (enrol_found c.args.id (new_checked c.args.algorithm c.args.count c.args.seed.now)
    c.place_of-place.result c.place_of-room.result)
found c =
    c.check_enrol.ensures.checked
    ∙ ap (λ (k : Checked). in_order (enrol_found c.args.id k c.place_of-place.result c.place_of-room.result))
    (found_proposed _ [] _ _ (c.enrolment-made.ensures []))

checked : (c : After-check_enrol) (older : List ℕ) → checked_of c.check_enrol.result
    ≡ enrol_checked c.args.id c.args.algorithm c.args.count c.args.seed.now (view c.args.table older)
checked c older =
    let a = c.args in
    found c
    ∙ enrol_found_lem a.id a.algorithm a.count a.seed.now (view a.table older)
    c.place_of-place.result c.place_of-room.result
    (c.place_of-place.ensures older).1 (c.place_of-room.ensures older).1

pub returns-in-Err : goal.returns-in-Err
returns-in-Err c older =
    let a = c.args in
    let s = view a.table older in
    let refused = sym (checked (goal.at.returns-in-Err c).After-check_enrol older) ∙ ap checked_of c.in-Err.is in
    sym (enrol-refused a.id a.algorithm a.count a.seed.now s a.password.now _ refused)

pub returns-in-Ok : goal.returns-in-Ok
returns-in-Ok c older =
    let a = c.args in
    let s = view a.table older in
    let new = new_room a.id a.algorithm a.count a.seed.now a.password.now in
    let good = sym (checked (goal.at.returns-in-Ok c).After-check_enrol older) ∙ ap checked_of c.in-Ok.is in
    let part = part_of older c.place_of-room.result in
    let made = ap (λ r. proposal r part) (c.check_enrol.ensures.account _ c.in-Ok.is) in
    let room = (is_proposed _ _ _ (sym made ∙ c.enrolment-made.ensures part)).1 in
    let after = c.put.ensures older ∙ (λ i. with_account ((c.place_of-room.ensures older).0 i) (room i) s) in
    (λ i. record { answer = Ok tt; state = after i })
    ∙ sym (enrol-done a.id a.algorithm a.count a.seed.now s a.password.now good)
