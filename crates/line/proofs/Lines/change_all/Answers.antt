-- `change_all` meets its promise: those that stay are what becomes of the places so far.
use Rattle.std.proofs.Common.{refl, sym, ◌∙◌, arith, rules, length-set, true}
use Rattle.line.specs.Inside.{changed}
use Rattle.line.specs.Laws.{unmapped}
use Rattle.line.proofs.Seen.{none_seen, seen_next}
use Rattle.line.proofs.Flat.{made_gone, made_stays}
use Rattle.line.proofs.Lines.change_all.Goals as goal
use Rattle.line.proofs.Lines.change_all.Goals.{in-Some, in_default}

pub loop-place-init : goal.loop-place-init
unfolding changed
loop-place-init g c = (omega arith, search (rules, unmapped), omega arith, refl, none_seen 32, λ gone after k. refl)

pub loop-place-preserved : goal.loop-place-preserved
loop-place-preserved g c =
    let at = c.loop-place in
    let keep = at.invariant in
    let l = c.in_use-place-items.result.now in
    let own = c.room_in-room.ensures.0 in
    let seen = seen_next at.seen l at.place-index _ own (omega arith) (omega arith) keep.4 in
    elim c.match-change.branch [
      | in-Some w ↦
          rw (w.places-is, w.kept-is, w.stays.ensures) (
            omega arith,
            length-set at.places at.kept _ ∙ keep.1,
            omega arith,
            length-set at.seen _ true ∙ keep.3,
            seen,
            λ gone after k.
                made_stays gone after l at.seen at.place-index _ own (omega arith) keep.4 at.places at.kept (keep.5 gone after k)
                w.in-Some.turn (sym w.in-Some.is ∙ k _ _ _ c.change.ensures) (omega arith),
          )
      | in_default w ↦
          rw (w.places-is, w.kept-is) (
            omega arith,
            keep.1,
            omega arith,
            length-set at.seen _ true ∙ keep.3,
            seen,
            λ gone after k.
                made_gone gone after l at.seen at.place-index _ own (omega arith) keep.4 at.places at.kept (keep.5 gone after k)
                (sym w.in_default.is ∙ k _ _ _ c.change.ensures),
          )
    ]
