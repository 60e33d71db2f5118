-- `past_blanks` meets its promise: a run of blanks stays within the text.
use Rattle.std.proofs.Common.{◌≤◌, ◌+◌, length, arith}
use Rattle.text.specs.Kinds.{is_blank}
use Rattle.text.specs.ScanLaws.{run_ends_within}
use Rattle.challenge.proofs.place.Place.past_blanks.Goals as goal
use Rattle.challenge.proofs.place.Place.past_blanks.Goals.{After-run}

within : (c : After-run) → c.args.self.at + c.run.result ≤ length c.args.self.text.now
within c =
    let a = c.args.self in
    omega (arith, c.run.ensures, run_ends_within is_blank a.text.now a.at a.within)

pub overflow_add-at : goal.overflow_add-at
overflow_add-at c = omega (arith, within (goal.at.overflow_add-at c).After-run)

pub invariant_of-result : goal.invariant_of-result
invariant_of-result c = record { within = within (goal.at.invariant_of-result c).After-run }
