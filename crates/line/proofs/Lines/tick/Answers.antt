-- `tick` meets its promise: a tick passes for each line.
use Rattle.std.proofs.Common.{ap, ◌∙◌, rules}
use borrow.Author.Tests.{tests}
use Rattle.line.specs.Line.{waiting_in, line_for}
use Rattle.line.specs.Inside.{runs_out, less}
use Rattle.line.proofs.Changed.{changed_tick}
use Rattle.line.proofs.Lines.tick.Goals as goal

pub returns : goal.returns
returns c =
    let made = c.change_all.ensures runs_out less (λ place front r k. search (rules, tests)) in
    λ i room. (ap (line_for room) made ∙ changed_tick room (waiting_in c.args.self)) i
