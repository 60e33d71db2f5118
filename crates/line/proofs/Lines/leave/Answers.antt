-- `leave` meets its promise: a port leaves each line.
use Rattle.std.proofs.Common.{ap, ◌∙◌, rules}
use borrow.Author.Tests.{tests}
use Rattle.line.specs.Line.{waiting_in, line_for}
use Rattle.line.specs.Inside.{is_of, same}
use Rattle.line.proofs.Changed.{changed_leave}
use Rattle.line.proofs.Lines.leave.Goals as goal

pub returns : goal.returns
returns c =
    let made = c.change_all.ensures (is_of c.args.port) same (λ place front r k. search (rules, tests)) in
    λ i room. (ap (line_for room) made ∙ changed_leave c.args.port room (waiting_in c.args.self)) i
