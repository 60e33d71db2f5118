-- `remove` meets its promise: one line is emptied.
use Rattle.std.proofs.Common.{ap, ◌∙◌, rules}
use borrow.Author.Tests.{tests}
use Rattle.line.specs.Line.{waiting_in, line_for}
use Rattle.line.specs.Inside.{is_for_room, same}
use Rattle.line.proofs.Changed.{changed_remove}
use Rattle.line.proofs.Lines.remove.Goals as goal

pub returns : goal.returns
returns c =
    let made = c.change_all.ensures (is_for_room c.args.room) same (λ place front r k. search (rules, tests)) in
    λ i room. (ap (line_for room) made ∙ changed_remove c.args.room room (waiting_in c.args.self)) i
