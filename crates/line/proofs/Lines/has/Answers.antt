-- `has` meets its promise: one of the places is the port's where it has a room.
use Rattle.std.proofs.Common.{rules, ◌∙◌}
use borrow.Author.Tests.{tests}
use Rattle.std.proofs.lemmas.Iterator.{YieldsList-from_slice}
use Rattle.std.proofs.lemmas.Iterator.Search.{any_from_yields_List}
use Rattle.line.specs.Line.{waiting_in}
use Rattle.line.proofs.RoomFound.{is_of, in_line}
use Rattle.line.proofs.Lines.has.Goals as goal

pub returns : goal.returns
returns c =
    let l = waiting_in c.args.self in
    any_from_yields_List (is_of c.args.port) _ _ _ c.any.ensures.ran (YieldsList-from_slice l cc) (λ x b q k. search (rules, tests))
    ∙ in_line c.args.port l
