-- `front_of` meets its promise: the first place that is for the account has its front.
use Rattle.std.proofs.Common.{arith, rules}
use borrow.Author.Tests.{tests}
use Rattle.std.proofs.lemmas.Iterator.{YieldsList-from_slice}
use Rattle.std.proofs.lemmas.Iterator.Search.{find_from_yields_List}
use Rattle.std.proofs.lemmas.Grind.{common_steps}
use Rattle.line.specs.Line.{waiting_in, is_for}
use Rattle.line.proofs.RoomFound.{front_found}
use Rattle.line.proofs.Lines.front_of.Goals as goal

pub returns : goal.returns
returns c =
    let l = waiting_in c.args.self in
    let found =
    find_from_yields_List (is_for c.args.room) _ _ c.find.result c.find.ensures.ran (YieldsList-from_slice l cc)
    (λ x b q k. search (rules, tests)) in
    let front = front_found c.args.room l in
    grind (arith, common_steps, found, front)
