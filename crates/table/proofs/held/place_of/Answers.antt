-- `place_of` meets its promise: the first room that has the id.
use Rattle.std.proofs.Common.{◌≡◌, length, rules}
use borrow.Author.Tests.{tests}
use Rattle.std.proofs.lemmas.Iterator.{YieldsList-from_slice}
use Rattle.std.proofs.lemmas.Iterator.Search.{position_from_yields_List}
use Rattle.line.specs.Laws.{unmapped}
use Rattle.table.proofs.held.Found.{has_id, looked}
use Rattle.table.proofs.held.place_of.Goals as goal
use Rattle.table.proofs.held.place_of.Goals.{Start}

rooms-32 : (c : Start) → length c.args.table.rooms ≡ 32
rooms-32 c = search (rules, unmapped)

pub returns : goal.returns
returns c older =
    let a = c.args in
    let found =
    position_from_yields_List (has_id a.id) _ _ c.position.result c.position.ensures.ran (YieldsList-from_slice a.table.rooms cc)
    (λ x b q k. search (rules, tests)) in
    rw c.unwrap_or.ensures (looked a.id a.table c.position.result (rooms-32 (goal.at.returns c).Start) found older)
