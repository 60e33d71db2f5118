-- `room_of` meets its promise: the least of the rooms of the port's places is the first in whose line it stands.
use Rattle.std.proofs.Common.{rules, ◌∙◌, sym}
use borrow.Author.Tests.{tests}
use Rattle.std.proofs.lemmas.Iterator.{YieldsList-from_slice, YieldsList-from_map}
use Rattle.std.proofs.lemmas.Iterator.Consumers.{min_from_yields_List, YieldsList-from_filter, YieldsList-at}
use Rattle.std.proofs.lemmas.Iterator.Adapters.{option_map_id}
use Rattle.line.specs.Line.{waiting_in}
use Rattle.line.specs.Inside.{room_in}
use Rattle.line.proofs.RoomFound.{is_of, least}
use Rattle.line.proofs.Lines.room_of.Goals as goal

pub returns : goal.returns
returns c =
    let l = waiting_in c.args.self in
    let found =
    min_from_yields_List c.map.result c.min.result c.min.ensures.ran
    (YieldsList-from_map _ room_in
    (YieldsList-at c.map.ensures.source
    (YieldsList-from_filter _ (is_of c.args.port) (YieldsList-at c.filter.ensures.source (YieldsList-from_slice l cc))
    c.filter.ensures.closure (λ x b q k. search (rules, tests))))
    c.map.ensures.closure (λ x r q k. search rules)) in
    sym (option_map_id c.min.result) ∙ found ∙ least c.args.port l
