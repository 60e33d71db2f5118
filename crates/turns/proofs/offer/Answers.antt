-- `offer` meets its promise: what the turn becomes, put back, is the written step.
use mathlib.Core.Path.{ap, ◌∙◌}
use Rattle.table.specs.Table.{view}
use Rattle.turns.specs.TurnPart.{after, logged_in}
use Rattle.turns.specs.TurnPartLaws.{after-offer}
use Rattle.turns.proofs.offer.Goals as goal

pub returns : goal.returns
returns c older =
    let a = c.args in
    let s = view a.table older in
    c.put_back.ensures older
    ∙ ap (after a.port s) (c.logged_in-made.ensures older ∙ ap (logged_in a.password) (c.turn_of.ensures older))
    ∙ after-offer a.port s a.password
