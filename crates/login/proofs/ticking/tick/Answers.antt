-- `tick` meets its promise: each port's record and each line.
use Rattle.std.proofs.Common.{◌≡◌, length, map, set, length-set, rules, arith, refl, ap, ◌∙◌}
use Rattle.std.proofs.lemmas.List.Edits.{map_over_more}
use Rattle.std.proofs.lemmas.List.{take_all, drop_all, get_or_default}
use Rattle.line.specs.Line.{ticked}
use Rattle.line.specs.Laws.{unmapped}
use Rattle.port.specs.declared.Port.{Port}
use Rattle.port.specs.Port.{cooled}
use Rattle.table.specs.ViewLaws.{lines_changed}
use Rattle.table.specs.Steps.{tick}
use Rattle.login.proofs.ticking.tick.Goals as goal
use Rattle.login.proofs.ticking.tick.Goals.{Start}

four : (c : Start) → length c.args.table.ports ≡ 4
four c = search (rules, unmapped)

pub loop-port-init : goal.loop-port-init
loop-port-init c = (four (goal.at.loop-port-init c).Start, refl)

pub loop-port-preserved : goal.loop-port-preserved
loop-port-preserved c =
    let at = c.loop-port in
    let four = four (goal.at.loop-port-preserved c).Start in
    let later =
    map_over_more cooled c.args.table.ports at.port-items at.port-index _ (omega arith) at.invariant.1
    (get_or_default at.port-items at.port-index _ _ (omega arith)) in
    (length-set at.port-items at.port-index _ ∙ at.invariant.0, ap (λ (p : Port). set at.port-items at.port-index p) c.after_tick.ensures ∙ later)

pub returns : goal.returns
unfolding tick
returns c older =
    let rooms = lines_changed c.args.table older c.tick-table.result ticked c.tick-table.ensures in
    let four = four (goal.at.returns c).Start in
    let ports : c.loop-port.port-items ≡ map cooled c.args.table.ports = search (rules, take_all, drop_all) in
    λ i. record { rooms = rooms i; ports = ports i }
