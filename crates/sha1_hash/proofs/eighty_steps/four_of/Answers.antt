-- `four_of` meets its promise: four steps, one after the other.
use Rattle.sha1_hash.specs.Inside.{number}
use Rattle.sha1_hash.proofs.eighty_steps.Quarters.{four_steps}
use Rattle.sha1_hash.proofs.eighty_steps.four_of.Goals as goal

pub returns : goal.returns
returns c =
    let a = c.args in
    four_steps (number a.quarter) a.w _ _ _ _ _
    c.step_of-v1.ensures
    c.step_of-v2.ensures
    c.step_of-v3.ensures
    c.step_of.ensures
