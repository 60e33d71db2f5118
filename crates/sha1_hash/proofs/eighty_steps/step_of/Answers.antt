-- `step_of` meets its promise: each case is a step with the function and the constant of its quarter.
use Rattle.digests.specs.Sha1.{K}
use Rattle.sha1_hash.specs.declared.eighty_steps.Quarter.{Quarter}
use Rattle.sha1_hash.proofs.eighty_steps.Quarters.{of_quarter}
use Rattle.sha1_hash.proofs.eighty_steps.step_of.Goals as goal

pub returns-in-First : goal.returns-in-First
unfolding K
returns-in-First c =
    let a = c.args in
    of_quarter Quarter.First a.quarter a.w _ a.v _ c.in-First.is c.choice.ensures.ch c.step.ensures

pub returns-in-Second : goal.returns-in-Second
unfolding K
returns-in-Second c =
    let a = c.args in
    of_quarter Quarter.Second a.quarter a.w _ a.v _ c.in-Second.is c.parity.ensures c.step-in-Second.ensures

pub returns-in-Third : goal.returns-in-Third
unfolding K
returns-in-Third c =
    let a = c.args in
    of_quarter Quarter.Third a.quarter a.w _ a.v _ c.in-Third.is c.maj.ensures c.step-in-Third.ensures

pub returns-in-Fourth : goal.returns-in-Fourth
unfolding K
returns-in-Fourth c =
    let a = c.args in
    of_quarter Quarter.Fourth a.quarter a.w _ a.v _ c.in-Fourth.is c.parity-in-Fourth.ensures c.step-in-Fourth.ensures
