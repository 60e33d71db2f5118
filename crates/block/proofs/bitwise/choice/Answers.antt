-- `choice` meets its promise: bit by bit it is the function of either standard.
use Rattle.block.specs.ChoiceLaws.{choice as chosen_bits, choice_or}
use Rattle.block.proofs.bitwise.choice.Goals as goal

pub returns : goal.returns
returns c =
    let a = c.args in
    let r = c.ranges in
    record { f = choice_or 32 a.x a.y a.z r.x.fits r.y.fits r.z.fits; ch = chosen_bits 32 a.x a.y a.z r.x.fits r.y.fits r.z.fits }
