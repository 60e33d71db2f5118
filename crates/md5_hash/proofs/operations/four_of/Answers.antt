-- `four_of` meets its promise: four operations, each on what the one before left.
use mathlib.Core.Path.{ap, ◌∙◌}
use Rattle.md5_hash.specs.Inside.{as_printed, operation_of, four_of}
use Rattle.md5_hash.proofs.operations.four_of.Goals as goal

pub returns : goal.returns
unfolding four_of
returns c =
    let a = c.args in
    let at = operation_of (as_printed a.lent.round) a.w.now in
    c.operation_of.ensures
    ∙ ap (at _) (c.operation_of-q3.ensures
    ∙ ap (at _) (c.operation_of-q2.ensures
    ∙ ap (at _) c.operation_of-q1.ensures))
