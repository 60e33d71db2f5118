-- `read_name` meets its promise: one name after the other.
use Rattle.std.proofs.Common.{◌≡◌, false, sym, ◌∙◌}
use Rattle.text.specs.Tests.{same}
use Rattle.password.specs.declared.algorithm.Algorithm.{Algorithm}
use Rattle.password.specs.Algorithm.{algorithm_name}
use Rattle.password.proofs.algorithm_names.read_name.Goals as goal
use Rattle.password.proofs.algorithm_names.read_name.Goals.{Else-same}

not_first : (c : Else-same) → same c.args.name.now (algorithm_name Algorithm.Md5) ≡ false
not_first c = sym (rw c.name_of.ensures at c.same.ensures) ∙ c.if-same.false

pub returns-then-same : goal.returns-then-same
returns-then-same c = rw (sym (rw c.name_of.ensures at c.same.ensures) ∙ c.if-same.true)

pub returns-then-same-2 : goal.returns-then-same-2
returns-then-same-2 c =
    rw (not_first (goal.at.returns-then-same-2 c).Else-same, sym (rw c.name_of-2.ensures at c.same-2.ensures) ∙ c.if-same-2.true)

pub returns : goal.returns
returns c = rw (not_first (goal.at.returns c).Else-same, sym (rw c.name_of-2.ensures at c.same-2.ensures) ∙ c.if-same-2.false)
