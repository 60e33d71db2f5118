-- `put_head` meets its promise: the opening, then the name and the space into the rest.
use mathlib.Core.List.{[], ◌∷◌, ◌++◌}
use Rattle.text.specs.Quoted.{codes}
use Rattle.text.specs.PutLaws.{then_put}
use Rattle.password.specs.Algorithm.{algorithm_name}
use Rattle.challenge.specs.Challenges.{opening}
use Rattle.challenge.proofs.writing.put_head.Goals as goal

pub returns : goal.returns
unfolding opening codes
returns c =
    let a = c.args in
    then_put opening (algorithm_name a.algorithm ++ 32 ∷ []) a.buf.now _ _ _ _ c.copy-a.ensures c.put_name.ensures
