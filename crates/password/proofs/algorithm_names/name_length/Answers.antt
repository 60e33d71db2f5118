-- `name_length` meets its promise, for each algorithm.
use Rattle.std.proofs.Common.{◌≤◌, length, refl, arith}
use Rattle.text.specs.Quoted.{codes}
use Rattle.password.specs.declared.algorithm.Algorithm.{Algorithm}
use Rattle.password.specs.Algorithm.{algorithm_name}
use Rattle.password.proofs.algorithm_names.name_length.Goals as goal

few : (algorithm : Algorithm) → length (algorithm_name algorithm) ≤ 4
unfolding algorithm_name codes
few Algorithm.Md5 = omega arith
few Algorithm.Sha1 = omega arith

pub returns : goal.returns
returns c = rw c.name_of.ensures (refl, few c.args.algorithm)
