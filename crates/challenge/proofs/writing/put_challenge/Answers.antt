-- `put_challenge` meets its promise: the opening and the name, then the count and the seed into the rest.
use Prim.Native.Nat.{ℕ, ◌+◌}
use mathlib.Core.Path.{◌≡◌}
use mathlib.Core.Bool.{Bool}
use mathlib.Core.List.{List, [], ◌∷◌, ◌++◌, map, append_assoc}
use native.Mathlib.Omega.{arith}
use lib.ListN.{length, length-append}
use Rattle.text.specs.Kinds.{lower_of}
use Rattle.text.specs.Quoted.{codes}
use Rattle.text.specs.PutLaws.{then_put}
use Rattle.text.specs.Counts.{decimal_of}
use Rattle.password.specs.declared.algorithm.Algorithm.{Algorithm}
use Rattle.password.specs.Algorithm.{algorithm_name}
use Rattle.challenge.specs.Challenges.{opening, ending, challenge_text}
use Rattle.challenge.proofs.writing.put_challenge.Goals as goal

abbrev head : Algorithm → List ℕ
head algorithm = opening ++ (algorithm_name algorithm ++ 32 ∷ [])

length-head : (algorithm : Algorithm) → length (head algorithm) ≡ length (algorithm_name algorithm) + 5
unfolding opening codes
length-head algorithm = simp length-append (omega arith)

parts : (ext : Bool) (algorithm : Algorithm) (seed : List ℕ) (count : ℕ)
    → head algorithm ++ ((decimal_of count ++ 32 ∷ []) ++ (map lower_of seed ++ ending ext)) ≡ challenge_text ext algorithm seed count
unfolding challenge_text
parts ext algorithm seed count = simp append_assoc

pub put_count_seed-requires : goal.put_count_seed-requires
put_count_seed-requires c = omega (arith, length-head c.args.algorithm)

pub returns : goal.returns
returns c =
    let a = c.args in
    rw (parts a.ext a.algorithm a.seed.now a.count) at
    (then_put (head a.algorithm) ((decimal_of a.count ++ 32 ∷ []) ++ (map lower_of a.seed.now ++ ending a.ext))
    a.buf.now _ _ _ _ c.put_head-a.ensures c.put_count_seed.ensures)
