-- The algorithms that passwords are made with, by number and by name: document 02, R-1; the numbers are those of R-10.
use Rattle.std.specs.Prelude.{ℕ, Bool, cond, List, eqb, Option, Some, None, Ok, Err}
use Rattle.refusal.specs.declared.Refusal.{Refusal}
use Rattle.refusal.specs.Answers.{Checked}
use Rattle.text.specs.Quoted.{codes}
use Rattle.text.specs.Tests.{same}
use Rattle.password.specs.declared.algorithm.Algorithm.{Algorithm}

-- "1 for md5, 2 for sha1"
abbrev pub algorithm_number : Algorithm → ℕ
algorithm_number Algorithm.Md5 = 1
algorithm_number Algorithm.Sha1 = 2

-- "`md5`", "`sha1`"
unfoldable pub algorithm_name : Algorithm → List ℕ
algorithm_name Algorithm.Md5 = codes "md5"
algorithm_name Algorithm.Sha1 = codes "sha1"

-- The algorithm that a test finds, of the two that there are.
abbrev pub algorithm_by : (Algorithm → Bool) → Option Algorithm
algorithm_by test =
    cond (test Algorithm.Md5) (Some Algorithm.Md5)
    (cond (test Algorithm.Sha1) (Some Algorithm.Sha1) None)

-- The algorithm with that number, and the one with that name.
abbrev pub numbered : ℕ → Option Algorithm
numbered number = algorithm_by (λ algorithm. eqb number (algorithm_number algorithm))

abbrev pub named : List ℕ → Option Algorithm
named name = algorithm_by (λ algorithm. same name (algorithm_name algorithm))

-- 21: "neither `md5` nor `sha1`", "an unknown algorithm"
abbrev pub algorithm_checked : Option Algorithm → Checked
algorithm_checked (Some algorithm) = Ok tt
algorithm_checked None = Err Refusal.AlgorithmUnknown

-- The algorithm behind that check. Where there is none the answer is 21, and what stands here is not looked at.
abbrev pub algorithm_in : Option Algorithm → Algorithm
algorithm_in (Some algorithm) = algorithm
algorithm_in None = Algorithm.Md5
