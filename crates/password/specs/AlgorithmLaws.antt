-- An algorithm by its number and by its name.
use Rattle.std.specs.Prelude.{ℕ, ◌≤◌, ◌≡◌, refl, Bool, true, false, cond, eqb, length, Option, Some, None, Ok}
use Rattle.std.proofs.Common.{sym, ◌∙◌, ap, arith, eqb-true}
use Rattle.refusal.specs.declared.Refusal.{Refusal}
use Rattle.refusal.specs.Checks.{unless}
use Rattle.text.specs.Quoted.{codes}
use Rattle.text.specs.Tests.{same}
use Rattle.password.specs.declared.algorithm.Algorithm.{Algorithm}
use Rattle.password.specs.Algorithm.{algorithm_number, algorithm_name, numbered, named, algorithm_checked, algorithm_in}

pub number_numbered : (algorithm : Algorithm) → numbered (algorithm_number algorithm) ≡ Some algorithm
number_numbered Algorithm.Md5 = refl
number_numbered Algorithm.Sha1 = refl

-- a number that an algorithm has is that algorithm's
pub numbered-number : (number : ℕ) (algorithm : Algorithm) → numbered number ≡ Some algorithm → algorithm_number algorithm ≡ number
numbered-number number algorithm = by (eqb number 1) (eqb number 2) refl refl
  where
    by : (a b : Bool) → eqb number 1 ≡ a → eqb number 2 ≡ b
        → cond a (Some Algorithm.Md5) (cond b (Some Algorithm.Sha1) None) ≡ Some algorithm → algorithm_number algorithm ≡ number
    by true b f g e = let same : Algorithm.Md5 ≡ algorithm = cc in ap algorithm_number (sym same) ∙ sym (eqb-true number 1 f)
    by false true f g e = let same : Algorithm.Sha1 ≡ algorithm = cc in ap algorithm_number (sym same) ∙ sym (eqb-true number 2 g)
    by false false f g e = let z : ◌≡◌ {A = ℕ} 0 1 = cc in absurd (omega arith)

pub name_named : (algorithm : Algorithm) → named (algorithm_name algorithm) ≡ Some algorithm
unfolding algorithm_name codes same
name_named Algorithm.Md5 = refl
name_named Algorithm.Sha1 = refl

pub name_few : (algorithm : Algorithm) → (1 ≤ length (algorithm_name algorithm)) × (length (algorithm_name algorithm) ≤ 4)
unfolding algorithm_name codes
name_few Algorithm.Md5 = (omega arith, omega arith)
name_few Algorithm.Sha1 = (omega arith, omega arith)

-- 21 where there is no algorithm; otherwise what is done by it
module _ {A : Type 0} (refused : Refusal → A) (by : Algorithm → A) where
  pub unknown_refused : (found : Option Algorithm) → found ≡ None
      → refused Refusal.AlgorithmUnknown ≡ unless refused (algorithm_checked found) (by (algorithm_in found))
  unknown_refused found e = ap (λ (n : Option Algorithm). unless refused (algorithm_checked n) (by (algorithm_in n))) (sym e)

  pub known_done : (found : Option Algorithm) (algorithm : Algorithm) → found ≡ Some algorithm
      → by algorithm ≡ unless refused (algorithm_checked found) (by (algorithm_in found))
  known_done found algorithm e = ap (λ (n : Option Algorithm). unless refused (algorithm_checked n) (by (algorithm_in n))) (sym e)

-- a check that finds nothing wrong has found an algorithm
pub checked_known : (found : Option Algorithm) → algorithm_checked found ≡ Ok tt → found ≡ Some (algorithm_in found)
checked_known (Some algorithm) e = refl
checked_known None e = let z : ◌≡◌ {A = ℕ} 0 1 = cc in absurd (omega arith)
