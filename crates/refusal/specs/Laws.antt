-- Laws of checks.
use Rattle.std.specs.Prelude.{ℕ, zero, suc, ◌≡◌, refl, Bool, true, false, List, [], ◌∷◌, ◌++◌, get_or, take, Ok, Err, Option, Some, None, Result, IsErrAnd}
use Rattle.std.specs.Option.{ok_or}
use Rattle.std.proofs.Common.{sym, ap, ◌∙◌, arith}
use Rattle.refusal.specs.declared.Refusal.{Refusal}
use Rattle.refusal.specs.Answers.{Checked}
use Rattle.refusal.specs.Checks.{must, unless, in_order}
use Rattle.refusal.specs.Each.{Each}

-- ---- one test

-- a test that holds is not refused, and one that fails is
pub must-true : {t : Bool} (why : Refusal) → t ≡ true → must t why ≡ Ok tt
must-true why e = ap (λ (b : Bool). must b why) e

pub must-false : {t : Bool} {why : Refusal} → t ≡ false → must t why ≡ Err why
must-false {why = why} e = ap (λ (b : Bool). must b why) e

-- a test that is not refused holds
pub must_good : (t : Bool) (why : Refusal) → must t why ≡ Ok tt → t ≡ true
must_good true why e = refl
must_good false why e = let z : ◌≡◌ {A = ℕ} 0 1 = cc in absurd (omega arith)

-- ---- a check, and what stands behind it

module _ {A : Type 0} (f : Refusal → A) where
  -- a check that refuses decides
  pub first_refused : (check : Checked) (why : Refusal) (rest : A) → check ≡ Err why → f why ≡ unless f check rest
  first_refused check why rest e = ap (λ (k : Checked). unless f k rest) (sym e)

  -- behind one that doesn't, the rest does
  pub first_good : (check : Checked) (rest : A) → check ≡ Ok tt → rest ≡ unless f check rest
  first_good check rest e = ap (λ (k : Checked). unless f k rest) (sym e)

  -- an answer that is no refusal: the check found nothing wrong
  pub not_refused : (a : A) → ((why : Refusal) → f why ≡ a → ⊥) → (check : Checked) (rest : A) → unless f check rest ≡ a
      → (check ≡ Ok tt) × (rest ≡ a)
  not_refused a other (Ok _) rest e = (refl, e)
  not_refused a other (Err why) rest e = absurd (other why e)

-- a check and those behind it found nothing wrong: neither did
pub both_good : (check rest : Checked) → unless Err check rest ≡ Ok tt → (check ≡ Ok tt) × (rest ≡ Ok tt)
both_good = not_refused Err (Ok tt) (λ why (e : ◌≡◌ {A = Checked} (Err why) (Ok tt)). let z : ◌≡◌ {A = ℕ} 0 1 = cc in omega arith)

-- ---- a value that may be missing

module _ {A : Type 0} where
  -- where it is refused it is missing, and where it isn't it is there
  pub missing : (found : Option A) (why other : Refusal) → ◌≡◌ {A = Result A Refusal} (ok_or found why) (Err other) → (found ≡ None) × (why ≡ other)
  missing None why other e = (refl, cc)
  missing (Some a) why other e = let z : ◌≡◌ {A = ℕ} 0 1 = cc in absurd (omega arith)

  pub present : (found : Option A) (why : Refusal) (a : A) → ◌≡◌ {A = Result A Refusal} (ok_or found why) (Ok a) → found ≡ Some a
  present (Some b) why a e = cc
  present None why a e = let z : ◌≡◌ {A = ℕ} 0 1 = cc in absurd (omega arith)

-- ---- a refusal that `?` passes on

pub passed_on : {A : Type 0} (answer : Result A Refusal) (why : Refusal) → IsErrAnd answer (λ e. e ≡ why) → answer ≡ Err why
passed_on (Ok a) why h = absurd h
passed_on (Err e) why h = ap Err h

-- ---- checks in order

-- the check found nothing wrong
abbrev pub IsGood : Checked → Type 0
IsGood check = check ≡ Ok tt

-- the first check that fails: those before it are good, and its refusal is the answer
pub first_fails : (checks : List Checked) (k : ℕ) (why : Refusal) → Each IsGood (take k checks) → get_or checks k (Ok tt) ≡ Err why
    → Err why ≡ in_order checks
first_fails [] k why h e = sym e
first_fails (check ∷ checks) zero why h e = first_refused Err check why (in_order checks) e
first_fails (check ∷ checks) (suc k) why h e = first_fails checks k why h.1 e ∙ first_good Err check (in_order checks) h.0

-- none fails
pub none_fails : (checks : List Checked) → Each IsGood checks → Ok tt ≡ in_order checks
none_fails [] h = refl
none_fails (check ∷ checks) h = none_fails checks h.1 ∙ first_good Err check (in_order checks) h.0

-- where nothing is wrong, each check is good
pub each_good : (checks : List Checked) → in_order checks ≡ Ok tt → Each IsGood checks
each_good [] e = tt
each_good (check ∷ checks) e =
    let parts = both_good check (in_order checks) e in
    (parts.0, each_good checks parts.1)

-- some checks, then the others
pub in_parts : (checks others : List Checked) → unless Err (in_order checks) (in_order others) ≡ in_order (checks ++ others)
in_parts [] others = refl
in_parts ((Ok _) ∷ checks) others = in_parts checks others
in_parts (Err why ∷ checks) others = refl
