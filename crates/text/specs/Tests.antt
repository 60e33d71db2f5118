-- Tests over a list, and laws of tests that several crates cite.
use Rattle.std.specs.Prelude.{ℕ, zero, suc, ◌<◌, ◌≡◌, refl, Bool, true, false, cond, ◌&&◌, eqb, length, get_or, List, [], ◌∷◌, ◌++◌}
use Rattle.std.proofs.Common.{zero-le, suc-le-suc, le_of_suc-le-suc, not-suc-le-zero, sym, ◌∙◌, ap, ap₂, eq-eqb, eqb-true}
use Rattle.std.proofs.lemmas.Bool.{false≢true}
use Rattle.std.proofs.Math.Bool.{and_assoc}

-- each element of the list passes the test
unfoldable pub every : {A : Type 0} → (A → Bool) → List A → Bool
every test [] = true
every test (x ∷ xs) = test x && every test xs

-- the two texts have the same bytes
unfoldable pub same : List ℕ → List ℕ → Bool
same [] [] = true
same [] (b ∷ t) = false
same (a ∷ s) [] = false
same (a ∷ s) (b ∷ t) = eqb a b && same s t

-- what holds in both cases of a test holds of what it chooses
pub either : {A : Type 0} (P : A → Type 0) (t : Bool) {x y : A} → (t ≡ true → P x) → (t ≡ false → P y) → P (cond t x y)
either P true f g = f refl
either P false f g = g refl

-- a proof in each case of a test
pub cases : {B : Type 0} (t : Bool) → (t ≡ true → B) → (t ≡ false → B) → B
cases true f g = f refl
cases false f g = g refl

-- both halves of a test that passes
pub both : (a b : Bool) → (a && b) ≡ true → (a ≡ true) × (b ≡ true)
both true b e = (refl, e)
both false b e = absurd (false≢true e)

-- a test that fails in its second half fails
pub second_fails : (a b : Bool) → b ≡ false → (a && b) ≡ false
second_fails true b e = e
second_fails false b e = refl

pub every_append : {A : Type 0} (test : A → Bool) (xs ys : List A) → every test (xs ++ ys) ≡ (every test xs && every test ys)
unfolding every
every_append test [] ys = refl
every_append test (x ∷ xs) ys = ap (λ (t : Bool). test x && t) (every_append test xs ys) ∙ sym (and_assoc (test x) (every test xs) (every test ys))

-- a test that each element of a list passes, and the test at each place
pub every_at : {A : Type 0} (test : A → Bool) (s : List A) (d : A) → every test s ≡ true → (k : ℕ) → k < length s → test (get_or s k d) ≡ true
unfolding every
every_at test [] d e k h = absurd (not-suc-le-zero h)
every_at test (b ∷ s) d e zero h = (both (test b) (every test s) e).0
every_at test (b ∷ s) d e (suc k) h = every_at test s d (both (test b) (every test s) e).1 k (le_of_suc-le-suc h)

pub every_from : (test : ℕ → Bool) (s : List ℕ) → ((k : ℕ) → k < length s → test (get_or s k 0) ≡ true) → every test s ≡ true
unfolding every
every_from test [] f = refl
every_from test (b ∷ s) f = ap₂ (λ (x y : Bool). x && y) (f zero (suc-le-suc zero-le)) (every_from test s (λ k h. f (suc k) (suc-le-suc h)))

-- a weaker test
pub every_weaker : {A : Type 0} (test other : A → Bool) → ((a : A) → test a ≡ true → other a ≡ true) → (s : List A) → every test s ≡ true → every other s ≡ true
unfolding every
every_weaker test other f [] e = refl
every_weaker test other f (a ∷ s) e =
    let halves = both (test a) (every test s) e in
    ap₂ (λ (x y : Bool). x && y) (f a halves.0) (every_weaker test other f s halves.1)

-- texts with the same bytes are equal, and equal texts have them
pub same_equal : (s t : List ℕ) → same s t ≡ true → s ≡ t
unfolding same
same_equal [] [] e = refl
same_equal [] (b ∷ t) e = absurd (false≢true e)
same_equal (a ∷ s) [] e = absurd (false≢true e)
same_equal (a ∷ s) (b ∷ t) e =
    let halves = both (eqb a b) (same s t) e in
    ap₂ (λ (x : ℕ) (l : List ℕ). x ∷ l) (eqb-true a b halves.0) (same_equal s t halves.1)

-- texts of different lengths are not the same
pub same_lengths : (s t : List ℕ) → (length s ≡ length t → ⊥) → same s t ≡ false
same_lengths s t h = cases (same s t) (λ e. absurd (h (ap length (same_equal s t e)))) (λ e. e)

pub same_self : (s : List ℕ) → same s s ≡ true
unfolding same
same_self [] = refl
same_self (a ∷ s) = ap₂ (λ (x y : Bool). x && y) (eq-eqb a a refl) (same_self s)
