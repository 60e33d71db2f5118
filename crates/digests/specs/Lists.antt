-- A list given by its elements, and how a loop that fills an array comes to it.
use Rattle.std.specs.Prelude.{ℕ, zero, suc, ◌+◌, ◌<◌, ◌≤◌, ◌≡◌, refl, List, [], ◌∷◌, length, get_or, set}
use Rattle.std.proofs.Common.{ap, sym, ◌∙◌, subst, arith, length-set, get_or-set_same, get_or-set_other, ext_get_or}
use Rattle.std.proofs.Math.Decide.{ℕ_discrete}

-- f 0, f 1, up to f (n - 1)
unfoldable pub up_to : ℕ → (ℕ → ℕ) → List ℕ
up_to zero f = []
up_to (suc n) f = f zero ∷ up_to n (λ k. f (suc k))

pub length-up_to : (n : ℕ) (f : ℕ → ℕ) → length (up_to n f) ≡ n
unfolding up_to
length-up_to zero f = refl
length-up_to (suc n) f = ap suc (length-up_to n (λ k. f (suc k)))

pub get_d_up_to : (n : ℕ) (f : ℕ → ℕ) (i : ℕ) → i < n → get_or (up_to n f) i 0 ≡ f i
unfolding up_to
get_d_up_to zero f i h = omega arith
get_d_up_to (suc n) f zero h = refl
get_d_up_to (suc n) f (suc i) h = get_d_up_to n (λ k. f (suc k)) i (omega arith)

-- A loop that fills an array w of n elements with f's, and has come to element k.
pub record Filling (w : List ℕ) (n k : ℕ) (f : ℕ → ℕ) : Type 0 where
  pub within : k ≤ n
  pub long : length w ≡ n
  pub filled : (i : ℕ) → i < k → get_or w i 0 ≡ f i

pub filling_starts : (w : List ℕ) (n : ℕ) (f : ℕ → ℕ) → length w ≡ n → Filling w n 0 f
filling_starts w n f long = record { within = omega arith; long = long; filled = λ i h. omega arith }

module _ {w : List ℕ} {n k : ℕ} {f : ℕ → ℕ} (sofar : Filling w n k f) where
  pub filling_goes_on : (x : ℕ) → k < n → x ≡ f k → Filling (set w k x) n (k + 1) f
  filling_goes_on x h e =
      record { within = omega arith; long = length-set w k x ∙ sofar.long; filled = λ i below. at i below (ℕ_discrete i k) }
    where
      at : (i : ℕ) → i < k + 1 → Dec (i ≡ k) → get_or (set w k x) i 0 ≡ f i
      at i below (yes same) =
          let room : k < length w = omega (arith, sofar.long) in
          subst (λ (j : ℕ). get_or (set w k x) j 0 ≡ f j) (sym same) (get_or-set_same w k x 0 room ∙ e)
      at i below (no other) = get_or-set_other w k i x 0 other ∙ sofar.filled i (omega arith)

  pub filling_ends : n ≤ k → w ≡ up_to n f
  filling_ends h =
      ext_get_or 0 w (up_to n f) (sofar.long ∙ sym (length-up_to n f))
      (λ i inside. let below : i < n = omega (arith, sofar.long) in
      sofar.filled i (omega arith) ∙ sym (get_d_up_to n f i below))
