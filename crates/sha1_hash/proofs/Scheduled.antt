-- The words of a schedule, and sixteen of them after sixteen.
use Prim.Native.Nat.{ℕ, zero, suc, ◌+◌, ◌-◌, ◌%◌, ◌≤◌, ◌<◌}
use mathlib.Core.Path.{◌≡◌, refl, sym, ap, ◌∙◌}
use mathlib.Core.Bool.{Bool, true, false}
use mathlib.Core.List.{List, [], ◌∷◌}
use borrow.Author.Tests.{lt-ltb, le-ltb, ltb-true, ltb-false}
use native.Mathlib.Decide.{ℕ_discrete}
use native.Mathlib.Numerals.{add-one}
use native.Mathlib.Omega.{arith}
use lib.Bits.{bit_xor}
use lib.Dec.{ltb}
use lib.ListN.{length, get_or, set, length-append, length-set, get_or-append}
use lib.Seq.{get_or-append_seam, get_or-set_same, get_or-set_other, ext_get_or}
use Rattle.digests.specs.Lists.{up_to, length-up_to, get_d_up_to}
use Rattle.digests.specs.Words32.{rotated}
use Rattle.digests.specs.Sha1.{word_at, longer, schedule}
use Rattle.sha1_hash.specs.Inside.{scheduled, following}

length-schedule : (M : List ℕ) (n : ℕ) → length (schedule M n) ≡ n
unfolding schedule longer
length-schedule M zero = refl
length-schedule M (suc n) =
    length-append (schedule M n) (word_at M n (schedule M n) ∷ []) ∙ add-one (length (schedule M n)) ∙ ap suc (length-schedule M n)

-- A word stays where it is as the schedule grows.
pub get_d_schedule : (M : List ℕ) (n t : ℕ) → t < n → get_or (schedule M n) t 0 ≡ scheduled M t
unfolding schedule longer scheduled
get_d_schedule M zero t h = omega arith
get_d_schedule M (suc n) t h = at (ℕ_discrete t n) (get_d_schedule M n t)
  where
    at : Dec (t ≡ n) → (t < n → get_or (schedule M n) t 0 ≡ scheduled M t) → get_or (schedule M (suc n)) t 0 ≡ scheduled M t
    at (yes same) below =
        ap (λ (k : ℕ). get_or (schedule M (suc n)) k 0) (same ∙ sym (length-schedule M n))
        ∙ get_or-append_seam (schedule M n) (word_at M n (schedule M n)) [] 0
        ∙ ap (λ (k : ℕ). word_at M k (schedule M k)) (sym same)
    at (no other) below =
        get_or-append (schedule M n) (word_at M n (schedule M n) ∷ []) 0 t (omega (arith, length-schedule M n))
        ∙ below (omega arith)

pub scheduled_first : (M : List ℕ) (t : ℕ) → t < 16 → scheduled M t ≡ get_or M t 0
unfolding scheduled
scheduled_first M t h = simp (lt-ltb t 16 h)

-- A word from the four that it is made of.
abbrev made_of : ℕ → ℕ → ℕ → ℕ → ℕ
made_of x y z u = rotated (bit_xor (bit_xor (bit_xor x y) z) u) 1

scheduled_next : (M : List ℕ) (t : ℕ) → 16 ≤ t
    → scheduled M t ≡ made_of (scheduled M (t - 3)) (scheduled M (t - 8)) (scheduled M (t - 14)) (scheduled M (t - 16))
unfolding scheduled
scheduled_next M t h =
    rw (le-ltb t 16 h)
    (λ i. made_of (get_d_schedule M t (t - 3) (omega arith) i) (get_d_schedule M t (t - 8) (omega arith) i)
    (get_d_schedule M t (t - 14) (omega arith) i) (get_d_schedule M t (t - 16) (omega arith) i))

first_sixteen : (M : List ℕ) (t : ℕ) → t < 16 → get_or (following M) t 0 ≡ scheduled M (16 + t)
unfolding following
first_sixteen M t h = get_d_up_to 16 (λ j. scheduled M (16 + j)) t h

-- the sixteen words after sixteen begin the same schedule sixteen words on

followed : (M : List ℕ) (n t : ℕ) → t < n → scheduled (following M) t ≡ scheduled M (16 + t)
followed M zero t h = omega arith
followed M (suc n) t h = at (ltb t 16) refl (followed M n)
  where
    at : (b : Bool) → ltb t 16 ≡ b → ((s : ℕ) → s < n → scheduled (following M) s ≡ scheduled M (16 + s))
        → scheduled (following M) t ≡ scheduled M (16 + t)
    at true e below =
        scheduled_first (following M) t (ltb-true t 16 e) ∙ first_sixteen M t (ltb-true t 16 e)
    at false e below =
        let late : 16 ≤ t = ltb-false t 16 e in
        let earlier : (k : ℕ) → 0 < k → k ≤ 16 → scheduled (following M) (t - k) ≡ scheduled M (16 + t - k) =
        λ k h₁ h₂. (let same : 16 + (t - k) ≡ 16 + t - k = omega arith in below (t - k) (omega arith) ∙ ap (scheduled M) same) in
        scheduled_next (following M) t late
        ∙ (λ i. made_of (earlier 3 (omega arith) (omega arith) i) (earlier 8 (omega arith) (omega arith) i)
        (earlier 14 (omega arith) (omega arith) i) (earlier 16 (omega arith) (omega arith) i))
        ∙ sym (scheduled_next M (16 + t) (omega arith))

pub scheduled-following : (M : List ℕ) (t : ℕ) → scheduled (following M) t ≡ scheduled M (16 + t)
scheduled-following M t = followed M (t + 1) t (omega arith)

-- A loop that makes the following words in place and has come to word t: the array holds the words t to t + 15 in a ring.
pub record Ring (M w : List ℕ) (t : ℕ) : Type 0 where
  pub within : t ≤ 16
  pub long : length w ≡ 16
  pub held : (j : ℕ) → j < 16 → get_or w ((t + j) % 16) 0 ≡ scheduled M (t + j)

pub ring_starts : (M : List ℕ) → length M ≡ 16 → Ring M M 0
ring_starts M long =
    record {
      within = omega arith;
      long = long;
      held = λ j h. (let place : (0 + j) % 16 ≡ j = omega arith in
          let word : j ≡ 0 + j = omega arith in
          ap (λ (i : ℕ). get_or M i 0) place ∙ sym (scheduled_first M j h) ∙ ap (scheduled M) word);
    }

module _ {M w : List ℕ} {t : ℕ} (sofar : Ring M w t) where
  pub ring_goes_on : (x : ℕ) → t < 16
      → x ≡ made_of (get_or w ((t + 13) % 16) 0) (get_or w ((t + 8) % 16) 0) (get_or w ((t + 2) % 16) 0) (get_or w t 0)
      → Ring M (set w t x) (t + 1)
  ring_goes_on x h e =
      record { within = omega arith; long = length-set w t x ∙ sofar.long; held = λ j g. at j g (ℕ_discrete j 15) }
    where
      here : get_or w t 0 ≡ scheduled M t
      here =
          let same : t ≡ (t + 0) % 16 = omega arith in
          let none : t + 0 ≡ t = omega arith in
          ap (λ (i : ℕ). get_or w i 0) same ∙ sofar.held 0 (omega arith) ∙ ap (scheduled M) none

      earlier : (k : ℕ) → 0 < k → k < 16 → get_or w ((t + (16 - k)) % 16) 0 ≡ scheduled M (t + 16 - k)
      earlier k h₁ h₂ =
          let same : t + (16 - k) ≡ t + 16 - k = omega arith in
          sofar.held (16 - k) (omega arith) ∙ ap (scheduled M) same

      made : x ≡ scheduled M (t + 16)
      made =
          let last : t ≡ t + 16 - 16 = omega arith in
          e
          ∙ (λ i. made_of (earlier 3 (omega arith) (omega arith) i) (earlier 8 (omega arith) (omega arith) i)
          (earlier 14 (omega arith) (omega arith) i) ((here ∙ ap (scheduled M) last) i))
          ∙ sym (scheduled_next M (t + 16) (omega arith))

      at : (j : ℕ) → j < 16 → Dec (j ≡ 15) → get_or (set w t x) ((t + 1 + j) % 16) 0 ≡ scheduled M (t + 1 + j)
      at j g (yes last) =
          let place : (t + 1 + j) % 16 ≡ t = omega arith in
          let word : t + 16 ≡ t + 1 + j = omega arith in
          ap (λ (i : ℕ). get_or (set w t x) i 0) place ∙ get_or-set_same w t x 0 (omega (arith, sofar.long))
          ∙ made ∙ ap (scheduled M) word
      at j g (no other) =
          let next : t + 1 + j ≡ t + (j + 1) = omega arith in
          let elsewhere : (t + 1 + j) % 16 ≡ t → ⊥ = λ same. omega arith in
          get_or-set_other w t ((t + 1 + j) % 16) x 0 elsewhere
          ∙ ap (λ (i : ℕ). get_or w (i % 16) 0) next ∙ sofar.held (j + 1) (omega arith) ∙ ap (scheduled M) (sym next)

  pub ring_ends : 16 ≤ t → w ≡ following M
  unfolding following
  ring_ends h =
      ext_get_or 0 w (up_to 16 (λ j. scheduled M (16 + j))) (sofar.long ∙ sym (length-up_to 16 (λ j. scheduled M (16 + j))))
      (λ i inside. let below : i < 16 = omega (arith, sofar.long) in
      let place : i ≡ (t + i) % 16 = omega (arith, sofar.within) in
      let word : t + i ≡ 16 + i = omega (arith, sofar.within) in
      ap (λ (k : ℕ). get_or w k 0) place ∙ sofar.held i below ∙ ap (scheduled M) word
      ∙ sym (get_d_up_to 16 (λ j. scheduled M (16 + j)) i below))
