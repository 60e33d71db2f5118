-- The eighty steps, sixteen at a time, are the standard's.
use Prim.Native.Nat.{ℕ, zero, suc, ◌+◌, ◌/◌, ◌%◌, ◌≤◌, ◌<◌}
use mathlib.Core.Path.{◌≡◌, refl, sym, ap, ap₂, ◌∙◌}
use mathlib.Core.Bool.{Bool, true, false}
use mathlib.Core.List.{List}
use borrow.Author.Tests.{ltb-true, ltb-false, ne_eqb}
use native.Mathlib.Nat.{add-suc}
use native.Mathlib.Omega.{arith}
use lib.Dec.{ltb}
use lib.ListN.{get_or}
use Rattle.digests.specs.declared.FiveWords.{FiveWords}
use Rattle.digests.specs.Sha1.{f, K, schedule, step_with, step, steps, eighty}
use Rattle.sha1_hash.specs.Inside.{scheduled, following, step_of, four_of, sixteen_of}
use Rattle.sha1_hash.proofs.Scheduled.{get_d_schedule, scheduled_first, scheduled-following}

-- A step is one of the quarter that it lies in.
quarter_step : (t w : ℕ) (v : FiveWords) → step_of (t / 20) w v ≡ step t w v
unfolding step_of step_with step f K
quarter_step t w v = at (ltb t 20) (ltb t 40) (ltb t 60) refl refl refl
  where
    at : (a b c : Bool) → ltb t 20 ≡ a → ltb t 40 ≡ b → ltb t 60 ≡ c → step_of (t / 20) w v ≡ step t w v
    at true b c e₁ e₂ e₃ = let in₀ : t / 20 ≡ 0 = omega (arith, ltb-true t 20 e₁) in simp (e₁, in₀)
    at false true c e₁ e₂ e₃ = let in₁ : t / 20 ≡ 1 = omega (arith, ltb-false t 20 e₁, ltb-true t 40 e₂) in simp (e₁, e₂, in₁)
    at false false true e₁ e₂ e₃ = let in₂ : t / 20 ≡ 2 = omega (arith, ltb-false t 40 e₂, ltb-true t 60 e₃) in simp (e₁, e₂, e₃, in₂)
    at false false false e₁ e₂ e₃ =
        let late : 60 ≤ t = ltb-false t 60 e₃ in
        simp (
          e₁,
          e₂,
          e₃,
          ne_eqb (t / 20) 0 (λ e. omega arith),
          ne_eqb (t / 20) 1 (λ e. omega arith),
          ne_eqb (t / 20) 2 (λ e. omega arith),
        )

-- The first n of the steps from step t on, with the words w.
unfoldable after : ℕ → List ℕ → ℕ → FiveWords → FiveWords
after t w zero v = v
after t w (suc n) v = step (t + n) (get_or w n 0) (after t w n v)

module _ (t : ℕ) (fours : t % 4 ≡ 0) where
  one : (n q x : ℕ) {v v' : FiveWords} → (t + n) / 20 ≡ q → v ≡ v' → step_of q x v ≡ step (t + n) x v'
  one n q x {v} {v'} e g =
      ap₂ (λ (r : ℕ) (u : FiveWords). step_of r x u) (sym e) g ∙ quarter_step (t + n) x v'

  sixteen_after : (w : List ℕ) (v : FiveWords) → sixteen_of t w v ≡ after t w 16 v
  unfolding sixteen_of four_of after
  sixteen_after w v =
      one 15 _ _ (omega arith) (one 14 _ _ (omega arith) (one 13 _ _ (omega arith) (one 12 _ _ (omega arith)
      (one 11 _ _ (omega arith) (one 10 _ _ (omega arith) (one 9 _ _ (omega arith) (one 8 _ _ (omega arith)
      (one 7 _ _ (omega arith) (one 6 _ _ (omega arith) (one 5 _ _ (omega arith) (one 4 _ _ (omega arith)
      (one 3 _ _ (omega arith) (one 2 _ _ (omega arith) (one 1 _ _ (omega arith) (one 0 _ _ (omega arith) refl)))))))))))))))

after-steps : (W w : List ℕ) (h : FiveWords) (t : ℕ) → ((j : ℕ) → j < 16 → get_or w j 0 ≡ get_or W (t + j) 0)
    → (n : ℕ) → n ≤ 16 → after t w n (steps W t h) ≡ steps W (t + n) h
unfolding after steps
after-steps W w h t same zero room = let none : t ≡ t + 0 = omega arith in ap (λ (k : ℕ). steps W k h) none
after-steps W w h t same (suc n) room =
    ap₂ (λ (x : ℕ) (v : FiveWords). step (t + n) x v) (same n room) (after-steps W w h t same n (omega arith))
    ∙ ap (λ (k : ℕ). steps W k h) (sym (add-suc t n))

module _ (M : List ℕ) (h : FiveWords) where
  -- The words w go on as the schedule of M does from word t on.
  abbrev GoesOn : List ℕ → ℕ → Type 0
  GoesOn w t = (s : ℕ) → scheduled w s ≡ scheduled M (t + s)

  on_following : (w w' : List ℕ) (t : ℕ) → w' ≡ following w → GoesOn w t → GoesOn w' (t + 16)
  on_following w w' t e g s =
      let same : t + (16 + s) ≡ t + 16 + s = omega arith in
      ap (λ (l : List ℕ). scheduled l s) e ∙ scheduled-following w s ∙ g (16 + s) ∙ ap (scheduled M) same

  -- Sixteen steps more.
  on_sixteen : (w : List ℕ) (t : ℕ) (v v' : FiveWords) → t % 4 ≡ 0 → t ≤ 64 → GoesOn w t
      → v ≡ steps (schedule M 80) t h → v' ≡ sixteen_of t w v → v' ≡ steps (schedule M 80) (t + 16) h
  on_sixteen w t v v' fours room g e e' =
      e' ∙ sixteen_after t fours w v ∙ ap (after t w 16) e
      ∙ after-steps (schedule M 80) w h t
      (λ j below. sym (scheduled_first w j below) ∙ g j ∙ sym (get_d_schedule M 80 (t + j) (omega arith))) 16 (omega arith)

  pub eighty_by_sixteen : (w₁ w₂ w₃ w₄ : List ℕ) (v₁ v₂ v₃ v₄ v₅ : FiveWords)
      → v₁ ≡ sixteen_of 0 M h
      → w₁ ≡ following M → v₂ ≡ sixteen_of 16 w₁ v₁
      → w₂ ≡ following w₁ → v₃ ≡ sixteen_of 32 w₂ v₂
      → w₃ ≡ following w₂ → v₄ ≡ sixteen_of 48 w₃ v₃
      → w₄ ≡ following w₃ → v₅ ≡ sixteen_of 64 w₄ v₄
      → v₅ ≡ eighty M h
  unfolding steps
  eighty_by_sixteen w₁ w₂ w₃ w₄ v₁ v₂ v₃ v₄ v₅ e₁ f₁ e₂ f₂ e₃ f₃ e₄ f₄ e₅ =
      let g₀ : GoesOn M 0 = λ s. (let same : s ≡ 0 + s = omega arith in ap (scheduled M) same) in
      let g₁ : GoesOn w₁ 16 = on_following M w₁ 0 f₁ g₀ in
      let g₂ : GoesOn w₂ 32 = on_following w₁ w₂ 16 f₂ g₁ in
      let g₃ : GoesOn w₃ 48 = on_following w₂ w₃ 32 f₃ g₂ in
      let g₄ : GoesOn w₄ 64 = on_following w₃ w₄ 48 f₄ g₃ in
      let s₁ = on_sixteen M 0 h v₁ refl (omega arith) g₀ refl e₁ in
      let s₂ = on_sixteen w₁ 16 v₁ v₂ refl (omega arith) g₁ s₁ e₂ in
      let s₃ = on_sixteen w₂ 32 v₂ v₃ refl (omega arith) g₂ s₂ e₃ in
      let s₄ = on_sixteen w₃ 48 v₃ v₄ refl (omega arith) g₃ s₃ e₄ in
      on_sixteen w₄ 64 v₄ v₅ refl (omega arith) g₄ s₄ e₅
