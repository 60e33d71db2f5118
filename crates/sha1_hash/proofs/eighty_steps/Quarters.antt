-- A step by the number of its quarter, and four steps of a quarter at a time.
use Prim.Native.Nat.{ℕ, ◌+◌, ◌/◌}
use mathlib.Core.Path.{◌≡◌, ap, ap₂, sym, ◌∙◌}
use mathlib.Core.List.{List}
use Rattle.digests.specs.declared.FiveWords.{FiveWords}
use Rattle.digests.specs.Sha1.{step_with}
use Rattle.block.specs.declared.by_four.Four.{Four}
use Rattle.block.specs.ByFour.{four_at}
use Rattle.sha1_hash.specs.declared.eighty_steps.Quarter.{Quarter}
use Rattle.sha1_hash.specs.Inside.{number, function_of, constant_of, step_of, four_of, sixteen_of}

-- A step with the value x of the function of quarter q, and its constant, is one of quarter r, where r is q.
pub of_quarter : (q r : Quarter) (w x : ℕ) (v p : FiveWords) → r ≡ q
    → x ≡ function_of (number q) v.b v.c v.d → p ≡ step_with x (constant_of (number q)) w v → p ≡ step_of (number r) w v
unfolding step_of
of_quarter q r w x v p e g h =
    h ∙ ap (λ (y : ℕ). step_with y (constant_of (number q)) w v) g ∙ sym (ap (λ (n : Quarter). step_of (number n) w v) e)

-- Four steps, each on what the one before left.
pub four_steps : (n : ℕ) (w : Four) (v₀ v₁ v₂ v₃ v₄ : FiveWords)
    → v₁ ≡ step_of n w.0 v₀
    → v₂ ≡ step_of n w.1 v₁
    → v₃ ≡ step_of n w.2 v₂
    → v₄ ≡ step_of n w.3 v₃
    → v₄ ≡ four_of n w v₀
unfolding four_of
four_steps n w v₀ v₁ v₂ v₃ v₄ e₁ e₂ e₃ e₄ =
    e₄ ∙ ap (step_of n w.3) (e₃ ∙ ap (step_of n w.2) (e₂ ∙ ap (step_of n w.1) e₁))

-- Sixteen steps, four at a time.
pub sixteen_steps : (t : ℕ) (w : List ℕ) (p₁ p₂ p₃ p₄ : Four) (v₀ v₁ v₂ v₃ v₄ : FiveWords)
    → p₁ ≡ four_at w 0 → v₁ ≡ four_of (t / 20) p₁ v₀
    → p₂ ≡ four_at w 4 → v₂ ≡ four_of ((t + 4) / 20) p₂ v₁
    → p₃ ≡ four_at w 8 → v₃ ≡ four_of ((t + 8) / 20) p₃ v₂
    → p₄ ≡ four_at w 12 → v₄ ≡ four_of ((t + 12) / 20) p₄ v₃
    → v₄ ≡ sixteen_of t w v₀
unfolding sixteen_of
sixteen_steps t w p₁ p₂ p₃ p₄ v₀ v₁ v₂ v₃ v₄ g₁ e₁ g₂ e₂ g₃ e₃ g₄ e₄ =
    let on : ℕ → Four → FiveWords → FiveWords = λ n p. four_of ((t + n) / 20) p in
    e₄ ∙ ap₂ (on 12) g₄ (e₃ ∙ ap₂ (on 8) g₃ (e₂ ∙ ap₂ (on 4) g₂ (e₁ ∙ ap (λ (p : Four). four_of (t / 20) p v₀) g₁)))
