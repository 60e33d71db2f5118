-- An operation in the code's order is the RFC's: its terms, summed in either order, are one sum.
use Rattle.std.specs.Prelude.{ℕ, ◌+◌, ◌%◌, ◌^◌, ◌≡◌, List, get_or}
use Rattle.std.proofs.Common.{ap, ap₂, sym, ◌∙◌, arith}
use Rattle.std.proofs.Math.Nat.{mod-add-mod, add-mod-mod}
use Rattle.std.specs.Int.Bits.{bit_and, bit_or}
use Rattle.std.proofs.lemmas.Nat.{and_comm}
use Rattle.digests.specs.declared.State.{State}
use Rattle.digests.specs.Words32.{add, rotated, complement}
use Rattle.digests.specs.Rounds.{Round, G, operation, performed}
use Rattle.block.specs.ChoiceLaws.{halves_summed}
use Rattle.md5_hash.specs.Inside.{operation_of, four_of, operation_summed}

-- The sum of the RFC's operation, with the function's value v summed last; and with its second half u summed before the first.
reordered : (a v x t : ℕ) → add (add a (add x t)) v ≡ add (add (add a v) x) t
reordered a v x t =
    let moved : a + (x + t) + v ≡ a + v + x + t = omega arith in
    simp (mod-add-mod, add-mod-mod) (ap (λ (n : ℕ). n % 2 ^ 32) moved)

reordered_halves : (a v u x t : ℕ) → add (add a (add (add x t) u)) v ≡ add (add (add a (v + u)) x) t
reordered_halves a v u x t =
    let moved : a + (x + t + u) + v ≡ a + (v + u) + x + t = omega arith in
    simp (mod-add-mod, add-mod-mod) (ap (λ (n : ℕ). n % 2 ^ 32) moved)

-- 3.4, G: its halves share no bit.
pub g_halves : (x y z : ℕ) → G x y z ≡ bit_and x z + bit_and y (complement z)
g_halves x y z =
    ap₂ bit_or (and_comm x z) (and_comm y (complement z))
    ∙ halves_summed 32 z x y
    ∙ ap₂ (λ (m n : ℕ). m + n) (and_comm z x) (and_comm (complement z) y)

-- The word and the constant of step i of the round r, summed: k is the word's place, T the round's constants.
pub word_and_constant : (r : Round) (X T : List ℕ) (i k y : ℕ) → T ≡ r.constants → k ≡ get_or r.order i 0
    → y ≡ add (get_or X k 0) (get_or T i 0) → y ≡ add (get_or X (get_or r.order i 0) 0) (get_or r.constants i 0)
word_and_constant r X T i k y constants place e =
    e ∙ ap₂ (λ (m : ℕ) (l : List ℕ). add (get_or X m 0) (get_or l i 0)) place constants

-- An operation by its sums. y is the word and the constant of step i of the round r.
module _ (r : Round) (X : List ℕ) (i y s : ℕ) (q : State)
    (loaded : y ≡ add (get_or X (get_or r.order i 0) 0) (get_or r.constants i 0)) (shifted : s ≡ get_or r.shifts i 0) where
  abbrev x : ℕ
  x = get_or X (get_or r.order i 0) 0

  abbrev t : ℕ
  t = get_or r.constants i 0

  abbrev value : ℕ
  value = r.function q.b q.c q.d

  -- The same sum makes the same operation.
  by_sum : (v z : ℕ) → add (add q.a z) v ≡ add (add (add q.a value) x) t → operation_summed v z s q ≡ operation_of r X i q
  unfolding operation_of operation operation_summed
  by_sum v z e = λ k. record { a = q.d; b = add q.b (rotated (e k) (shifted k)); c = q.b; d = q.c }

  pub operation_whole : (v : ℕ) (p : State) → v ≡ value → p ≡ operation_summed v y s q → p ≡ operation_of r X i q
  operation_whole v p e done =
      done
      ∙ by_sum v y (ap₂ (λ (m n : ℕ). add (add q.a m) n) loaded e ∙ reordered q.a value x t)

  pub operation_halves : (v u z : ℕ) (p : State) → value ≡ v + u → z ≡ add y u → p ≡ operation_summed v z s q → p ≡ operation_of r X i q
  operation_halves v u z p e summed done =
      done
      ∙ by_sum v z
      (ap (λ (m : ℕ). add (add q.a m) v) (summed ∙ ap (λ (m : ℕ). add m u) loaded)
      ∙ reordered_halves q.a v u x t
      ∙ ap (λ (m : ℕ). add (add (add q.a m) x) t) (sym e))

-- Four times the operations of four steps are a round's sixteen.
pub sixteen_performed : (r : Round) (X : List ℕ) (q₀ q₁ q₂ q₃ q₄ : State)
    → q₁ ≡ four_of r X 0 q₀
    → q₂ ≡ four_of r X 4 q₁
    → q₃ ≡ four_of r X 8 q₂
    → q₄ ≡ four_of r X 12 q₃
    → q₄ ≡ performed r X 16 q₀
unfolding performed four_of operation_of
sixteen_performed r X q₀ q₁ q₂ q₃ q₄ e₁ e₂ e₃ e₄ =
    e₄ ∙ ap (four_of r X 12) (e₃ ∙ ap (four_of r X 8) (e₂ ∙ ap (four_of r X 4) e₁))
