-- The passwords of a card, filled in from the last place up the chain.
use Prim.Native.Nat.{ℕ, suc, ◌+◌, ◌-◌, ◌≤◌, ◌<◌}
use mathlib.Core.Path.{◌≡◌, sym, ◌∙◌, ap}
use mathlib.Core.List.{List}
use native.Mathlib.Omega.{arith}
use lib.ListN.{length, get_or, set}
use lib.Seq.{get_or-set_same, get_or-set_other}
use lib.Dec.{eqb, leb}
use borrow.Author.Tests.{eqb-true, eqb-false, leb-true, leb-false}
use Rattle.text.specs.Tests.{cases}
use Rattle.password.specs.declared.algorithm.Algorithm.{Algorithm}
use Rattle.password.specs.Password.{hash, bytes_of, password}

-- of k places those from i on hold the passwords from p's count up, and x comes next
abbrev pub Filled : Algorithm → ℕ → ℕ → List ℕ → ℕ → ℕ → Type 0
Filled algorithm p k ps x i =
    (phrase seed : List ℕ) (low : ℕ) → p ≡ password algorithm phrase seed low
    → (x ≡ password algorithm phrase seed (low + (k - i)))
    × ((j : ℕ) → i ≤ j → j < k → get_or ps j 0 ≡ password algorithm phrase seed (low + (k - 1 - j)))

pub none_filled : (algorithm : Algorithm) (p k : ℕ) (ps : List ℕ) → Filled algorithm p k ps p k
none_filled algorithm p k ps phrase seed low e =
    let same : low ≡ low + (k - k) = omega arith in
    (e ∙ ap (password algorithm phrase seed) same, λ j h g. absurd (omega arith))

pub one_more : (algorithm : Algorithm) (p k : ℕ) (ps : List ℕ) (x y i : ℕ) → i ≤ k → k ≤ length ps → 0 < i
    → y ≡ hash algorithm (bytes_of x) → Filled algorithm p k ps x i → Filled algorithm p k (set ps (i - 1) x) y (i - 1)
unfolding password
one_more algorithm p k ps x y i h l z s f phrase seed low e =
    let known = f phrase seed low e in
    let up : suc (low + (k - i)) ≡ low + (k - (i - 1)) = omega arith in
    let here : low + (k - i) ≡ low + (k - 1 - (i - 1)) = omega arith in (
      s ∙ ap (λ (v : ℕ). hash algorithm (bytes_of v)) known.0 ∙ ap (password algorithm phrase seed) up,
      λ j a b. cases (eqb j (i - 1))
          (λ t.
          let same = eqb-true j (i - 1) t in
          ap (λ (n : ℕ). get_or (set ps (i - 1) x) n 0) same ∙ get_or-set_same ps (i - 1) x 0 (omega arith) ∙ known.0
          ∙ ap (password algorithm phrase seed) here ∙ ap (λ (n : ℕ). password algorithm phrase seed (low + (k - 1 - n))) (sym same))
          (λ t. let other = eqb-false j (i - 1) t in get_or-set_other ps (i - 1) j x 0 other ∙ known.1 j (above j a other) b),
    )
  where
    above : (j : ℕ) → i - 1 ≤ j → (j ≡ i - 1 → ⊥) → i ≤ j
    above j a o = cases (leb i j) (leb-true i j) (λ t. let below = leb-false i j t in absurd (o (omega arith)))
