-- A password's eight bytes are its number again.
use Rattle.std.specs.Prelude.{ℕ, ◌+◌, ◌*◌, ◌/◌, ◌%◌, ◌^◌, ◌<◌, ◌≡◌, [], ◌∷◌}
use Rattle.std.proofs.Common.{sym, ap, ◌∙◌, div-add-mod', arith, shr-shr}
use Rattle.password.specs.EightBytes.{number_after, number_of, bytes_of}

-- One byte more of a number's.
next_byte : (p k : ℕ) → p / 2 ^ (k + 8) * 256 + p / 2 ^ k % 256 ≡ p / 2 ^ k
next_byte p k = ap (λ (q : ℕ). q * 256 + p / 2 ^ k % 256) (sym (shr-shr p k 8)) ∙ div-add-mod' (p / 2 ^ k) 256

pub number_bytes : (p : ℕ) → p < 2 ^ 64 → number_of (bytes_of p) ≡ p
unfolding number_after
number_bytes p h =
    let after : (ℕ → ℕ → ℕ) = λ n k. n * 256 + p / 2 ^ k % 256 in
    let s₀ : after 0 56 ≡ p / 2 ^ 56 = omega arith in
    let s₁ : after (after 0 56) 48 ≡ p / 2 ^ 48 = ap (λ n. after n 48) s₀ ∙ next_byte p 48 in
    let s₂ = ap (λ n. after n 40) s₁ ∙ next_byte p 40 in
    let s₃ = ap (λ n. after n 32) s₂ ∙ next_byte p 32 in
    let s₄ = ap (λ n. after n 24) s₃ ∙ next_byte p 24 in
    let s₅ = ap (λ n. after n 16) s₄ ∙ next_byte p 16 in
    let s₆ = ap (λ n. after n 8) s₅ ∙ next_byte p 8 in
    ap (λ n. n * 256 + p % 256) s₆ ∙ div-add-mod' p 256

-- Four bytes as a number, and eight: the first four, then the last four.
pub number_four : (b₀ b₁ b₂ b₃ : ℕ)
    → number_of (b₀ ∷ b₁ ∷ b₂ ∷ b₃ ∷ []) ≡ b₀ * 16777216 + b₁ * 65536 + b₂ * 256 + b₃
unfolding number_after
number_four b₀ b₁ b₂ b₃ = omega arith

pub number_eight : (b₀ b₁ b₂ b₃ b₄ b₅ b₆ b₇ : ℕ)
    → number_of (b₀ ∷ b₁ ∷ b₂ ∷ b₃ ∷ b₄ ∷ b₅ ∷ b₆ ∷ b₇ ∷ [])
    ≡ (b₀ * 16777216 + b₁ * 65536 + b₂ * 256 + b₃) * 4294967296
    + (b₄ * 16777216 + b₅ * 65536 + b₆ * 256 + b₇)
unfolding number_after
number_eight b₀ b₁ b₂ b₃ b₄ b₅ b₆ b₇ = omega arith
