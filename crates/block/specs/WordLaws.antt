-- A word and its four bytes, in either byte order.
use Rattle.std.specs.Prelude.{◌≡◌, ℕ, ◌+◌, ◌*◌, ◌/◌, ◌%◌, ◌^◌, ◌<◌, List, [], ◌∷◌, ◌++◌, length, slice_index, refl}
use Rattle.std.proofs.Common.{sym, ap, ◌∙◌, div-add-mod', arith, shr-shr}
use Rattle.digests.specs.declared.Order.{Order}
use Rattle.digests.specs.Words32.{word, bytes4}

pub length-bytes4 : (order : Order) (x : ℕ) → length (bytes4 order x) ≡ 4
length-bytes4 Order.Little x = refl
length-bytes4 Order.Big x = refl

-- The bytes of two words.
abbrev pub bytes8 : Order → ℕ → ℕ → List ℕ
bytes8 order x y = bytes4 order x ++ bytes4 order y

-- A number from its four digits in base 256, one at a time.
joined : (x r₀ q₁ r₁ q₂ r₂ q₃ : ℕ) → q₁ * 256 + r₀ ≡ x → q₂ * 256 + r₁ ≡ q₁ → q₃ * 256 + r₂ ≡ q₂
    → r₀ + r₁ * 256 + r₂ * 65536 + q₃ * 16777216 ≡ x
joined x r₀ q₁ r₁ q₂ r₂ q₃ e₁ e₂ e₃ = omega arith

digits_word : (x : ℕ) → x < 2 ^ 32
    → x % 256 + x / 256 % 256 * 256 + x / 65536 % 256 * 65536 + x / 16777216 % 256 * 16777216 ≡ x
digits_word x h =
    let second : x / 65536 * 256 + x / 256 % 256 ≡ x / 256 =
    ap (λ (q : ℕ). q * 256 + x / 256 % 256) (sym (shr-shr x 8 8)) ∙ div-add-mod' (x / 256) 256 in
    let third : x / 16777216 * 256 + x / 65536 % 256 ≡ x / 65536 =
    ap (λ (q : ℕ). q * 256 + x / 65536 % 256) (sym (shr-shr x 16 8)) ∙ div-add-mod' (x / 65536) 256 in
    let last : x / 16777216 % 256 ≡ x / 16777216 = omega arith in
    rw last (joined x (x % 256) (x / 256) (x / 256 % 256) (x / 65536) (x / 65536 % 256) (x / 16777216) (div-add-mod' x 256) second third)

-- The word that the first four of a message's bytes are.
abbrev pub first_word : Order → List ℕ → ℕ
first_word order m = word order (slice_index m 0) (slice_index m 1) (slice_index m 2) (slice_index m 3)

-- The four bytes of a message from a place on.
abbrev pub four_bytes : List ℕ → ℕ → List ℕ
four_bytes m at = slice_index m at ∷ slice_index m (at + 1) ∷ slice_index m (at + 2) ∷ slice_index m (at + 3) ∷ []

-- A word written as four bytes, and read back.
pub word_bytes4 : (order : Order) (x : ℕ) → x < 2 ^ 32 → first_word order (bytes4 order x) ≡ x
word_bytes4 Order.Little x h = digits_word x h
word_bytes4 Order.Big x h = digits_word x h

-- Four digits in base 256 as a number, and taken apart again, with f for what is made of them.
digits_apart : {A : Type 0} (f : ℕ → ℕ → ℕ → ℕ → A) (b₀ b₁ b₂ b₃ : ℕ) → b₀ < 256 → b₁ < 256 → b₂ < 256 → b₃ < 256
    → (let x : ℕ = b₀ + b₁ * 256 + b₂ * 65536 + b₃ * 16777216 in
    f (x % 256) (x / 256 % 256) (x / 65536 % 256) (x / 16777216 % 256) ≡ f b₀ b₁ b₂ b₃)
digits_apart f b₀ b₁ b₂ b₃ h₀ h₁ h₂ h₃ =
    let x : ℕ = b₀ + b₁ * 256 + b₂ * 65536 + b₃ * 16777216 in
    let q₁ : x / 256 ≡ b₁ + b₂ * 256 + b₃ * 65536 = omega arith in
    let q₂ : x / 65536 ≡ b₂ + b₃ * 256 = omega arith in
    let q₃ : x / 16777216 ≡ b₃ = omega arith in
    let e₀ : x % 256 ≡ b₀ = omega arith in
    let e₁ : x / 256 % 256 ≡ b₁ = rw q₁ (omega arith) in
    let e₂ : x / 65536 % 256 ≡ b₂ = rw q₂ (omega arith) in
    let e₃ : x / 16777216 % 256 ≡ b₃ = rw q₃ (omega arith) in
    λ i. f (e₀ i) (e₁ i) (e₂ i) (e₃ i)

-- Four bytes read as a word, and written again.
pub bytes4-word : (order : Order) (b₀ b₁ b₂ b₃ : ℕ) → b₀ < 256 → b₁ < 256 → b₂ < 256 → b₃ < 256
    → bytes4 order (word order b₀ b₁ b₂ b₃) ≡ b₀ ∷ b₁ ∷ b₂ ∷ b₃ ∷ []
bytes4-word Order.Little b₀ b₁ b₂ b₃ h₀ h₁ h₂ h₃ =
    digits_apart (λ d₀ d₁ d₂ d₃. d₀ ∷ d₁ ∷ d₂ ∷ d₃ ∷ []) b₀ b₁ b₂ b₃ h₀ h₁ h₂ h₃
bytes4-word Order.Big b₀ b₁ b₂ b₃ h₀ h₁ h₂ h₃ =
    digits_apart (λ d₀ d₁ d₂ d₃. d₃ ∷ d₂ ∷ d₁ ∷ d₀ ∷ []) b₃ b₂ b₁ b₀ h₃ h₂ h₁ h₀
