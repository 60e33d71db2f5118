-- `length_bytes` meets its promise: the library's bytes of the low-order 64 bits are the standards', and of the number turned round they are those turned
-- round.
use Rattle.std.proofs.Common.{◌≡◌, ℕ, zero, suc, ◌<◌, ◌/◌, ◌%◌, ◌^◌, ◌*◌, [], ◌∷◌, ◌∙◌, refl, ap, sym, arith, length, get_or}
use Rattle.std.specs.Int.{to_le_bytes, to_be_bytes, from_le_bytes, swap_bytes, w64}
use Rattle.std.proofs.lemmas.Nat.{le_bytes_8}
use Rattle.digests.specs.declared.Order.{Order}
use Rattle.digests.specs.Lists.{up_to}
use Rattle.block.specs.Inside.{length_bytes}
use Rattle.block.proofs.length_bytes.Goals as goal
use Rattle.block.proofs.length_bytes.Goals.{in-Little, in-Big}

module _ (n : ℕ) where
  e₀ : n * 8 % 2 ^ 64 % 256 ≡ 8 * n / 2 ^ 0 % 256
  e₀ = omega arith

  e₁ : n * 8 % 2 ^ 64 / 2 ^ 8 % 256 ≡ 8 * n / 2 ^ 8 % 256
  e₁ = omega arith

  e₂ : n * 8 % 2 ^ 64 / 2 ^ 16 % 256 ≡ 8 * n / 2 ^ 16 % 256
  e₂ = omega arith

  e₃ : n * 8 % 2 ^ 64 / 2 ^ 24 % 256 ≡ 8 * n / 2 ^ 24 % 256
  e₃ = omega arith

  e₄ : n * 8 % 2 ^ 64 / 2 ^ 32 % 256 ≡ 8 * n / 2 ^ 32 % 256
  e₄ = omega arith

  e₅ : n * 8 % 2 ^ 64 / 2 ^ 40 % 256 ≡ 8 * n / 2 ^ 40 % 256
  e₅ = omega arith

  e₆ : n * 8 % 2 ^ 64 / 2 ^ 48 % 256 ≡ 8 * n / 2 ^ 48 % 256
  e₆ = omega arith

  e₇ : n * 8 % 2 ^ 64 / 2 ^ 56 % 256 ≡ 8 * n / 2 ^ 56 % 256
  e₇ = omega arith

  little : to_le_bytes w64 (n * 8 % 2 ^ 64) ≡ length_bytes Order.Little n
  unfolding up_to
  little = λ i. e₀ i ∷ e₁ i ∷ e₂ i ∷ e₃ i ∷ e₄ i ∷ e₅ i ∷ e₆ i ∷ e₇ i ∷ []

  big : to_be_bytes w64 (n * 8 % 2 ^ 64) ≡ length_bytes Order.Big n
  unfolding up_to
  big = λ i. e₇ i ∷ e₆ i ∷ e₅ i ∷ e₄ i ∷ e₃ i ∷ e₂ i ∷ e₁ i ∷ e₀ i ∷ []

byte : (x i : ℕ) → get_or (to_be_bytes w64 x) i 0 < 256
byte x zero = omega arith
byte x (suc zero) = omega arith
byte x (suc (suc zero)) = omega arith
byte x (suc (suc (suc zero))) = omega arith
byte x (suc (suc (suc (suc zero)))) = omega arith
byte x (suc (suc (suc (suc (suc zero))))) = omega arith
byte x (suc (suc (suc (suc (suc (suc zero)))))) = omega arith
byte x (suc (suc (suc (suc (suc (suc (suc zero))))))) = omega arith
byte x (suc (suc (suc (suc (suc (suc (suc (suc i)))))))) = omega arith

turned : (x : ℕ) → to_le_bytes w64 (swap_bytes w64 x) ≡ to_be_bytes w64 x
turned x =
    let e : swap_bytes w64 x ≡ from_le_bytes w64 (to_be_bytes w64 x) = omega arith in
    le_bytes_8 (to_be_bytes w64 x) (swap_bytes w64 x) refl (byte x) e

pub returns : goal.returns
returns c =
    let n = length c.args.m.now in
    c.to_le_bytes.ensures
    ∙ elim c.match-order.branch [
      | in-Little w ↦ ap (to_le_bytes w64) w.first_low-is ∙ little n ∙ ap (λ (order : Order). length_bytes order n) (sym w.in-Little.is)
      | in-Big w ↦
          ap (to_le_bytes w64) (w.first_low-is ∙ w.swap_bytes-first_low.ensures) ∙ turned (n * 8 % 2 ^ 64) ∙ big n
          ∙ ap (λ (order : Order). length_bytes order n) (sym w.in-Big.is)
    ]
