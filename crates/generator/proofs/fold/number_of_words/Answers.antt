-- `number_of_words` meets its promise: the first word's four bytes, then the second's.
use Prim.Native.Nat.{ℕ, ◌+◌, ◌*◌, ◌/◌, ◌%◌, ◌<◌}
use mathlib.Core.Path.{◌≡◌, sym, ap₂, ◌∙◌}
use native.Mathlib.Omega.{arith}
use Rattle.digests.specs.declared.Order.{Order}
use Rattle.digests.specs.Words32.{bytes4}
use Rattle.password.specs.Password.{number_of}
use Rattle.password.specs.EightBytesLaws.{number_four, number_eight}
use Rattle.generator.proofs.fold.number_of_words.Goals as goal

four_bytes_lem : (x y : ℕ) → x ≡ number_of (bytes4 Order.Little y) → x < 4294967296
four_bytes_lem x y e = omega (arith, e ∙ number_four (y % 256) (y / 256 % 256) (y / 65536 % 256) (y / 16777216 % 256))

pub overflow_mul-result : goal.overflow_mul-result
overflow_mul-result c = omega (arith, four_bytes_lem _ _ c.read_high.ensures)

pub overflow_add-result : goal.overflow_add-result
overflow_add-result c =
    omega (arith, four_bytes_lem _ _ c.read_high.ensures, four_bytes_lem _ _ c.read_high-2.ensures)

pub returns : goal.returns
returns c = ap₂ (λ (x y : ℕ). x * 4294967296 + y)
    (c.read_high.ensures ∙ number_four _ _ _ _) (c.read_high-2.ensures ∙ number_four _ _ _ _)
    ∙ sym (number_eight _ _ _ _ _ _ _ _)
