-- `read_high` meets its promise: the word from the reversed bytes is the number of the four.
use Prim.Native.Nat.{ℕ, ◌+◌, ◌*◌}
use mathlib.Core.Path.{◌≡◌, sym, ◌∙◌}
use native.Mathlib.Omega.{arith}
use Rattle.password.specs.EightBytesLaws.{number_four}
use Rattle.generator.proofs.fold.read_high.Goals as goal

other_way : (a b c d : ℕ) → d + c * 256 + b * 65536 + a * 16777216 ≡ a * 16777216 + b * 65536 + c * 256 + d
other_way a b c d = omega arith

pub returns : goal.returns
returns c = c.from_high.ensures ∙ other_way _ _ _ _ ∙ sym (number_four _ _ _ _)
