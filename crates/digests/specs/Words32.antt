-- Words of 32 bits, as both standards have them: RFC 1321, 2; FIPS 180-4, 2.2.2 and 3.
use Rattle.std.specs.Prelude.{ℕ, ◌+◌, ◌*◌, ◌-◌, ◌/◌, ◌%◌, ◌^◌, List, [], ◌∷◌}
use Rattle.std.specs.Int.Bits.{bit_or}
use Rattle.digests.specs.declared.Order.{Order}

-- RFC 1321, 2; FIPS 180-4, 3.2 and 2.2.2: X + Y, modulo 2^32; X <<< s or ROTL^s(X), X's bits shifted left
-- around by s; not(X) or ¬X
abbrev pub add : ℕ → ℕ → ℕ
add x y = (x + y) % 2 ^ 32

abbrev pub rotated : ℕ → ℕ → ℕ
rotated x s = bit_or (x * 2 ^ s % 2 ^ 32) (x / 2 ^ (32 - s))

abbrev pub complement : ℕ → ℕ
complement x = 2 ^ 32 - 1 - x

-- RFC 1321, 2, "low-order byte first"; FIPS 180-4, 3.1, the high-order byte first: the word that the four
-- bytes b₀ to b₃ are, as they stand in a message.
abbrev pub word : Order → ℕ → ℕ → ℕ → ℕ → ℕ
word Order.Little b₀ b₁ b₂ b₃ = b₀ + b₁ * 256 + b₂ * 65536 + b₃ * 16777216
word Order.Big b₀ b₁ b₂ b₃ = b₃ + b₂ * 256 + b₁ * 65536 + b₀ * 16777216

-- A word as its four bytes again.
abbrev pub bytes4 : Order → ℕ → List ℕ
bytes4 Order.Little x = (x % 256) ∷ (x / 256 % 256) ∷ (x / 65536 % 256) ∷ (x / 16777216 % 256) ∷ []
bytes4 Order.Big x = (x / 16777216 % 256) ∷ (x / 65536 % 256) ∷ (x / 256 % 256) ∷ (x % 256) ∷ []
