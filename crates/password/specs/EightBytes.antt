-- A password's eight bytes and its number. Document 01, 'From pass-phrase to password'.
use Rattle.std.specs.Prelude.{ℕ, ◌+◌, ◌*◌, ◌/◌, ◌%◌, ◌^◌, List, [], ◌∷◌}

-- "The 8 bytes are one 64-bit number, first byte most significant": n and then the bytes s.
unfoldable pub number_after : ℕ → List ℕ → ℕ
number_after n [] = n
number_after n (b ∷ s) = number_after (n * 256 + b) s

abbrev pub number_of : List ℕ → ℕ
number_of bytes = number_after 0 bytes

-- The number as its 8 bytes again.
abbrev pub bytes_of : ℕ → List ℕ
bytes_of p =
    (p / 2 ^ 56 % 256) ∷ (p / 2 ^ 48 % 256) ∷ (p / 2 ^ 40 % 256) ∷ (p / 2 ^ 32 % 256)
    ∷ (p / 2 ^ 24 % 256) ∷ (p / 2 ^ 16 % 256) ∷ (p / 2 ^ 8 % 256) ∷ (p % 256) ∷ []
