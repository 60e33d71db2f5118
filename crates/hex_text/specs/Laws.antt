-- How long a password's hex is.
use Rattle.std.specs.Prelude.{ℕ, ◌≡◌, length}
use Rattle.text.specs.DigitLaws.{length_digits}
use Rattle.hex_text.specs.Hex.{hex_of}

pub hex_length : (p : ℕ) → length (hex_of p) ≡ 16
hex_length p = length_digits 16 16 p
