-- 01, The card: its lines.
use Rattle.std.specs.Prelude.{ℕ, zero, suc, ◌-◌, List, [], ◌∷◌, ◌++◌, get_or}
use Rattle.hex_text.specs.Hex.{hex_of}
use Rattle.sixwords.specs.Spelling.{words_of}
use Rattle.text.specs.Counts.{decimal_of}

-- "count, space, hex, space, words, newline"
unfoldable pub line_of : ℕ → ℕ → List ℕ
line_of count p = decimal_of count ++ 32 ∷ [] ++ hex_of p ++ 32 ∷ [] ++ words_of p ++ 10 ∷ []

-- "A card has k lines for counts n, n-1, down to n-k+1", with the password at each count
unfoldable pub card_text : (ℕ → ℕ) → ℕ → ℕ → List ℕ
card_text password_at n zero = []
card_text password_at n (suc k) = line_of n (password_at n) ++ card_text password_at (n - 1) k

-- the password at a count of a card whose first line is for the count n, with the passwords in the lines' order
abbrev pub at : List ℕ → ℕ → ℕ → ℕ
at ps n count = get_or ps (n - count) 0
