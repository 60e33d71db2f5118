-- Digits in base 10 and 16: how a number is written with them, and what they stand for.
use Rattle.std.specs.Prelude.{ℕ, zero, suc, ◌+◌, ◌-◌, ◌*◌, ◌/◌, ◌%◌, Bool, cond, Option, None, Some, ◌&&◌, ◌||◌, List, [], ◌∷◌, ◌++◌, leb, ltb}
use Rattle.text.specs.Kinds.{is_digit, lower_of}

-- the byte for the digit d: `0` to `9`, then `a` to `f`
abbrev pub digit_of : ℕ → ℕ
digit_of d = cond (ltb d 10) (48 + d) (87 + d)

-- the last k digits of n in that base, the most significant first
unfoldable pub digits_of : ℕ → ℕ → ℕ → List ℕ
digits_of base zero n = []
digits_of base (suc k) n = digits_of base k (n / base) ++ digit_of (n % base) ∷ []

-- `0` to `9`, and `a` to `f` in either case
abbrev pub is_hex : ℕ → Bool
is_hex b = is_digit b || (leb 97 (lower_of b) && leb (lower_of b) 102)

-- what a digit stands for, in either case; 16 for a byte that is none
abbrev pub digit_value : ℕ → ℕ
digit_value b = cond (is_digit b) (b - 48) (cond (leb 97 (lower_of b) && leb (lower_of b) 102) (lower_of b - 87) 16)

-- what a hex digit of either case stands for, if the byte is one
abbrev pub digit_found : ℕ → Option ℕ
digit_found b = cond (is_hex b) (Some (digit_value b)) None

-- the number whose digits in that base are those of n and then the digits s
unfoldable pub number_after : ℕ → ℕ → List ℕ → ℕ
number_after base n [] = n
number_after base n (d ∷ s) = number_after base (n * base + digit_value d) s

-- the number that the digits s stand for
abbrev pub number_of : ℕ → List ℕ → ℕ
number_of base s = number_after base 0 s
