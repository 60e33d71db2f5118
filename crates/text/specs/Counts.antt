-- 01, Challenges: a count as a text, read and written.
use Rattle.std.specs.Prelude.{ℕ, Bool, cond, not, ◌&&◌, List, leb, ltb, eqb, length, get_or, Option, Some, None}
use Rattle.text.specs.Kinds.{is_digit}
use Rattle.text.specs.Tests.{every}
use Rattle.text.specs.Digits.{digits_of, number_of}

-- "without a leading zero (a lone `0` is good)": more than one byte, the first a `0`
abbrev pub leading_zero : List ℕ → Bool
leading_zero t = ltb 1 (length t) && eqb (get_or t 0 0) 48

-- "a token of one to four digits without a leading zero"
unfoldable pub is_count : List ℕ → Bool
is_count t = leb 1 (length t) && (leb (length t) 4 && every is_digit t && not (leading_zero t))

-- how many digits a count up to 9,999 has
abbrev pub width_of : ℕ → ℕ
width_of n = cond (ltb n 10) 1 (cond (ltb n 100) 2 (cond (ltb n 1000) 3 4))

-- a count up to 9,999 as it is written
abbrev pub decimal_of : ℕ → List ℕ
decimal_of n = digits_of 10 (width_of n) n

-- the count that a token is, if it is one
abbrev pub counted_of : List ℕ → Option ℕ
counted_of t = cond (is_count t) (Some (number_of 10 t)) None
