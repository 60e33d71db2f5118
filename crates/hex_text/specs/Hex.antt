-- 01, Six words and hex: a password as hex.
use Rattle.std.specs.Prelude.{ℕ, Bool, cond, ◌&&◌, List, eqb, length, Ok, Err}
use Rattle.refusal.specs.declared.Refusal.{Refusal}
use Rattle.refusal.specs.Answers.{Reading}
use Rattle.text.specs.Tests.{every}
use Rattle.text.specs.Digits.{is_hex, digits_of, number_of}

-- "Written hex is 16 lower-case digits"
abbrev pub hex_of : ℕ → List ℕ
hex_of p = digits_of 16 16 p

-- "exactly sixteen hex digits of either case"
unfoldable pub sixteen_digits : List ℕ → Bool
sixteen_digits s = eqb (length s) 16 && every is_hex s

-- "it is read as hex"; 33: "neither six words nor sixteen digits"
unfoldable pub hex_reading : List ℕ → Reading
hex_reading s = cond (sixteen_digits s) (Ok (number_of 16 s)) (Err Refusal.ReplyUnread)
