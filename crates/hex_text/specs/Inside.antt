-- Nothing outside this crate rests on this: hex read digit by digit.
use Rattle.std.specs.Prelude.{ℕ, ◌+◌, cond, ◌&&◌, List, eqb, length, Ok, Err}
use Rattle.refusal.specs.declared.Refusal.{Refusal}
use Rattle.refusal.specs.Answers.{Reading}
use Rattle.text.specs.Tests.{every}
use Rattle.text.specs.Digits.{is_hex, number_after}

-- what is read as hex where n digits that make v came before the digits s
unfoldable pub hex_after : ℕ → ℕ → List ℕ → Reading
hex_after n v s =
    cond (eqb (n + length s) 16 && every is_hex s) (Ok (number_after 16 v s)) (Err Refusal.ReplyUnread)
