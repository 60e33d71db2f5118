-- 02, R-6: "the types `hex`, `word`, `init-hex` and `init-word` as that RFC lays them out": RFC 2243. By name, and by number for C.
use Rattle.std.specs.Prelude.{ℕ, Bool, true, false, cond, List, eqb, Option, Some, None, Ok, Err}
use Rattle.refusal.specs.declared.Refusal.{Refusal}
use Rattle.refusal.specs.Answers.{Checked}
use Rattle.text.specs.Quoted.{codes}
use Rattle.text.specs.Tests.{same}
use Rattle.extended.specs.declared.reply_types.ReplyType.{ReplyType}

unfoldable pub type_name : ReplyType → List ℕ
type_name ReplyType.Hex = codes "hex"
type_name ReplyType.Word = codes "word"
type_name ReplyType.InitHex = codes "init-hex"
type_name ReplyType.InitWord = codes "init-word"

abbrev pub type_number : ReplyType → ℕ
type_number ReplyType.Hex = 1
type_number ReplyType.Word = 2
type_number ReplyType.InitHex = 3
type_number ReplyType.InitWord = 4

-- The type that a test finds, of the four that there are.
abbrev pub type_by : (ReplyType → Bool) → Option ReplyType
type_by test =
    cond (test ReplyType.Hex) (Some ReplyType.Hex)
    (cond (test ReplyType.Word) (Some ReplyType.Word)
    (cond (test ReplyType.InitHex) (Some ReplyType.InitHex)
    (cond (test ReplyType.InitWord) (Some ReplyType.InitWord) None)))

-- The type with that name, whole and in lower case, and the one with that number.
abbrev pub typed : List ℕ → Option ReplyType
typed name = type_by (λ kind. same name (type_name kind))

abbrev pub type_numbered : ℕ → Option ReplyType
type_numbered number = type_by (λ kind. eqb number (type_number kind))

-- The number of a type that was found, for who has its name; 0 where there is none.
abbrev pub typed_number : Option ReplyType → ℕ
typed_number (Some kind) = type_number kind
typed_number None = 0

-- 34: "unknown type"
abbrev pub type_checked : Option ReplyType → Checked
type_checked (Some kind) = Ok tt
type_checked None = Err Refusal.TypeUnknown

-- The type behind that check. Where there is none the answer is 34, and what stands here is not looked at.
abbrev pub type_in : Option ReplyType → ReplyType
type_in (Some kind) = kind
type_in None = ReplyType.Hex

-- "The two `init` types do what Renew does."
abbrev pub is_init : ReplyType → Bool
is_init ReplyType.Hex = false
is_init ReplyType.Word = false
is_init ReplyType.InitHex = true
is_init ReplyType.InitWord = true

-- Passwords are hex, and words in the others.
abbrev pub is_hex : ReplyType → Bool
is_hex ReplyType.Hex = true
is_hex ReplyType.Word = false
is_hex ReplyType.InitHex = true
is_hex ReplyType.InitWord = false
