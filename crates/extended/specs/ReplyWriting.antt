-- 02, R-6: the writer of extended replies. Passwords are as 01 writes them.
use Rattle.std.specs.Prelude.{ℕ, cond, List, [], ◌∷◌, ◌++◌, Ok, Err}
use Rattle.refusal.specs.Answers.{Checked, Written}
use Rattle.refusal.specs.Checks.{unless}
use Rattle.text.specs.Counts.{decimal_of}
use Rattle.text.specs.Put.{written_of}
use Rattle.password.specs.declared.algorithm.Algorithm.{Algorithm}
use Rattle.password.specs.Algorithm.{algorithm_name, numbered, algorithm_in}
use Rattle.hex_text.specs.Hex.{hex_of}
use Rattle.sixwords.specs.Spelling.{words_of}
use Rattle.accounts.specs.Accounts.{new_checked}
use Rattle.extended.specs.declared.reply_types.ReplyType.{ReplyType}
use Rattle.extended.specs.ReplyTypes.{type_name, type_numbered, type_checked, type_in, is_init, is_hex}

-- "sixteen lower-case digits without blanks; upper-case words with one space between", "with nothing after"
unfoldable pub password_text : ReplyType → ℕ → List ℕ
password_text kind password = cond (is_hex kind) (hex_of password) (words_of password)

-- "type, colon, password"
unfoldable pub login_text : ReplyType → ℕ → List ℕ
login_text kind password = type_name kind ++ 58 ∷ [] ++ password_text kind password

-- "algorithm, space, count, space, seed", the seed as given
unfoldable pub values_text : Algorithm → ℕ → List ℕ → List ℕ
values_text algorithm count seed = algorithm_name algorithm ++ 32 ∷ [] ++ decimal_of count ++ 32 ∷ [] ++ seed

-- the tail, which an `init` type has behind that: "colon, algorithm, space, count, space, seed, colon, new password"
unfoldable pub tail_text : ReplyType → Algorithm → ℕ → List ℕ → ℕ → List ℕ
tail_text kind algorithm count seed new = 58 ∷ [] ++ (values_text algorithm count seed ++ (58 ∷ [] ++ password_text kind new))

unfoldable pub extended_text : ReplyType → ℕ → Algorithm → ℕ → List ℕ → ℕ → List ℕ
extended_text kind password algorithm count seed new =
    cond (is_init kind) (login_text kind password ++ tail_text kind algorithm count seed new) (login_text kind password)

-- "for `init` types 51, 21, 23, 24"; for the others nothing but the password is looked at
unfoldable pub renewal_checked : ReplyType → ℕ → ℕ → List ℕ → Checked
renewal_checked kind number count seed = cond (is_init kind) (new_checked number count seed) (Ok tt)

-- The writer: 34, then those, "then 40". Type and algorithm are given by their numbers.
abbrev pub text_by_numbers : ℕ → ℕ → ℕ → ℕ → List ℕ → ℕ → List ℕ
text_by_numbers type password number count seed new =
    extended_text (type_in (type_numbered type)) password (algorithm_in (numbered number)) count seed new

unfoldable pub extended_written : ℕ → ℕ → ℕ → ℕ → List ℕ → ℕ → ℕ → Written
extended_written type password number count seed new room =
    unless Err (type_checked (type_numbered type))
    (unless Err (renewal_checked (type_in (type_numbered type)) number count seed)
    (written_of room (text_by_numbers type password number count seed new)))
