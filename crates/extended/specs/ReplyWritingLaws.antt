-- Laws of what the writer of extended replies writes: how long the parts are, and what values that are good say.
use Rattle.std.specs.Prelude.{ℕ, ◌+◌, ◌≤◌, ◌≡◌, Bool, true, false, cond, ◌&&◌, List, [], ◌∷◌, leb, length, Some, Ok}
use Rattle.std.proofs.Common.{ap, arith, length-append, leb-true}
use Rattle.refusal.specs.declared.Refusal.{Refusal}
use Rattle.refusal.specs.Laws.{must_good, each_good}
use Rattle.text.specs.Tests.{both, either}
use Rattle.text.specs.Quoted.{codes}
use Rattle.text.specs.Counts.{width_of}
use Rattle.text.specs.CountLaws.{length_decimal}
use Rattle.password.specs.declared.algorithm.Algorithm.{Algorithm}
use Rattle.password.specs.Algorithm.{algorithm_name, numbered, algorithm_checked, algorithm_in}
use Rattle.password.specs.AlgorithmLaws.{checked_known}
use Rattle.password.specs.PhraseAndSeed.{seed_checked}
use Rattle.hex_text.specs.Hex.{hex_of}
use Rattle.hex_text.specs.Laws.{hex_length}
use Rattle.sixwords.specs.Spelling.{words_of}
use Rattle.sixwords.specs.SpellingLaws.{words_length}
use Rattle.accounts.specs.Accounts.{count_within, new_checked}
use Rattle.extended.specs.declared.reply_types.ReplyType.{ReplyType}
use Rattle.extended.specs.ReplyTypes.{type_name, is_hex}
use Rattle.extended.specs.ReplyWriting.{password_text, login_text, values_text, tail_text}

-- ---- a password, by its type

pub password_hex : (kind : ReplyType) (password : ℕ) → is_hex kind ≡ true → password_text kind password ≡ hex_of password
unfolding password_text
password_hex kind password e = ap (λ (b : Bool). cond b (hex_of password) (words_of password)) e

pub password_words : (kind : ReplyType) (password : ℕ) → is_hex kind ≡ false → password_text kind password ≡ words_of password
unfolding password_text
password_words kind password e = ap (λ (b : Bool). cond b (hex_of password) (words_of password)) e

-- ---- lengths

pub type_few : (kind : ReplyType) → length (type_name kind) ≤ 9
unfolding type_name codes
type_few ReplyType.Hex = omega arith
type_few ReplyType.Word = omega arith
type_few ReplyType.InitHex = omega arith
type_few ReplyType.InitWord = omega arith

pub password_few : (kind : ReplyType) (p : ℕ) → length (password_text kind p) ≤ 29
unfolding password_text
password_few kind p =
    either (λ (l : List ℕ). length l ≤ 29) (is_hex kind) (λ e. omega (arith, hex_length p)) (λ e. words_length p)

length_login : (kind : ReplyType) (password : ℕ)
    → length (login_text kind password) ≡ length (type_name kind) + length (password_text kind password) + 1
unfolding login_text
length_login kind password = simp length-append (omega arith)

pub login_few : (kind : ReplyType) (password : ℕ) → length (login_text kind password) ≤ 39
login_few kind password = omega (arith, length_login kind password, type_few kind, password_few kind password)

length_values : (algorithm : Algorithm) (count : ℕ) (seed : List ℕ)
    → length (values_text algorithm count seed) ≡ length (algorithm_name algorithm) + width_of count + length seed + 2
unfolding values_text
length_values algorithm count seed = simp length-append (omega (arith, length_decimal count))

pub length_tail : (kind : ReplyType) (algorithm : Algorithm) (count : ℕ) (seed : List ℕ) (new : ℕ)
    → length (tail_text kind algorithm count seed new)
    ≡ length (algorithm_name algorithm) + width_of count + length seed + length (password_text kind new) + 4
unfolding tail_text
length_tail kind algorithm count seed new = simp length-append (omega (arith, length_values algorithm count seed))

-- ---- values that are good: a count of at most 9,999, an algorithm that there is, and a good seed

pub good_values : (number count : ℕ) (seed : List ℕ) → new_checked number count seed ≡ Ok tt
    → (count ≤ 9999) × (numbered number ≡ Some (algorithm_in (numbered number))) × (seed_checked seed ≡ Ok tt)
unfolding new_checked
good_values number count seed e =
    let each = each_good (count_within count ∷ algorithm_checked (numbered number) ∷ seed_checked seed ∷ []) e in
    let within = both (leb 2 count) (leb count 9999) (must_good (leb 2 count && leb count 9999) Refusal.CountOutside each.0) in
    (leb-true count 9999 within.1, checked_known (numbered number) each.1.0, each.1.1.0)
