-- The words of a line, and what a word says.
use Rattle.std.specs.Prelude.{ℕ, ◌+◌, ◌*◌, ◌%◌, Bool, cond, ◌&&◌, List, [], ◌∷◌, leb, ltb, eqb, length, take, drop, Option, Some, None}
use Rattle.std.specs.Option.{option_map, option_and_then}
use Rattle.text.specs.Kinds.{lower_of}
use Rattle.text.specs.Digits.{digit_value, number_of}
use Rattle.text.specs.Scan.{index_of}
use Rattle.text.specs.Tests.{every, same}
use Rattle.extended.specs.declared.reply_types.ReplyType.{ReplyType}
use Rattle.extended.specs.ReplyTypes.{type_number}

-- what a digit stands for, letters in lower case; 16 for a byte that is none
abbrev pub digit_in : ℕ → ℕ
digit_in b = cond (eqb (lower_of b) b) (digit_value b) 16

-- a digit of that base
abbrev pub is_digit_of : ℕ → ℕ → Bool
is_digit_of base b = ltb (digit_in b) base

-- "Numbers are decimal": one digit or more, of which zeros may lead, and a number of at most `most`
unfoldable pub number_in : ℕ → ℕ → List ℕ → Option ℕ
number_in base most w = cond (leb 1 (length w) && every (is_digit_of base) w && leb (number_of base w) most) (Some (number_of base w)) None

-- "PASSWORD is sixteen hex digits"
abbrev pub password_in : List ℕ → Option ℕ
password_in w = cond (eqb (length w) 16) (number_in 16 18446744073709551615 w) None

-- "Bytes are lower-case hex": the bytes that pairs of digits stand for
unfoldable pub bytes_in : List ℕ → List ℕ
bytes_in [] = []
bytes_in (high ∷ []) = []
bytes_in (high ∷ low ∷ w) = (digit_value high * 16 + digit_value low) ∷ bytes_in w

-- pairs of digits, of which there may be none
abbrev pub pairs_in : List ℕ → Option (List ℕ)
pairs_in w = cond (eqb (length w % 2) 0 && every (is_digit_of 16) w) (Some (bytes_in w)) None

-- "`-` is the empty text"; else one pair or more
unfoldable pub text_in : List ℕ → Option (List ℕ)
text_in w = cond (same w (45 ∷ [])) (Some []) (cond (leb 1 (length w)) (pairs_in w) None)

-- "KIND is `hex`, `word`, `init-hex` or `init-word`, another is `bad`": by its number
abbrev pub of_type : Option ReplyType → Option ℕ
of_type (Some kind) = Some (type_number kind)
of_type None = None

-- a number, and every one over `most` as that
abbrev pub held_to : ℕ → ℕ → ℕ
held_to most n = cond (ltb n (most + 1)) n most

-- "with one space between": the first word of what is left of a line is up to the first space, or all of it
abbrev pub first_word : List ℕ → List ℕ
first_word line = take (index_of 32 line) line

-- what stands behind that space; nothing is left where there is none
abbrev pub behind_word : List ℕ → Option (List ℕ)
behind_word line = cond (ltb (index_of 32 line) (length line)) (Some (drop (index_of 32 line + 1) line)) None

-- the next word of what is left, and what is left behind it
abbrev pub next_word : Option (List ℕ) → Option (List ℕ)
next_word left = option_map first_word left

abbrev pub after_word : Option (List ℕ) → Option (List ℕ)
after_word left = option_and_then behind_word left

-- what the next word says, if there is one
abbrev pub next_says : {A : Type 0} → (List ℕ → Option A) → Option (List ℕ) → Option A
next_says says left = option_and_then says (next_word left)

-- four words: "ALG COUNT SEED PASSWORD"
abbrev pub values_in : Option (List ℕ) → Option (ℕ × ℕ × List ℕ × ℕ)
values_in left =
    option_and_then (λ a. option_and_then (λ n. option_and_then (λ seed. option_map (λ p. (a, n, seed, p))
    (next_says password_in (after_word (after_word (after_word left)))))
    (next_says text_in (after_word (after_word left))))
    (next_says (number_in 10 65535) (after_word left)))
    (next_says (number_in 10 255) left)

abbrev pub after_values : Option (List ℕ) → Option (List ℕ)
after_values left = after_word (after_word (after_word (after_word left)))
