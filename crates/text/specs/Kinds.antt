-- The kinds of a byte that document 01 names, and the two cases of a letter. A byte is its number; the numbers are ASCII's.
use Rattle.std.specs.Prelude.{ℕ, ◌+◌, ◌-◌, Bool, cond, not, ◌&&◌, ◌||◌, leb, eqb}
use Rattle.text.specs.declared.kinds.Kind.{Kind}

-- `A` to `Z`
abbrev pub is_upper : ℕ → Bool
is_upper b = leb 65 b && leb b 90

-- `a` to `z`
abbrev pub is_lower : ℕ → Bool
is_lower b = leb 97 b && leb b 122

-- ASCII letters, of either case
abbrev pub is_letter : ℕ → Bool
is_letter b = is_upper b || is_lower b

-- `0` to `9`
abbrev pub is_digit : ℕ → Bool
is_digit b = leb 48 b && leb b 57

-- 01, Six words and hex: "white space is space, tab, carriage return and newline"
abbrev pub is_white : ℕ → Bool
is_white b = eqb b 32 || eqb b 9 || eqb b 13 || eqb b 10

-- a byte of a reply's token
abbrev pub is_solid : ℕ → Bool
is_solid b = not (is_white b)

-- 01, Challenges: "spaces or tabs"
abbrev pub is_blank : ℕ → Bool
is_blank b = eqb b 32 || eqb b 9

-- 01, Challenges: "A token ends before a space, tab, newline": a byte that ends none
abbrev pub in_token : ℕ → Bool
in_token b = not (is_blank b || eqb b 10)

-- 02, R-6, and RFC 2243: colons part an extended reply: a byte of a part
abbrev pub in_part : ℕ → Bool
in_part b = not (eqb b 58)

-- b is a byte of that kind
abbrev pub of_kind : Kind → ℕ → Bool
of_kind Kind.White b = is_white b
of_kind Kind.Solid b = is_solid b
of_kind Kind.Blank b = is_blank b
of_kind Kind.Token b = in_token b
of_kind Kind.Part b = in_part b
of_kind Kind.Digit b = is_digit b
of_kind Kind.Letter b = is_letter b
of_kind Kind.LetterOrDigit b = is_letter b || is_digit b

-- "turned to lower case": `A` to `Z` become `a` to `z`, and every other byte stays
abbrev pub lower_of : ℕ → ℕ
lower_of b = cond (is_upper b) (b + 32) b

-- in upper case: `a` to `z` become `A` to `Z`, and every other byte stays
abbrev pub upper_of : ℕ → ℕ
upper_of b = cond (is_lower b) (b - 32) b
