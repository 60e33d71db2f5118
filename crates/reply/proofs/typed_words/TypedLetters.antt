-- A token read letter by letter.
use Rattle.std.specs.Prelude.{Some, None}
use Prim.Native.Nat.{ℕ, ◌+◌, ◌*◌, ◌-◌, ◌^◌, ◌≤◌, ◌<◌}
use native.Mathlib.Omega.{arith}
use native.Mathlib.Nat.{pow-suc}
use native.Mathlib.Numerals.{add-one}
use mathlib.Core.Path.{◌≡◌, refl, sym, ◌∙◌, ap, ap₂}
use mathlib.Core.Bool.{Bool, true, false, cond, ◌&&◌}
use mathlib.Core.List.{List}
use lib.Arith.{digits_lt}
use lib.Dec.{leb}
use lib.ListN.{length, get_or, drop, length-map, drop_of_length-le}
use lib.Seq.{drop-cons}
use borrow.Author.Tests.{le-leb, lt-leb, leb-true}
use Rattle.text.specs.Kinds.{is_upper, is_lower, is_letter, lower_of, upper_of}
use Rattle.text.specs.Tests.{every, second_fails, cases, both}
use Rattle.dictionary.specs.Dictionary.{number_from, packed}
use Rattle.reply.specs.Reply.{is_word, upper_text}
use Rattle.reply.specs.Inside.{packed_token, word_of}

-- one letter more
pub letter_grows : (v u i : ℕ) → v < 256 ^ i → u < 256 → v * 256 + u < 256 ^ (i + 1)
letter_grows v u i h g = rw (add-one, pow-suc) (digits_lt h g)

pub other_byte : (t : List ℕ) (i : ℕ) → i < length t → is_letter (get_or t i 0) ≡ false → every is_letter (drop i t) ≡ false
unfolding every
other_byte t i h e = rw (drop-cons t i 0, e)

pub letter_byte : (t : List ℕ) (i : ℕ) → i < length t → is_letter (get_or t i 0) ≡ true → every is_letter (drop i t) ≡ every is_letter (drop (i + 1) t)
unfolding every
letter_byte t i h e = rw (drop-cons t i 0, e, add-one)

pub letter_number : (t : List ℕ) (i v : ℕ) → i < length t →
    number_from v (upper_text (drop i t)) ≡ number_from (v * 256 + upper_of (get_or t i 0)) (upper_text (drop (i + 1) t))
unfolding number_from
letter_number t i v h = rw (drop-cons t i 0, add-one)

-- no letter left
pub none_left_every : (t : List ℕ) (i : ℕ) → length t ≤ i → every is_letter (drop i t) ≡ true
unfolding every
none_left_every t i h = ap (every is_letter) (drop_of_length-le t h)

pub none_left_number : (t : List ℕ) (i v : ℕ) → length t ≤ i → number_from v (upper_text (drop i t)) ≡ v
unfolding number_from
none_left_number t i v h = ap (λ (l : List ℕ). number_from v (upper_text l)) (drop_of_length-le t h)

-- a letter's upper case is 32 below its lower case
pub letter_upper : (b : ℕ) → is_letter b ≡ true → (97 ≤ lower_of b) × (lower_of b - 32 ≡ upper_of b)
letter_upper b e = cases (is_upper b) upper lower
  where
    upper : is_upper b ≡ true → (97 ≤ lower_of b) × (lower_of b - 32 ≡ upper_of b)
    upper f =
        let halves = both (leb 65 b) (leb b 90) f in
        let from = leb-true 65 b halves.0 in
        let to = leb-true b 90 halves.1 in
        rw (le-leb 65 b from, le-leb b 90 to, lt-leb 97 b (omega arith)) (omega arith, omega arith)

    lower : is_upper b ≡ false → (97 ≤ lower_of b) × (lower_of b - 32 ≡ upper_of b)
    lower f =
        let small : is_lower b ≡ true = rw f at e in
        let from = leb-true 97 b (both (leb 97 b) (leb b 122) small).0 in
        rw (f, small) (from, refl)

-- what a token is
pub empty_other : (t : List ℕ) → length t ≡ 0 → None ≡ word_of t
unfolding is_word
empty_other t h = rw h

pub long_other : (t : List ℕ) → 4 < length t → None ≡ word_of t
unfolding is_word
long_other t h = rw (le-leb 1 (length t) (omega arith), lt-leb (length t) 4 h)

pub mixed_other : (t : List ℕ) → every is_letter t ≡ false → None ≡ word_of t
unfolding is_word
mixed_other t e = ap (λ (b : Bool). cond b (Some (packed_token t)) None)
    (sym (second_fails (leb 1 (length t) && leb (length t) 4) (every is_letter t) e))

pub letters_word : (t : List ℕ) (v p : ℕ) → 0 < length t → length t ≤ 4 → every is_letter t ≡ true
    → v ≡ number_from 0 (upper_text t) → p ≡ v * 256 ^ (3 - length t) → Some p ≡ word_of t
unfolding is_word packed
letters_word t v p some few e number filled = rw (le-leb 1 (length t) some, le-leb (length t) 4 few, e) (ap Some same)
  where
    same : p ≡ packed_token t
    same = filled ∙ ap₂ (λ (m k : ℕ). m * 256 ^ (3 - k)) number (sym (length-map t upper_of))
