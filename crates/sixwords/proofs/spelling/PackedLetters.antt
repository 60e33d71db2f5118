-- The letters among the four bytes of a packed word.
use Rattle.std.proofs.Common.{◌≡◌, ℕ, ◌+◌, ◌*◌, ◌/◌, ◌%◌, ◌≤◌, ◌<◌, List, [], ◌∷◌, length}
use Rattle.std.proofs.Common.{get_or, refl, ap, arith, eqb, ltb, eq-eqb, ne_eqb, lt-ltb, le-ltb, ◌^◌, ◌∙◌}
use Rattle.text.specs.Tests.{either}
use Rattle.std.specs.Int.{w32, to_be_bytes}
use borrow.Rule.Slice.PartMut.{mid_of}
use Rattle.dictionary.specs.Dictionary.{unfilled, letters_of}

-- the number that four bytes are, the first of them most significant
abbrev pub number_at : List ℕ → ℕ
number_at bs = get_or bs 0 0 * 16777216 + get_or bs 1 0 * 65536 + get_or bs 2 0 * 256 + get_or bs 3 0

data Four : List ℕ → Type 0 where
  four : (a b c d : ℕ) → Four (a ∷ b ∷ c ∷ d ∷ [])

four_of : (bs : List ℕ) → length bs ≡ 4 → Four bs
four_of [] n = absurd (omega arith)
four_of (a ∷ []) n = absurd (omega arith)
four_of (a ∷ b ∷ []) n = absurd (omega arith)
four_of (a ∷ b ∷ c ∷ []) n = absurd (omega arith)
four_of (a ∷ b ∷ c ∷ d ∷ []) n = four a b c d
four_of (a ∷ b ∷ c ∷ d ∷ e ∷ bs) n = absurd (omega arith)

abbrev pub Bytes : List ℕ → Type 0
Bytes bs = (i : ℕ) → get_or bs i 0 < 256

-- what the four bytes are as a number, digit by digit
digits : (a b c d : ℕ) → b < 256 → c < 256 → d < 256 → let v = a * 16777216 + b * 65536 + c * 256 + d in
    (v / 16777216 ≡ a) × (v / 65536 % 256 ≡ b) × (v / 256 % 256 ≡ c) × (v % 256 ≡ d) × (a ≡ 0 → v / 65536 ≡ b) × (a ≡ 0 → v < 16777216)
digits a b c d h i j = (omega arith, omega arith, omega arith, omega arith, λ e. omega arith, λ e. omega arith)

spelt_one : (bs : List ℕ) → Four bs → Bytes bs → get_or bs 0 0 ≡ 0 → get_or bs 2 0 ≡ 0 → mid_of 1 1 bs ≡ letters_of (number_at bs)
unfolding letters_of unfilled
spelt_one bs (four a b c d) k e f =
    let v = digits a b c d (k 1) (k 2) (k 3) in
    rw (lt-ltb (number_at bs) 16777216 (v.5 e), v.2, eq-eqb c 0 f, v.4 e) refl

spelt_two : (bs : List ℕ) → Four bs → Bytes bs → get_or bs 0 0 ≡ 0 → (get_or bs 2 0 ≡ 0 → ⊥) → get_or bs 3 0 ≡ 0 → mid_of 1 2 bs ≡ letters_of (number_at bs)
unfolding letters_of unfilled
spelt_two bs (four a b c d) k e f g =
    let v = digits a b c d (k 1) (k 2) (k 3) in
    rw (lt-ltb (number_at bs) 16777216 (v.5 e), v.2, v.3, ne_eqb c 0 f, eq-eqb d 0 g, v.4 e) refl

spelt_three : (bs : List ℕ) → Four bs → Bytes bs → get_or bs 0 0 ≡ 0 → (get_or bs 2 0 ≡ 0 → ⊥) → (get_or bs 3 0 ≡ 0 → ⊥)
    → mid_of 1 3 bs ≡ letters_of (number_at bs)
unfolding letters_of unfilled
spelt_three bs (four a b c d) k e f g =
    let v = digits a b c d (k 1) (k 2) (k 3) in
    rw (lt-ltb (number_at bs) 16777216 (v.5 e), v.2, v.3, ne_eqb c 0 f, ne_eqb d 0 g, v.4 e) refl

spelt_four : (bs : List ℕ) → Four bs → Bytes bs → (get_or bs 0 0 ≡ 0 → ⊥) → bs ≡ letters_of (number_at bs)
unfolding letters_of
spelt_four bs (four a b c d) k e =
    let v = digits a b c d (k 1) (k 2) (k 3) in
    rw (le-ltb (number_at bs) 16777216 (omega arith), v.0, v.1, v.2, v.3) refl

module _ (bs : List ℕ) (n : length bs ≡ 4) (k : Bytes bs) where
  pub one_letter : get_or bs 0 0 ≡ 0 → get_or bs 2 0 ≡ 0 → mid_of 1 1 bs ≡ letters_of (number_at bs)
  one_letter = spelt_one bs (four_of bs n) k

  pub two_letters : get_or bs 0 0 ≡ 0 → (get_or bs 2 0 ≡ 0 → ⊥) → get_or bs 3 0 ≡ 0 → mid_of 1 2 bs ≡ letters_of (number_at bs)
  two_letters = spelt_two bs (four_of bs n) k

  pub three_letters : get_or bs 0 0 ≡ 0 → (get_or bs 2 0 ≡ 0 → ⊥) → (get_or bs 3 0 ≡ 0 → ⊥) → mid_of 1 3 bs ≡ letters_of (number_at bs)
  three_letters = spelt_three bs (four_of bs n) k

  pub four_letters : (get_or bs 0 0 ≡ 0 → ⊥) → bs ≡ letters_of (number_at bs)
  four_letters = spelt_four bs (four_of bs n) k

-- so the letters among a word's bytes are the word's
pub word_spelt : (w : ℕ) (bs l : List ℕ) → w < 2 ^ 32 → bs ≡ to_be_bytes w32 w → l ≡ letters_of (number_at bs) → l ≡ letters_of w
word_spelt w bs l h e q = q ∙ ap letters_of (ap number_at e ∙ omega arith)

-- a word has four letters at most
pub few_letters : (v : ℕ) → length (letters_of v) ≤ 4
unfolding letters_of unfilled
few_letters v =
    either (λ (l : List ℕ). length l ≤ 4) (ltb v (2 ^ 24))
    (λ e. either (λ (l : List ℕ). length l ≤ 4) (eqb (v / 256 % 256) 0) (λ f. omega arith)
    (λ f. either (λ (l : List ℕ). length l ≤ 4) (eqb (v % 256) 0) (λ g. omega arith) (λ g. omega arith)))
    (λ e. omega arith)
