-- The dictionary's laws: its two runs, and that each word has one place, which is where the look-up finds it.
use Rattle.std.specs.Prelude.{ℕ, zero, suc, ◌+◌, ◌*◌, ◌-◌, ◌/◌, ◌%◌, ◌^◌, ◌≤◌, ◌<◌, ◌≡◌, refl}
use Rattle.std.specs.Prelude.{Bool, true, false, cond, ◌&&◌, T, leb, eqb, length, get_or, Option, Some, None}
use Rattle.std.specs.Prelude.{take, drop}
use Rattle.std.proofs.Common.{arith, le_of_suc-le-suc, not-suc-le-zero, sym, ◌∙◌, ap, ap₂, leb→le, eqb→eq, get_or-take, get_or-drop, lt-ltb, le-ltb, eq-eqb}
use Rattle.std.proofs.Common.{ne_eqb, eqb-true}
use Rattle.std.proofs.Math.Decide.{dec_lt}
use Rattle.std.proofs.lemmas.Bool.{false≢true}
use mathlib.Core.List.{List, [], ◌∷◌, map, flatten}
use Rattle.std.proofs.Math.ListN.{get_or-map}
use Rattle.std.proofs.lemmas.List.{length-map}
use Rattle.text.specs.Quoted.{codes}
use Rattle.text.specs.Tests.{same, same_equal, same_self, cases}
use Rattle.dictionary.specs.Words.{words_in, lines, words}
use Rattle.dictionary.specs.Dictionary.{number_from, packed, unfilled, letters_of, dictionary, word_at, packed_at, place_from, found_of, stands_from, place_of}
use Rattle.dictionary.specs.Order.{both, each, each_at, rising, in_order}

-- one to three letters; four letters; upper-case letters only
abbrev is_short : List ℕ → Bool
is_short w = leb 1 (length w) && leb (length w) 3

abbrev is_long : List ℕ → Bool
is_long w = eqb (length w) 4

abbrev all_upper : List ℕ → Bool
all_upper [] = true
all_upper (c ∷ cs) = (leb 65 c && leb c 90) && all_upper cs

pub words_count : length words ≡ 2048
unfolding words lines codes words_in flatten
words_count = refl

all_short : T (each is_short (take 571 words))
unfolding words lines codes words_in flatten
all_short = tt

all_long : T (each is_long (drop 571 words))
unfolding words lines codes words_in flatten
all_long = tt

all_upper_lem : T (each all_upper words)
unfolding words lines codes words_in flatten
all_upper_lem = tt

pub short_in_order : T (in_order (take 571 words))
unfolding words lines codes words_in flatten
short_in_order = tt

pub long_in_order : T (in_order (drop 571 words))
unfolding words lines codes words_in flatten
long_in_order = tt

pub packed_rising : T (rising 1 dictionary)
unfolding dictionary packed number_from words lines codes words_in flatten
packed_rising = tt

-- the words of the first run, and of the second
pub from_first : (i : ℕ) → i < 571 → get_or (take 571 words) i [] ≡ word_at i
from_first i h = get_or-take 571 words i [] h

pub from_second : (i : ℕ) → 571 ≤ i → get_or (drop 571 words) (i - 571) [] ≡ word_at i
from_second i h =
    let e : 571 + (i - 571) ≡ i = omega arith in
    get_or-drop 571 words (i - 571) [] ∙ ap (λ (n : ℕ). get_or words n []) e

pub first_count : length (take 571 words) ≡ 571
unfolding words lines codes words_in flatten
first_count = refl

pub second_count : length (drop 571 words) ≡ 1477
unfolding words lines codes words_in flatten
second_count = refl

pub short_at : (i : ℕ) → i < 571 → (1 ≤ length (word_at i)) × (length (word_at i) ≤ 3)
short_at i h =
    let t = rw (from_first i h) at (each_at is_short (take 571 words) all_short i (rw first_count h)) in
    let b = both (leb 1 (length (word_at i))) (leb (length (word_at i)) 3) t in
    (leb→le 1 (length (word_at i)) b.0, leb→le (length (word_at i)) 3 b.1)

pub long_at : (i : ℕ) → 571 ≤ i → i < 2048 → length (word_at i) ≡ 4
long_at i l h =
    let in-run : i - 571 < 1477 = omega arith in
    let t = rw (from_second i l) at (each_at is_long (drop 571 words) all_long (i - 571) (rw second_count in-run)) in
    eqb→eq (length (word_at i)) 4 t

-- the packed words rise strictly, the two runs as one
pub dictionary_count : length dictionary ≡ 2048
unfolding dictionary
dictionary_count = length-map words packed ∙ words_count

pub packed_at_lem : (i : ℕ) → packed_at i ≡ packed (word_at i)
unfolding dictionary packed number_from
packed_at_lem i = get_or-map packed words i []

-- where a look-up ends
place_nowhere : (n x : ℕ) (xs : List ℕ) → ((j : ℕ) → j < length xs → get_or xs j 0 ≡ x → ⊥) → place_from n x xs ≡ None
unfolding place_from
place_nowhere n x [] f = refl
place_nowhere n x (y ∷ ys) f =
    rw (ne_eqb x y (λ p. f zero (omega arith) (sym p)))
    (place_nowhere (suc n) x ys (λ j l. f (suc j) (omega arith)))

place_is : (n x : ℕ) (xs : List ℕ) (m : ℕ) → place_from n x xs ≡ Some m → (k : ℕ) × (m ≡ n + k) × (k < length xs) × (get_or xs k 0 ≡ x)
unfolding place_from
place_is n x [] m e = let z : ◌≡◌ {A = ℕ} 0 1 = cc in absurd (omega arith)
place_is n x (y ∷ ys) m e = go (eqb x y) refl e (place_is (suc n) x ys m)
  where
    go : (b : Bool) → eqb x y ≡ b → cond b (Some n) (place_from (suc n) x ys) ≡ Some m →
        (place_from (suc n) x ys ≡ Some m → (k : ℕ) × (m ≡ suc n + k) × (k < length ys) × (get_or ys k 0 ≡ x)) →
        (k : ℕ) × (m ≡ n + k) × (k < suc (length ys)) × (get_or (y ∷ ys) k 0 ≡ x)
    go true t e later = let same : n ≡ m = cc in (0, omega arith, omega arith, sym (eqb-true x y t))
    go false t e later = let r = later e in (suc r.0, omega arith, omega arith, r.3)

-- the look-up finds nothing else
pub no_place : (x : ℕ) → ((i : ℕ) → i < 2048 → packed_at i ≡ x → ⊥) → found_of x ≡ None
unfolding found_of
no_place x f = place_nowhere 0 x dictionary (λ j l. f j (rw dictionary_count at l))

pub found_place : (x i : ℕ) → found_of x ≡ Some i → (i < 2048) × (packed_at i ≡ x)
unfolding found_of
found_place x i e =
    let r = place_is 0 x dictionary i e in
    let same : r.0 ≡ i = omega arith in
    let h : r.0 < 2048 = rw dictionary_count at r.2 in
    (omega arith, ap packed_at (sym same) ∙ r.3)

-- one to four letters, each a byte other than 0
pub record Spelt (w : List ℕ) : Type 0 where
  pub some : 0 < length w
  pub few : length w ≤ 4
  pub bytes : (k : ℕ) → k < length w → (0 < get_or w k 0) × (get_or w k 0 < 256)

three_letters : (v a b c : ℕ) → v ≡ a * 65536 + b * 256 + c → a < 256 → b < 256 → c < 256 → letters_of v ≡ unfilled a b c
unfolding letters_of
three_letters v a b c e p q r =
    let small : v < 2 ^ 24 = omega arith in
    let x : v / 65536 ≡ a = omega arith in
    let y : v / 256 % 256 ≡ b = omega arith in
    let z : v % 256 ≡ c = omega arith in
    rw (lt-ltb v (2 ^ 24) small, x, y, z)

four_letters : (v a b c d : ℕ) → v ≡ a * 16777216 + b * 65536 + c * 256 + d → 0 < a → a < 256 → b < 256 → c < 256 → d < 256 →
    letters_of v ≡ a ∷ b ∷ c ∷ d ∷ []
unfolding letters_of
four_letters v a b c d e o p q r s =
    let large : 2 ^ 24 ≤ v = omega arith in
    let w : v / 16777216 ≡ a = omega arith in
    let x : v / 65536 % 256 ≡ b = omega arith in
    let y : v / 256 % 256 ≡ c = omega arith in
    let z : v % 256 ≡ d = omega arith in
    rw (le-ltb v (2 ^ 24) large, w, x, y, z)

-- a packed word has its letters still
pub letters_packed : (w : List ℕ) → Spelt w → letters_of (packed w) ≡ w
unfolding packed number_from unfilled
letters_packed [] s = absurd (not-suc-le-zero s.some)
letters_packed (a ∷ []) s =
    let h = s.bytes 0 (omega arith) in
    three_letters (packed (a ∷ [])) a 0 0 (omega arith) h.1 (omega arith) (omega arith)
letters_packed (a ∷ b ∷ []) s =
    let h = s.bytes 0 (omega arith) in
    let i = s.bytes 1 (omega arith) in
    three_letters (packed (a ∷ b ∷ [])) a b 0 (omega arith) h.1 i.1 (omega arith) ∙
    rw (ne_eqb b 0 (λ e. omega arith))
letters_packed (a ∷ b ∷ c ∷ []) s =
    let h = s.bytes 0 (omega arith) in
    let i = s.bytes 1 (omega arith) in
    let j = s.bytes 2 (omega arith) in
    three_letters (packed (a ∷ b ∷ c ∷ [])) a b c (omega arith) h.1 i.1 j.1 ∙
    rw (ne_eqb b 0 (λ e. omega arith), ne_eqb c 0 (λ e. omega arith))
letters_packed (a ∷ b ∷ c ∷ d ∷ []) s =
    let h = s.bytes 0 (omega arith) in
    let i = s.bytes 1 (omega arith) in
    let j = s.bytes 2 (omega arith) in
    let k = s.bytes 3 (omega arith) in
    four_letters (packed (a ∷ b ∷ c ∷ d ∷ [])) a b c d (omega arith) h.0 h.1 i.1 j.1 k.1
letters_packed (a ∷ b ∷ c ∷ d ∷ e ∷ w) s = let h = s.few in absurd (omega arith)

pub packed_injective : (v w : List ℕ) → Spelt v → Spelt w → packed v ≡ packed w → v ≡ w
packed_injective v w s t e = sym (letters_packed v s) ∙ ap letters_of e ∙ letters_packed w t

upper_at : (w : List ℕ) → T (all_upper w) → (k : ℕ) → k < length w → (65 ≤ get_or w k 0) × (get_or w k 0 ≤ 90)
upper_at [] t k h = absurd (not-suc-le-zero h)
upper_at (c ∷ cs) t zero h =
    let b = both (leb 65 c && leb c 90) (all_upper cs) t in
    let d = both (leb 65 c) (leb c 90) b.0 in
    (leb→le 65 c d.0, leb→le c 90 d.1)
upper_at (c ∷ cs) t (suc k) h = upper_at cs (both (leb 65 c && leb c 90) (all_upper cs) t).1 k (le_of_suc-le-suc h)

-- the words are written in upper-case letters
pub word_upper : (i : ℕ) → i < 2048 → (k : ℕ) → k < length (word_at i) → (65 ≤ get_or (word_at i) k 0) × (get_or (word_at i) k 0 ≤ 90)
word_upper i h = upper_at (word_at i) (each_at all_upper words all_upper_lem i (rw words_count h))

pub word_spelt : (i : ℕ) → i < 2048 → Spelt (word_at i)
word_spelt i h =
    record {
      some = (go (dec_lt i 571)).0;
      few = (go (dec_lt i 571)).1;
      bytes = λ k l. let u = word_upper i h k l in (omega arith, omega arith);
    }
  where
    go : Dec (i < 571) → (0 < length (word_at i)) × (length (word_at i) ≤ 4)
    go (yes l) = let s = short_at i l in (omega arith, omega arith)
    go (no l) = let s = long_at i (omega arith) h in (omega arith, omega arith)

pub letters_at : (i : ℕ) → i < 2048 → letters_of (packed_at i) ≡ word_at i
letters_at i h = ap letters_of (packed_at_lem i) ∙ letters_packed (word_at i) (word_spelt i h)

-- ---- packed words stand where the words do

same-packed : (v w : List ℕ) → Spelt v → Spelt w → eqb (packed v) (packed w) ≡ same v w
same-packed v w s t =
    cases (same v w)
    (λ e. eq-eqb (packed v) (packed w) (ap packed (same_equal v w e)) ∙ sym e)
    (λ e. ne_eqb (packed v) (packed w) (λ p. false≢true (sym e ∙ ap (same v) (sym (packed_injective v w s t p)) ∙ same_self v)) ∙ sym e)

stands_packed : (i : ℕ) (w : List ℕ) (ws : List (List ℕ)) → Spelt w → ((k : ℕ) → k < length ws → Spelt (get_or ws k []))
    → place_from i (packed w) (map packed ws) ≡ stands_from i w ws
unfolding place_from stands_from
stands_packed i w [] s f = refl
stands_packed i w (v ∷ vs) s f =
    ap₂ (λ (t : Bool) (later : Option ℕ). cond t (Some i) later) (same-packed w v s (f zero (omega arith)))
    (stands_packed (suc i) w vs s (λ k h. f (suc k) (omega arith)))

pub place_packed : (w : List ℕ) → Spelt w → found_of (packed w) ≡ place_of w
unfolding found_of place_of dictionary
place_packed w s = stands_packed 0 w words s (λ k h. word_spelt k (rw words_count at h))
