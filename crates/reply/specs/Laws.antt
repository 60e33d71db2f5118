-- Laws of tokens that could be words, and of marks.
use Rattle.std.specs.Prelude.{ℕ, zero, suc, ◌+◌, ◌*◌, ◌/◌, ◌%◌, ◌^◌, ◌≤◌, ◌<◌, ◌≡◌, true, ◌&&◌, List, [], ◌∷◌, eqb, leb, length, get_or, Option, Some, None}
use Rattle.std.proofs.Common.{pow-suc, arith, sym, ap, ◌∙◌, leb-true, eqb-true}
use Rattle.std.proofs.Math.Nat.{pow-succ', div-div-eq-div-mul}
use Rattle.std.proofs.lemmas.List.{length-map}
use Rattle.std.proofs.Math.ListN.{get_or-map}
use Rattle.text.specs.Kinds.{is_letter, upper_of}
use Rattle.text.specs.KindLaws.{letter_upper}
use Rattle.text.specs.Tests.{every, every_at, both}
use Rattle.dictionary.specs.Laws.{Spelt}
use Rattle.reply.specs.Reply.{is_word, six_words, upper_text, mark_of, marks_of}

-- what makes a token a word
pub word_parts : (t : List ℕ) → is_word t ≡ true → (0 < length t) × (length t ≤ 4) × (every is_letter t ≡ true)
unfolding is_word
word_parts t e =
    let outer = both (leb 1 (length t) && leb (length t) 4) (every is_letter t) e in
    let inner = both (leb 1 (length t)) (leb (length t) 4) outer.0 in
    (leb-true 1 (length t) inner.0, leb-true (length t) 4 inner.1, outer.1)

-- such a token in upper case is spelt as words of the dictionary are
pub spelt_token : (t : List ℕ) → is_word t ≡ true → Spelt (upper_text t)
spelt_token t e =
    let parts = word_parts t e in
    record {
      some = rw (length-map t upper_of) parts.0;
      few = rw (length-map t upper_of) parts.1;
      bytes = λ k h.
          let within : k < length t = rw (length-map t upper_of) at h in
          let upper = letter_upper (get_or t k 0) (every_at is_letter t 0 parts.2 k within) in
          rw (get_or-map upper_of t k 0) (omega arith, omega arith);
    }

-- what makes tokens six words
pub six_parts : (ts : List (List ℕ)) → six_words ts ≡ true → (length ts ≡ 6) × (every is_word ts ≡ true)
unfolding six_words
six_parts ts e =
    let halves = both (eqb (length ts) 6) (every is_word ts) e in
    (eqb-true (length ts) 6 halves.0, halves.1)

-- ---- marks

mark_few : (f : Option ℕ) → mark_of f ≤ 1
mark_few (Some place) = omega arith
mark_few None = omega arith

-- n words have marks below 2 ^ n
pub marks_within : (found : List (Option ℕ)) → marks_of found < 2 ^ length found
unfolding marks_of
marks_within [] = omega arith
marks_within (f ∷ found) = rw (pow-suc 2 (length found)) (omega (arith, mark_few f, marks_within found))

-- one word's mark and then the others: what lies past it is theirs
marks_past : (f : Option ℕ) (m i : ℕ) → (mark_of f + 2 * m) / 2 ^ suc i ≡ m / 2 ^ i
marks_past f m i =
    let half : (mark_of f + 2 * m) / 2 ≡ m = omega (arith, mark_few f) in
    ap (λ (n : ℕ). (mark_of f + 2 * m) / n) (pow-succ' 2 i) ∙ sym (div-div-eq-div-mul (mark_of f + 2 * m) 2 (2 ^ i))
    ∙ ap (λ (n : ℕ). n / 2 ^ i) half

-- bit i is the mark of the word that i others stand before
pub marks_at : (found : List (Option ℕ)) (i : ℕ) (d : Option ℕ) → i < length found → marks_of found / 2 ^ i % 2 ≡ mark_of (get_or found i d)
unfolding marks_of
marks_at [] i d h = absurd (omega arith)
marks_at (f ∷ found) zero d h = omega (arith, mark_few f)
marks_at (f ∷ found) (suc i) d h = ap (λ (n : ℕ). n % 2) (marks_past f (marks_of found) i) ∙ marks_at found i d (omega arith)

-- and there is one number with these bits
pub marks_only : (found : List (Option ℕ)) (m : ℕ) (d : Option ℕ) → m < 2 ^ length found
    → ((i : ℕ) → i < length found → m / 2 ^ i % 2 ≡ mark_of (get_or found i d)) → m ≡ marks_of found
unfolding marks_of
marks_only [] m d h e = omega arith
marks_only (f ∷ found) m d h e =
    let first : m % 2 ≡ mark_of f = omega (arith, e 0 (omega arith)) in
    let few : m / 2 < 2 ^ length found = omega (arith, rw (pow-suc 2 (length found)) at h) in
    let rest = marks_only found (m / 2) d few (λ i l. ap (λ (n : ℕ). n % 2) (div-div-eq-div-mul m 2 (2 ^ i)
    ∙ ap (λ (n : ℕ). m / n) (sym (pow-succ' 2 i))) ∙ e (suc i) (omega arith)) in
    omega (arith, first, rest)
