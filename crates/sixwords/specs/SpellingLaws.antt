-- Laws of the six words of a password: their letters, and how long they are.
use Rattle.std.specs.Prelude.{ℕ, ◌+◌, ◌*◌, ◌≤◌, ◌<◌, ◌≡◌, refl, true, List, [], ◌∷◌, map, ltb, length}
use Rattle.std.proofs.Common.{arith, ◌∙◌, ap, ap₂, length-append, ltb-true}
use Rattle.text.specs.Tests.{both}
use Rattle.dictionary.specs.Dictionary.{packed_at, letters_of, word_at}
use Rattle.dictionary.specs.Laws.{word_spelt, letters_at}
use Rattle.sixwords.specs.Places.{places_of, all_places}
use Rattle.sixwords.specs.Laws.{places_count, places_all}
use Rattle.sixwords.specs.Spelling.{spaced_from, spaced, words_of}

-- the packed words at places have the letters of the words there
pub letters_places : (ps : List ℕ) → all_places ps ≡ true → map letters_of (map packed_at ps) ≡ map word_at ps
unfolding all_places
letters_places [] e = refl
letters_places (i ∷ ps) e =
    let halves = both (ltb i 2048) (all_places ps) e in
    ap₂ (λ (w : List ℕ) (ws : List (List ℕ)). w ∷ ws) (letters_at i (ltb-true i 2048 halves.0)) (letters_places ps halves.1)

-- so six words spelt from the table are the text of the password
pub words_text : (p : ℕ) (packed : List ℕ) → packed ≡ map packed_at (places_of p) → spaced (map letters_of packed) ≡ words_of p
words_text p packed e =
    ap (λ (l : List ℕ). spaced (map letters_of l)) e ∙ ap spaced (letters_places (places_of p) (places_all p))

length_spaced : (i : ℕ) (ps : List ℕ) → i < 2048 → all_places ps ≡ true → length (spaced_from (word_at i) (map word_at ps)) ≤ 4 + 5 * length ps
unfolding all_places spaced_from
length_spaced i [] h e = omega (arith, (word_spelt i h).few)
length_spaced i (j ∷ ps) h e =
    let halves = both (ltb j 2048) (all_places ps) e in
    let rest = length_spaced j ps (ltb-true j 2048 halves.0) halves.1 in
    simp length-append (omega (arith, (word_spelt i h).few, rest))

-- "29 bytes at most"
pub words_length : (p : ℕ) → length (words_of p) ≤ 29
unfolding all_places
words_length p = go (places_of p) (places_all p) (places_count p)
  where
    go : (ps : List ℕ) → all_places ps ≡ true → length ps ≡ 6 → length (spaced (map word_at ps)) ≤ 29
    go [] e n = absurd (omega arith)
    go (i ∷ ps) e n =
        let halves = both (ltb i 2048) (all_places ps) e in
        omega (arith, length_spaced i ps (ltb-true i 2048 halves.0) halves.1)
