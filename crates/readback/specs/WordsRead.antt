-- The six words of a password: words of the dictionary, read back by their places.
use Rattle.std.specs.Prelude.{ℕ, ◌<◌, ◌≡◌, refl, Bool, ◌&&◌, List, [], ◌∷◌, map, ltb, length, get_or, Option, Some, None, Ok, Err}
use Rattle.std.proofs.Common.{arith, sym, ◌∙◌, ap, ext_get_or, le-leb, lt-ltb, ltb-true}
use Rattle.std.proofs.Math.Path.{ap₂}
use Rattle.std.proofs.Math.Bool.{true}
use Rattle.std.proofs.lemmas.List.{length-map}
use Rattle.std.proofs.Math.ListN.{get_or-map}
use Rattle.refusal.specs.declared.Refusal.{Refusal}
use Rattle.text.specs.Kinds.{is_letter, is_solid, upper_of}
use Rattle.text.specs.KindLaws.{past_space_solid, upper_letter, upper_kept}
use Rattle.text.specs.Tests.{every, every_from, both}
use Rattle.text.specs.Scan.{tokens}
use Rattle.text.specs.ScanLaws.{tokens_one, tokens_space}
use Rattle.dictionary.specs.Dictionary.{word_at, place_of}
use Rattle.dictionary.specs.Laws.{word_upper, word_spelt}
use Rattle.dictionary.proofs.InOrder.{found_word}
use Rattle.sixwords.specs.Places.{all_places, number_of}
use Rattle.sixwords.specs.Spelling.{spaced_from}
use Rattle.reply.specs.Reply.{is_word, upper_text, summed, marks_of, place_in, marked_or, found_reading}
use Rattle.reply.specs.Laws.{spelt_token}

-- the words of the dictionary are words, solid, and in upper case
module _ (i : ℕ) (h : i < 2048) where
  pub dictionary_word : is_word (word_at i) ≡ true
  unfolding is_word
  dictionary_word =
      let spelt = word_spelt i h in
      let letters : every is_letter (word_at i) ≡ true = every_from is_letter (word_at i)
      (λ k l. let u = word_upper i h k l in upper_letter (get_or (word_at i) k 0) u.0 u.1) in
      ap₂ (λ (a b : Bool). a && b) (ap₂ (λ (a b : Bool). a && b) (le-leb 1 (length (word_at i)) spelt.some)
      (le-leb (length (word_at i)) 4 spelt.few)) letters

  pub dictionary_solid : every is_solid (word_at i) ≡ true
  dictionary_solid = every_from is_solid (word_at i) (λ k l. let u = word_upper i h k l in past_space_solid (get_or (word_at i) k 0) (omega arith))

  pub dictionary_upper : upper_text (word_at i) ≡ word_at i
  dictionary_upper =
      ext_get_or 0 (upper_text (word_at i)) (word_at i) (length-map (word_at i) upper_of)
      (λ k l. get_or-map upper_of (word_at i) k 0 ∙ upper_kept (get_or (word_at i) k 0) (word_upper i h k (rw (length-map (word_at i) upper_of) at l)).1)

  pub dictionary_place : place_of (word_at i) ≡ Some i
  dictionary_place = (found_word (word_at i) (word_spelt i h) i).1 (h, refl)

-- the same of a list of places
pub places_words : (ps : List ℕ) → all_places ps ≡ true → every is_word (map word_at ps) ≡ true
unfolding all_places every
places_words [] e = refl
places_words (i ∷ ps) e =
    let halves = both (ltb i 2048) (all_places ps) e in
    ap₂ (λ (a b : Bool). a && b) (dictionary_word i (ltb-true i 2048 halves.0)) (places_words ps halves.1)

pub places_upper : (ps : List ℕ) → all_places ps ≡ true → map upper_text (map word_at ps) ≡ map word_at ps
unfolding all_places
places_upper [] e = refl
places_upper (i ∷ ps) e =
    let halves = both (ltb i 2048) (all_places ps) e in
    ap₂ (λ (w : List ℕ) (ws : List (List ℕ)). w ∷ ws) (dictionary_upper i (ltb-true i 2048 halves.0)) (places_upper ps halves.1)

pub places_found_lem : (ps : List ℕ) → all_places ps ≡ true → map place_of (map word_at ps) ≡ map Some ps
unfolding all_places
places_found_lem [] e = refl
places_found_lem (i ∷ ps) e =
    let halves = both (ltb i 2048) (all_places ps) e in
    ap₂ (λ (w : Option ℕ) (ws : List (Option ℕ)). w ∷ ws) (dictionary_place i (ltb-true i 2048 halves.0)) (places_found_lem ps halves.1)

-- words between spaces are the tokens
pub tokens_spaced : (i : ℕ) (ps : List ℕ) → i < 2048 → all_places ps ≡ true → tokens (spaced_from (word_at i) (map word_at ps)) ≡ word_at i ∷ map word_at ps
unfolding all_places spaced_from
tokens_spaced i [] h e = tokens_one (word_at i) (dictionary_solid i h) (word_spelt i h).some
tokens_spaced i (j ∷ ps) h e =
    let halves = both (ltb j 2048) (all_places ps) e in
    tokens_space (word_at i) (spaced_from (word_at j) (map word_at ps)) (dictionary_solid i h) (word_spelt i h).some
    ∙ ap (λ (ts : List (List ℕ)). word_at i ∷ ts) (tokens_spaced j ps (ltb-true j 2048 halves.0) halves.1)

-- ---- words looked up: all are found, or some mark is set
pub data Looked (found : List (Option ℕ)) : Type 0 where
  all : (ps : List ℕ) → found ≡ map Some ps → Looked found
  some : 0 < marks_of found → Looked found

pub looked : (found : List (Option ℕ)) → Looked found
unfolding marks_of
looked [] = all [] refl
looked (Some i ∷ found) = more (looked found)
  where
    more : Looked found → Looked (Some i ∷ found)
    more (all ps e) = all (i ∷ ps) (ap (λ (l : List (Option ℕ)). Some i ∷ l) e)
    more (some h) = some (omega arith)
looked (None ∷ found) = some (omega arith)

-- where all are found no mark is set, and the places are theirs
none_marked : (ps : List ℕ) → marks_of (map Some ps) ≡ 0
unfolding marks_of
none_marked [] = refl
none_marked (i ∷ ps) = omega (arith, none_marked ps)

places_in : (ps : List ℕ) → map place_in (map Some ps) ≡ ps
places_in [] = refl
places_in (i ∷ ps) = ap (λ (l : List ℕ). i ∷ l) (places_in ps)

-- so they are read by their places
pub found_all : (ps : List ℕ) → found_reading (map Some ps) ≡ summed (number_of ps)
unfolding found_reading
found_all ps = ap₂ (λ (m : ℕ) (l : List ℕ). marked_or m (number_of l)) (none_marked ps) (places_in ps)

-- others are refused with their marks
pub found_marked : (found : List (Option ℕ)) → 0 < marks_of found → found_reading found ≡ Err (Refusal.WordUnknown (marks_of found))
unfolding found_reading
found_marked found h = rw (lt-ltb 0 (marks_of found) h)

summed_is : (n : Option ℕ) (p : ℕ) → summed n ≡ Ok p → n ≡ Some p
summed_is (Some q) p e = cc
summed_is None p e = let z : ◌≡◌ {A = ℕ} 0 1 = cc in absurd (omega arith)

-- and a password is read only from words that are all found
pub found_password : (found : List (Option ℕ)) (p : ℕ) → found_reading found ≡ Ok p →
    (ps : List ℕ) × (found ≡ map Some ps) × (number_of ps ≡ Some p)
found_password found p e = go (looked found)
  where
    go : Looked found → (ps : List ℕ) × (found ≡ map Some ps) × (number_of ps ≡ Some p)
    go (all ps a) = (ps, a, summed_is (number_of ps) p (sym (found_all ps) ∙ ap found_reading (sym a) ∙ e))
    go (some h) =
        let told : Err (Refusal.WordUnknown (marks_of found)) ≡ Ok p = sym (found_marked found h) ∙ e in
        let z : ◌≡◌ {A = ℕ} 0 1 = cc in
        absurd (omega arith)

-- tokens that are found at places are the words there
pub found_tokens : (ts : List (List ℕ)) (ps : List ℕ) → every is_word ts ≡ true → map place_of (map upper_text ts) ≡ map Some ps →
    (all_places ps ≡ true) × (map upper_text ts ≡ map word_at ps)
unfolding every all_places
found_tokens [] [] g e = (refl, refl)
found_tokens [] (i ∷ ps) g e = let z : ◌≡◌ {A = ℕ} 0 1 = cc in absurd (omega arith)
found_tokens (t ∷ ts) [] g e = let z : ◌≡◌ {A = ℕ} 0 1 = cc in absurd (omega arith)
found_tokens (t ∷ ts) (i ∷ ps) g e =
    let halves = both (is_word t) (every is_word ts) g in
    let first : place_of (upper_text t) ≡ Some i = cc in
    let rest : map place_of (map upper_text ts) ≡ map Some ps = cc in
    let there = (found_word (upper_text t) (spelt_token t halves.0) i).0 first in
    let more = found_tokens ts ps halves.1 rest in
    (ap₂ (λ (a b : Bool). a && b) (lt-ltb i 2048 there.0) more.0, ap₂ (λ (w : List ℕ) (ws : List (List ℕ)). w ∷ ws) (sym there.1) more.1)
