-- The letter's second demand for replies: what is written reads back, and what is accepted is exactly what some password is
-- written as, apart from case and white space. That the texts are RFC 2289's is not said here; the vectors say it.
use Rattle.std.specs.Prelude.{ℕ, ◌+◌, ◌-◌, ◌^◌, ◌≤◌, ◌<◌, ◌≡◌, refl, ◌↔◌, Bool, true, false, cond}
use Rattle.std.specs.Prelude.{◌&&◌, ◌||◌, List, [], ◌∷◌, map, eqb, ltb, length, take, Some, Ok, Err}
use Rattle.std.proofs.Common.{arith, sym, ◌∙◌, ap, ap₂, le-ltb, le-leb, ltb-true, eq-eqb, eqb-true}
use Rattle.std.proofs.Math.Bool.{or-true}
use Rattle.std.proofs.lemmas.List.{length-map}
use Rattle.refusal.specs.declared.Refusal.{Refusal}
use Rattle.refusal.specs.Answers.{Reading}
use Rattle.text.specs.Kinds.{is_upper, is_lower, is_letter, is_solid, lower_of, upper_of}
use Rattle.text.specs.Tests.{every, every_weaker, both, cases}
use Rattle.text.specs.Scan.{parted, tokens, unspaced}
use Rattle.text.specs.ScanLaws.{tokens_one, unspaced_solid}
use Rattle.text.specs.Digits.{is_hex, digits_of, number_of}
use Rattle.text.specs.DigitLaws.{length_digits, digits_hex, hex_solid, number_digits, digits_number, number_lt, number_lower, every_lower_hex, hex_digits}
use Rattle.text.specs.Put.{Writes}
use Rattle.text.specs.PutLaws.{written_front}
use Rattle.dictionary.specs.Dictionary.{word_at, place_of}
use Rattle.sixwords.specs.Places.{places_of, all_places}
use Rattle.sixwords.specs.Laws.{places_count, places_all}
use Rattle.hex_text.specs.Hex.{hex_of, sixteen_digits, hex_reading}
use Rattle.sixwords.specs.Spelling.{spaced, six_words_of, words_of}
use Rattle.sixwords.specs.SpellingLaws.{words_length}
use Rattle.reply.specs.Reply.{is_word, six_words, upper_text, summed, found_reading, words_reading, six_reading, reading_of}
use Rattle.reply.specs.Laws.{word_parts, six_parts}
use Rattle.readback.specs.PlacesRead.{number_places, number_accepted}
use Rattle.readback.specs.WordsRead.{places_words, places_upper, places_found_lem, tokens_spaced, found_all, found_password, found_tokens}

-- ---- the two ways of reading, behind the length
pub reads_words : (text : List ℕ) → length text ≤ 128 → six_words (tokens text) ≡ true → reading_of text ≡ words_reading (map upper_text (tokens text))
unfolding reading_of
reads_words text h e = rw (le-ltb 128 (length text) h, e)

pub reads_hex : (text : List ℕ) → length text ≤ 128 → six_words (tokens text) ≡ false → reading_of text ≡ hex_reading (unspaced text)
unfolding reading_of
reads_hex text h e = rw (le-ltb 128 (length text) h, e)

same_password : {p q : ℕ} → ◌≡◌ {A = Reading} (Ok p) (Ok q) → p ≡ q
same_password e = cc

-- ---- words
-- six tokens of one to four letters are accepted exactly if in upper case they are the words of a password, and as that one
pub tokens_accepted : (ts : List (List ℕ)) → six_words ts ≡ true → (p : ℕ) →
    (words_reading (map upper_text ts) ≡ Ok p) ↔ ((p < 2 ^ 64) × (map upper_text ts ≡ six_words_of p))
tokens_accepted ts e p = (accepted, written)
  where
    accepted : words_reading (map upper_text ts) ≡ Ok p → (p < 2 ^ 64) × (map upper_text ts ≡ six_words_of p)
    accepted r =
        let parts = six_parts ts e in
        let found = found_password (map place_of (map upper_text ts)) p r in
        let count : length found.0 ≡ 6 =
        sym (length-map found.0 Some) ∙ sym (ap length found.1) ∙ length-map (map upper_text ts) place_of ∙ length-map ts upper_text
        ∙ parts.0 in
        let number = (number_accepted found.0 count p).0 found.2 in
        (number.0, (found_tokens ts found.0 parts.1 found.1).1 ∙ ap (map word_at) (sym number.1))

    written : (p < 2 ^ 64) × (map upper_text ts ≡ six_words_of p) → words_reading (map upper_text ts) ≡ Ok p
    written w =
        ap words_reading w.1
        ∙ ap found_reading (places_found_lem (places_of p) (places_all p))
        ∙ found_all (places_of p)
        ∙ ap summed (number_places p w.0)

-- so is a text of such tokens
pub words_accepted : (text : List ℕ) → length text ≤ 128 → six_words (tokens text) ≡ true → (p : ℕ) →
    (reading_of text ≡ Ok p) ↔ ((p < 2 ^ 64) × (map upper_text (tokens text) ≡ six_words_of p))
words_accepted text h e p = rw (reads_words text h e) (tokens_accepted (tokens text) e p)

-- the tokens of the written words are the six words
pub words_tokens : (p : ℕ) → tokens (words_of p) ≡ six_words_of p
unfolding parted all_places
words_tokens p = go (places_of p) (places_all p)
  where
    go : (ps : List ℕ) → all_places ps ≡ true → tokens (spaced (map word_at ps)) ≡ map word_at ps
    go [] e = refl
    go (i ∷ ps) e =
        let halves = both (ltb i 2048) (all_places ps) e in
        tokens_spaced i ps (ltb-true i 2048 halves.0) halves.1

six_words_of_lem : (p : ℕ) → six_words (six_words_of p) ≡ true
unfolding six_words
six_words_of_lem p =
    ap₂ (λ (a b : Bool). a && b) (eq-eqb (length (six_words_of p)) 6 (length-map (places_of p) word_at ∙ places_count p))
    (places_words (places_of p) (places_all p))

words_upper : (p : ℕ) → map upper_text (tokens (words_of p)) ≡ six_words_of p
words_upper p = ap (map upper_text) (words_tokens p) ∙ places_upper (places_of p) (places_all p)

-- the words that a password is written with read as it
pub words_read : (p : ℕ) → p < 2 ^ 64 → reading_of (words_of p) ≡ Ok p
words_read p h =
    (words_accepted (words_of p) (omega (arith, words_length p)) (ap six_words (words_tokens p) ∙ six_words_of_lem p) p).1 (h, words_upper p)

pub words_written_read : (p : ℕ) → p < 2 ^ 64 → reading_of (words_of p) ≡ Ok p
words_written_read p h = words_read p h

-- and two passwords written alike are one
pub words_injective : (p q : ℕ) → p < 2 ^ 64 → q < 2 ^ 64 → words_of p ≡ words_of q → p ≡ q
words_injective p q h k e = same_password (sym (words_read p h) ∙ ap reading_of e ∙ words_read q k)

-- ---- hex
hex_reading_lem : (u : List ℕ) → length u ≡ 16 → every is_hex u ≡ true → hex_reading u ≡ Ok (number_of 16 u)
unfolding hex_reading sixteen_digits
hex_reading_lem u n e = rw (eq-eqb (length u) 16 n, e)

hex_told : (u : List ℕ) (p : ℕ) → hex_reading u ≡ Ok p → (length u ≡ 16) × (every is_hex u ≡ true) × (number_of 16 u ≡ p)
unfolding hex_reading sixteen_digits
hex_told u p r = go (eqb (length u) 16) refl (every is_hex u) refl r
  where
    go : (a : Bool) → eqb (length u) 16 ≡ a → (b : Bool) → every is_hex u ≡ b →
        cond (a && b) (Ok (number_of 16 u)) (Err Refusal.ReplyUnread) ≡ Ok p →
        (length u ≡ 16) × (every is_hex u ≡ true) × (number_of 16 u ≡ p)
    go true e true f q = (eqb-true (length u) 16 e, f, same_password q)
    go true e false f q = let z : ◌≡◌ {A = ℕ} 0 1 = cc in absurd (omega arith)
    go false e b f q = let z : ◌≡◌ {A = ℕ} 0 1 = cc in absurd (omega arith)

digits_of_hex : (u : List ℕ) → length u ≡ 16 → every is_hex u ≡ true → digits_of 16 16 (number_of 16 u) ≡ map lower_of u
unfolding digits_of
digits_of_hex u n e =
    let count : 16 ≡ 0 + length u = omega arith in
    ap (λ (k : ℕ). digits_of 16 k (number_of 16 u)) count ∙ digits_number 16 0 0 u (omega arith) (omega arith) (hex_digits u e)

-- bytes are accepted as hex exactly if they are the digits of a password, in either case, and as that one
pub digits_accepted : (u : List ℕ) (p : ℕ) → (hex_reading u ≡ Ok p) ↔ ((p < 2 ^ 64) × (map lower_of u ≡ hex_of p))
digits_accepted u p = (accepted, written)
  where
    accepted : hex_reading u ≡ Ok p → (p < 2 ^ 64) × (map lower_of u ≡ hex_of p)
    accepted r =
        let told = hex_told u p r in
        let bound = number_lt 16 0 1 u (omega arith) (hex_digits u told.1) in
        let small : number_of 16 u < 2 ^ 64 = rw told.0 at bound in
        (rw told.2 at small, sym (ap (digits_of 16 16) (sym told.2) ∙ digits_of_hex u told.0 told.1))

    written : (p < 2 ^ 64) × (map lower_of u ≡ hex_of p) → hex_reading u ≡ Ok p
    written w =
        let count : length u ≡ 16 = sym (length-map u lower_of) ∙ ap length w.1 ∙ length_digits 16 16 p in
        let digits : every is_hex u ≡ true = sym (every_lower_hex u) ∙ ap (every is_hex) w.1 ∙ digits_hex 16 p in
        let number : number_of 16 u ≡ p = sym (number_lower 16 0 u) ∙ ap (number_of 16) w.1 ∙ number_digits 16 16 p (omega arith) (omega arith)
        w.0 in
        hex_reading_lem u count digits ∙ ap Ok number

-- so are any other text's bytes without white space
pub hex_accepted : (text : List ℕ) → length text ≤ 128 → six_words (tokens text) ≡ false → (p : ℕ) →
    (reading_of text ≡ Ok p) ↔ ((p < 2 ^ 64) × (map lower_of (unspaced text) ≡ hex_of p))
hex_accepted text h e p = rw (reads_hex text h e) (digits_accepted (unspaced text) p)

one_token : (t : List ℕ) → six_words (t ∷ []) ≡ false
unfolding six_words
one_token t = refl

hex_is_solid : (p : ℕ) → every is_solid (hex_of p) ≡ true
hex_is_solid p = every_weaker is_hex is_solid hex_solid (hex_of p) (digits_hex 16 p)

hex_lower : (p : ℕ) → p < 2 ^ 64 → map lower_of (unspaced (hex_of p)) ≡ hex_of p
hex_lower p h =
    ap (map lower_of) (unspaced_solid (hex_of p) (hex_is_solid p))
    ∙ sym (digits_of_hex (hex_of p) (length_digits 16 16 p) (digits_hex 16 p))
    ∙ ap (digits_of 16 16) (number_digits 16 16 p (omega arith) (omega arith) h)

pub hex_written_read : (p : ℕ) → p < 2 ^ 64 → reading_of (hex_of p) ≡ Ok p
hex_written_read p h =
    let count = length_digits 16 16 p in
    let one = tokens_one (hex_of p) (hex_is_solid p) (omega arith) in
    (hex_accepted (hex_of p) (omega arith) (ap six_words one ∙ one_token (hex_of p)) p).1 (h, hex_lower p h)

pub hex_injective : (p q : ℕ) → p < 2 ^ 64 → q < 2 ^ 64 → hex_of p ≡ hex_of q → p ≡ q
hex_injective p q h k e = same_password (sym (hex_written_read p h) ∙ ap reading_of e ∙ hex_written_read q k)

-- ---- parts of an extended reply, in which no other reading is tried

-- letters in upper case were letters, and words were words
letter_case : (b : ℕ) → is_letter (upper_of b) ≡ true → is_letter b ≡ true
letter_case b = by (is_lower b) refl
  where
    by : (k : Bool) → is_lower b ≡ k → is_letter (cond k (b - 32) b) ≡ true → is_letter b ≡ true
    by true e f = ap (λ (k : Bool). is_upper b || k) e ∙ or-true (is_upper b)
    by false e f = f

every_case : {A B : Type 0} (other : B → Bool) (test : A → Bool) (f : A → B) → ((a : A) → other (f a) ≡ true → test a ≡ true)
    → (s : List A) → every other (map f s) ≡ true → every test s ≡ true
unfolding every
every_case other test f g [] e = refl
every_case other test f g (a ∷ s) e =
    let halves = both (other (f a)) (every other (map f s)) e in
    ap₂ (λ (x y : Bool). x && y) (g a halves.0) (every_case other test f g s halves.1)

word_case : (t : List ℕ) → is_word (upper_text t) ≡ true → is_word t ≡ true
unfolding is_word
word_case t e =
    let parts = word_parts (upper_text t) e in
    let count = length-map t upper_of in
    rw (le-leb 1 (length t) (omega (arith, parts.0)), le-leb (length t) 4 (omega (arith, parts.1)))
    (every_case is_letter is_letter upper_of letter_case t parts.2)

six_case : (ts : List (List ℕ)) → six_words (map upper_text ts) ≡ true → six_words ts ≡ true
unfolding six_words
six_case ts e =
    let parts = six_parts (map upper_text ts) e in
    ap₂ (λ (a b : Bool). a && b) (eq-eqb (length ts) 6 (sym (length-map ts upper_text) ∙ parts.0))
    (every_case is_word is_word upper_text word_case ts parts.1)

pub six_read : (part : List ℕ) → six_words (tokens part) ≡ true → six_reading part ≡ words_reading (map upper_text (tokens part))
unfolding six_reading
six_read part e = rw e

pub six_unread : (part : List ℕ) → six_words (tokens part) ≡ false → six_reading part ≡ Err Refusal.ReplyUnread
unfolding six_reading
six_unread part e = rw e

-- a part is accepted as words exactly if its tokens in upper case are the words of a password, and as that one
pub six_accepted : (part : List ℕ) (p : ℕ) → (six_reading part ≡ Ok p) ↔ ((p < 2 ^ 64) × (map upper_text (tokens part) ≡ six_words_of p))
six_accepted part p = (
  λ r. cases (six_words (tokens part)) (λ e. (tokens_accepted (tokens part) e p).0 (sym (six_read part e) ∙ r))
      (λ e. let told : Err Refusal.ReplyUnread ≡ Ok p = sym (six_unread part e) ∙ r in
      let z : ◌≡◌ {A = ℕ} 0 1 = cc in absurd (omega arith)),
  λ w. let e = six_case (tokens part) (ap six_words w.1 ∙ six_words_of_lem p) in six_read part e ∙ (tokens_accepted (tokens part) e p).1 w,
)

pub six_written_read : (p : ℕ) → p < 2 ^ 64 → six_reading (words_of p) ≡ Ok p
six_written_read p h = (six_accepted (words_of p) p).1 (h, words_upper p)

pub digits_written_read : (p : ℕ) → p < 2 ^ 64 → hex_reading (unspaced (hex_of p)) ≡ Ok p
digits_written_read p h = (digits_accepted (unspaced (hex_of p)) p).1 (h, hex_lower p h)

-- ---- what a writer left in a buffer reads back
pub words_read_back : (p : ℕ) (b b' : List ℕ) (n : ℕ) → p < 2 ^ 64 → Writes (words_of p) b b' (Ok n) → reading_of (take n b') ≡ Ok p
words_read_back p b b' n h w = ap reading_of (written_front (words_of p) b b' n w) ∙ words_read p h

pub hex_read_back : (p : ℕ) (b b' : List ℕ) (n : ℕ) → p < 2 ^ 64 → Writes (hex_of p) b b' (Ok n) → reading_of (take n b') ≡ Ok p
hex_read_back p b b' n h w = ap reading_of (written_front (hex_of p) b b' n w) ∙ hex_written_read p h
