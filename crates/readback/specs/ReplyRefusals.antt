-- What each refusal of a reply says: 30, 31, 32 and 33 are given exactly in these cases.
use Rattle.std.specs.Prelude.{ℕ, ◌+◌, ◌-◌, ◌/◌, ◌%◌, ◌^◌, ◌≤◌, ◌<◌, ◌≡◌, refl, ◌↔◌, Bool, true}
use Rattle.std.specs.Prelude.{false, cond, List, [], map, leb, eqb, length, get_or, Option, Some, None, Ok, Err}
use Rattle.std.proofs.Common.{arith, sym, ◌∙◌, ap, subst, lt-ltb, leb-true, leb-false, eqb-true}
use Rattle.std.proofs.lemmas.List.{length-map}
use Rattle.std.proofs.Math.ListN.{get_or-map}
use Rattle.std.proofs.lemmas.Bool.{eqb-false}
use Rattle.refusal.specs.declared.Refusal.{Refusal}
use Rattle.text.specs.Tests.{every_at, cases}
use Rattle.text.specs.Scan.{tokens, unspaced}
use Rattle.text.specs.Digits.{number_of}
use Rattle.dictionary.specs.Dictionary.{word_at, place_of, Unknown}
use Rattle.dictionary.specs.Laws.{Spelt}
use Rattle.dictionary.proofs.InOrder.{unknown_word}
use Rattle.sixwords.specs.Places.{number_of as places_number}
use Rattle.hex_text.specs.Hex.{sixteen_digits, hex_reading}
use Rattle.reply.specs.Reply.{is_word, six_words, upper_text, summed, mark_of, marks_of, found_reading, words_reading, reading_of}
use Rattle.reply.specs.Marked.{Marked}
use Rattle.reply.specs.Laws.{spelt_token, six_parts, marks_within, marks_at, marks_only}
use Rattle.readback.specs.LaidOut.{Between, SumRefused}
use Rattle.readback.specs.PlacesRead.{number_accepted}
use Rattle.readback.specs.WordsRead.{places_found_lem, found_tokens, Looked, all, some, looked, found_all, found_marked}
use Rattle.readback.specs.ReplyRead.{reads_words, reads_hex, tokens_accepted}

-- two answers that are not one
pub never : {A : Type 0} → ◌≡◌ {A = ℕ} 0 1 → A
never e = absurd (omega arith)

-- a refusal of words is 31 or 32
pub words_why : (found : List (Option ℕ)) (why : Refusal) → found_reading found ≡ Err why → Between 31 32 why
words_why found why e = go (looked found)
  where
    sum : (n : Option ℕ) → summed n ≡ Err why → Refusal.PairSumWrong ≡ why
    sum (Some p) q = never (cc)
    sum None q = cc

    go : Looked found → Between 31 32 why
    go (all ps a) =
        subst (Between 31 32) (sum (places_number ps) (sym (found_all ps) ∙ ap found_reading (sym a) ∙ e)) (omega arith, omega arith)
    go (some h) =
        let told : Err (Refusal.WordUnknown (marks_of found)) ≡ Err why = sym (found_marked found h) ∙ e in
        let same : Refusal.WordUnknown (marks_of found) ≡ why = cc in
        subst (Between 31 32) same (omega arith, omega arith)

-- a refusal of hex is 33
pub hex_why : (u : List ℕ) (why : Refusal) → hex_reading u ≡ Err why → (sixteen_digits u ≡ false) × (why ≡ Refusal.ReplyUnread)
unfolding hex_reading
hex_why u why e = go (sixteen_digits u) e
  where
    go : (b : Bool) → cond b (Ok (number_of 16 u)) (Err Refusal.ReplyUnread) ≡ Err why →
        (b ≡ false) × (why ≡ Refusal.ReplyUnread)
    go true q = never (cc)
    go false q = (refl, cc)

-- ---- 30: "reply over 128 bytes"
-- The two halves, which what follows rests on.
pub long_told : (text : List ℕ) → 128 < length text → reading_of text ≡ Err Refusal.ReplyLong
unfolding reading_of
long_told text h = rw (lt-ltb 128 (length text) h)

pub long_only : (text : List ℕ) → reading_of text ≡ Err Refusal.ReplyLong → 128 < length text
long_only text e = cases (leb (length text) 128) (λ t. absurd (short (leb-true (length text) 128 t) e)) (λ t. leb-false (length text) 128 t)
  where
    short : length text ≤ 128 → reading_of text ≡ Err Refusal.ReplyLong → ⊥
    short h e =
        cases (six_words (tokens text))
        (λ s. absurd (omega (arith, (words_why (map place_of (map upper_text (tokens text))) Refusal.ReplyLong (sym (reads_words text h s) ∙ e)).0)))
        (λ s. let why = (hex_why (unspaced text) Refusal.ReplyLong (sym (reads_hex text h s) ∙ e)).1 in never (cc))

pub long_refused : (text : List ℕ) → (reading_of text ≡ Err Refusal.ReplyLong) ↔ (128 < length text)
long_refused text = (long_only text, long_told text)

-- ---- 33: "neither six words nor sixteen digits"
pub unread_refused : (text : List ℕ) → length text ≤ 128 →
    (reading_of text ≡ Err Refusal.ReplyUnread) ↔ ((six_words (tokens text) ≡ false) × (sixteen_digits (unspaced text) ≡ false))
unfolding hex_reading
unread_refused text h = (
  neither,
  λ n.
      reads_hex text h n.0
      ∙ ap (λ (b : Bool). cond b (Ok (number_of 16 (unspaced text))) (Err Refusal.ReplyUnread)) n.1,
)
  where
    neither : reading_of text ≡ Err Refusal.ReplyUnread → (six_words (tokens text) ≡ false) × (sixteen_digits (unspaced text) ≡ false)
    neither e =
        cases (six_words (tokens text))
        (λ s. absurd (omega (arith, (words_why (map place_of (map upper_text (tokens text))) Refusal.ReplyUnread (sym (reads_words text h s) ∙ e)).1)))
        (λ s. (s, (hex_why (unspaced text) Refusal.ReplyUnread (sym (reads_hex text h s) ∙ e)).0))

-- ---- 30 to 33, and no other
pub reading_why : (text : List ℕ) (why : Refusal) → reading_of text ≡ Err why → Between 30 33 why
reading_why text why e = cases (leb (length text) 128) (λ t. short (leb-true (length text) 128 t)) (λ t. long (leb-false (length text) 128 t))
  where
    short : length text ≤ 128 → Between 30 33 why
    short h =
        cases (six_words (tokens text))
        (λ s.
        let n = words_why (map place_of (map upper_text (tokens text))) why (sym (reads_words text h s) ∙ e) in
        (omega (arith, n.0), omega (arith, n.1)))
        (λ s. subst (Between 30 33) (sym (hex_why (unspaced text) why (sym (reads_hex text h s) ∙ e)).1) (omega arith, omega arith))

    long : 128 < length text → Between 30 33 why
    long h =
        let told : Err Refusal.ReplyLong ≡ Err why = sym (long_told text h) ∙ e in
        let same : Refusal.ReplyLong ≡ why = cc in
        subst (Between 30 33) same (omega arith, omega arith)

-- ---- 31, by the marks of 02, R-2
-- only six tokens of letters, in at most 128 bytes, are refused so
pub unknown_text : (text : List ℕ) (m : ℕ) → reading_of text ≡ Err (Refusal.WordUnknown m) →
    (length text ≤ 128) × (six_words (tokens text) ≡ true)
unknown_text text m e = cases (leb (length text) 128) (λ t. short (leb-true (length text) 128 t)) long
  where
    short : length text ≤ 128 → (length text ≤ 128) × (six_words (tokens text) ≡ true)
    short h =
        cases (six_words (tokens text)) (λ s. (h, s))
        (λ s. let why = (hex_why (unspaced text) (Refusal.WordUnknown m) (sym (reads_hex text h s) ∙ e)).1 in never (cc))

    long : leb (length text) 128 ≡ false → (length text ≤ 128) × (six_words (tokens text) ≡ true)
    long t =
        let told : Err (Refusal.WordUnknown m) ≡ Err Refusal.ReplyLong =
        sym e ∙ long_told text (leb-false (length text) 128 t) in
        never (cc)

-- ---- 32

-- a word is marked exactly if it isn't in the dictionary
mark_set : (w : List ℕ) → Spelt w → (mark_of (place_of w) ≡ 1) ↔ Unknown w
mark_set w s = (λ e. go (place_of w) refl e, λ u. ap mark_of ((unknown_word w s).1 u))
  where
    go : (r : Option ℕ) → place_of w ≡ r → mark_of r ≡ 1 → Unknown w
    go (Some i) q e = never (e)
    go None q e = (unknown_word w s).0 q

module _ (ts : List (List ℕ)) (e : six_words ts ≡ true) where
  abbrev ws : List (List ℕ)
  ws = map upper_text ts

  -- what was found of them, and the answer by it
  abbrev found : List (Option ℕ)
  found = map place_of ws

  answer : (list : List (Option ℕ)) → found ≡ list → words_reading ws ≡ found_reading list
  answer list a = ap found_reading a

  six_found : length found ≡ 6
  six_found = length-map ws place_of ∙ length-map ts upper_text ∙ (six_parts ts e).0

  spelt_at : (i : ℕ) → i < 6 → Spelt (get_or ws i [])
  spelt_at i l =
      let within : i < length ts = omega (arith, (six_parts ts e).0) in
      rw (get_or-map upper_text ts i [])
      (spelt_token (get_or ts i []) (every_at is_word ts [] (six_parts ts e).1 i within))

  -- bit i of m is the mark of word i + 1
  abbrev Bit : ℕ → ℕ → Type 0
  Bit m i = m / 2 ^ i % 2 ≡ mark_of (get_or found i (place_of []))

  bit_exactly : (m i : ℕ) → i < 6 → Bit m i ↔ ((m / 2 ^ i % 2 ≡ 1) ↔ Unknown (get_or ws i []))
  bit_exactly m i l = (λ b. (λ q. set.0 (sym b ∙ q), λ u. b ∙ set.1 u), λ x. go (get_or found i (place_of [])) refl x)
    where
      set : (mark_of (get_or found i (place_of [])) ≡ 1) ↔ Unknown (get_or ws i [])
      set = rw (get_or-map place_of ws i []) (mark_set (get_or ws i []) (spelt_at i l))

      go : (r : Option ℕ) → get_or found i (place_of []) ≡ r → ((m / 2 ^ i % 2 ≡ 1) ↔ Unknown (get_or ws i [])) → Bit m i
      go None q x = x.1 (set.0 (ap mark_of q)) ∙ sym (ap mark_of q)
      go (Some j) q x =
          cases (eqb (m / 2 ^ i % 2) 1) (λ t. let z = set.1 (x.0 (eqb-true (m / 2 ^ i % 2) 1 t)) in never (omega (arith, z, ap mark_of q)))
          (λ t. let other = eqb-false (m / 2 ^ i % 2) 1 t in omega (arith, ap mark_of q))

  -- the answer where some mark is set
  marked_answer : 0 < marks_of found → words_reading ws ≡ Err (Refusal.WordUnknown (marks_of found))
  marked_answer z = answer found refl ∙ found_marked found z

  pub marks_refused : (m : ℕ) → (words_reading ws ≡ Err (Refusal.WordUnknown m)) ↔ Marked ws m
  marks_refused m = (λ r. go r (looked found), back)
    where
      not_sum : (n : Option ℕ) → summed n ≡ Err (Refusal.WordUnknown m) → ⊥
      not_sum (Some p) q = never (cc)
      not_sum None q = never (cc)

      marked : 0 < marks_of found → Marked ws (marks_of found)
      marked z =
          let most : marks_of found < 2 ^ 6 = rw six_found at (marks_within found) in
          record {
            some_set = z;
            of_six = omega (arith, most);
            exactly = λ k a b. let six : k - 1 < 6 = omega arith in
                (bit_exactly (marks_of found) (k - 1) six).0 (marks_at found (k - 1) (place_of []) (omega (arith, six_found)));
          }

      go : words_reading ws ≡ Err (Refusal.WordUnknown m) → Looked found → Marked ws m
      go r (all ps a) = absurd (not_sum (places_number ps) (sym (answer (map Some ps) a ∙ found_all ps) ∙ r))
      go r (some z) =
          let told : Err (Refusal.WordUnknown (marks_of found)) ≡ Err (Refusal.WordUnknown m) = sym (marked_answer z) ∙ r in
          let same : marks_of found ≡ m = cc in
          rw same at (marked z)

      bit : Marked ws m → (i : ℕ) → i < 6 → Bit m i
      bit f i six =
          let before : i + 1 - 1 ≡ i = omega arith in
          (bit_exactly m i six).1 (subst (λ (n : ℕ). (m / 2 ^ n % 2 ≡ 1) ↔ Unknown (get_or ws n [])) before (f.exactly (i + 1) (omega arith) (omega arith)))

      back : Marked ws m → words_reading ws ≡ Err (Refusal.WordUnknown m)
      back f =
          let few : m < 2 ^ length found = rw six_found (omega (arith, f.of_six)) in
          let same = marks_only found m (place_of []) few (λ i l. bit f i (omega (arith, six_found))) in
          marked_answer (omega (arith, same, f.some_set)) ∙ ap (λ (n : ℕ). Err (Refusal.WordUnknown n)) (sym same)

  pub marks_alike : (m n : ℕ) → Marked ws m → Marked ws n → m ≡ n
  marks_alike m n f g =
      let both_so : Err (Refusal.WordUnknown m) ≡ Err (Refusal.WordUnknown n) =
      sym ((marks_refused m).1 f) ∙ (marks_refused n).1 g in
      cc

  pub sums_refused : (words_reading ws ≡ Err Refusal.PairSumWrong) ↔ SumRefused ws
  sums_refused = (λ r. go r (looked found), back)
    where
      go : words_reading ws ≡ Err Refusal.PairSumWrong → Looked found → SumRefused ws
      go r (all ps a) =
          let there = found_tokens ts ps (six_parts ts e).1 a in
          record {
            ps = ps;
            known = there.0;
            words = there.1;
            none = λ p l q. let read = (tokens_accepted ts e p).1 (l, q) in never (cc);
          }
      go r (some z) =
          let told : Err (Refusal.WordUnknown (marks_of found)) ≡ Err Refusal.PairSumWrong = sym (marked_answer z) ∙ r in
          never (cc)

      back : SumRefused ws → words_reading ws ≡ Err Refusal.PairSumWrong
      back f =
          answer (map Some f.ps) (ap (map place_of) f.words ∙ places_found_lem f.ps f.known) ∙
          found_all f.ps ∙
          wrong (places_number f.ps) refl
        where
          count : length f.ps ≡ 6
          count = sym (length-map f.ps word_at) ∙ ap length (sym f.words) ∙ length-map ts upper_text ∙ (six_parts ts e).0

          wrong : (n : Option ℕ) → places_number f.ps ≡ n → summed n ≡ Err Refusal.PairSumWrong
          wrong (Some p) q =
              let there = (number_accepted f.ps count p).0 q in
              absurd (f.none p there.0 (f.words ∙ ap (map word_at) (sym there.1)))
          wrong None q = refl

-- ---- so of a text of such tokens
module _ (text : List ℕ) (h : length text ≤ 128) (e : six_words (tokens text) ≡ true) where
  pub unknown_refused : (m : ℕ) → (reading_of text ≡ Err (Refusal.WordUnknown m)) ↔ Marked (map upper_text (tokens text)) m
  unknown_refused m = rw (reads_words text h e) (marks_refused (tokens text) e m)

  -- the marks are one number
  pub marks_one : (m n : ℕ) → Marked (map upper_text (tokens text)) m → Marked (map upper_text (tokens text)) n → m ≡ n
  marks_one = marks_alike (tokens text) e

  pub sum_refused : (reading_of text ≡ Err Refusal.PairSumWrong) ↔ SumRefused (map upper_text (tokens text))
  sum_refused = rw (reads_words text h e) (sums_refused (tokens text) e)
