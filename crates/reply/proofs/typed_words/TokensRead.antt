-- A text read token by token.
use Rattle.std.specs.Prelude.{ℕ, Option, Some, None}
use Prim.Native.Nat.{ℕ, ◌+◌, ◌-◌, ◌≤◌, ◌<◌, zero-le}
use native.Mathlib.Omega.{arith}
use native.Mathlib.Numerals.{add-one}
use native.Mathlib.Nat.{add-zero}
use mathlib.Core.Path.{◌≡◌, refl, sym, ◌∙◌, ap, ap₂}
use mathlib.Core.Bool.{Bool, true, false, cond, ◌&&◌}
use mathlib.Core.List.{List, [], ◌∷◌, ◌++◌, map, map-append}
use lib.Dec.{eqb, leb}
use lib.ListN.{length, get_or, take, drop, set, replicate, length-drop, length-set, take-append-drop}
use lib.Seq.{length-take-le, drop-drop, take-suc, take-suc-set, get_or-drop, take_all}
use borrow.Author.Tests.{eq-eqb, ne_eqb, leb-true, leb-false}
use Rattle.text.specs.Kinds.{is_white, is_solid, is_letter}
use Rattle.text.specs.Tests.{every, every_append, cases, both, second_fails}
use Rattle.text.specs.Scan.{run_of, tokens, piece}
use Rattle.text.specs.ScanLaws.{run_within, tokens_white, tokens_run, tokens_none, tokens_some, solid_after, piece_cons}
use Rattle.reply.specs.Reply.{is_word, six_words}
use Rattle.reply.specs.Inside.{first_token, past_token, packed_token, word_of, six_of}

-- the run of solid bytes past the white space is the first token
run_token : (s : List ℕ) → run_of is_solid (drop (run_of is_white s) s) ≡ length (first_token s)
unfolding first_token
run_token s =
    let rest = drop (run_of is_white s) s in
    sym (length-take-le (run_of is_solid rest) rest (run_within is_solid rest))

-- a text is its first token, if any, and the tokens past it
tokens_first : (s : List ℕ) → tokens s ≡ piece (first_token s) ++ tokens (drop (past_token s) s)
unfolding first_token past_token
tokens_first s =
    tokens_white s ∙ tokens_run (drop (run_of is_white s) s)
    ∙ ap (λ (l : List ℕ). piece (first_token s) ++ tokens l)
    (drop-drop (run_of is_solid (drop (run_of is_white s) s)) (run_of is_white s) s ∙ ap (λ (n : ℕ). drop (run_of is_white s + n) s) (run_token s))

-- without a first token there is none
tokens_empty : (s : List ℕ) → length (first_token s) ≡ 0 → tokens s ≡ []
tokens_empty s e =
    cases (leb (length s) (run_of is_white s))
    (λ t. tokens_none s (leb-true (length s) (run_of is_white s) t))
    (λ t. absurd (omega (arith, solid_after s (leb-false (length s) (run_of is_white s) t), run_token s)))

-- the white space passed over, from `at` on
past_white : (s : List ℕ) (at w : ℕ) → w ≡ run_of is_white (drop at s) → drop (run_of is_white (drop at s)) (drop at s) ≡ drop (at + w) s
past_white s at w e = drop-drop (run_of is_white (drop at s)) at s ∙ ap (λ (m : ℕ). drop (at + m) s) (sym e)

-- the part that the code lends is the first token, and ends where it ends
pub part_first : (s : List ℕ) (at w n : ℕ) → w ≡ run_of is_white (drop at s) → n ≡ run_of is_solid (drop (at + w) s) →
    take (at + w + n - (at + w)) (drop (at + w) s) ≡ first_token (drop at s)
unfolding first_token
part_first s at w n e f =
    let count : at + w + n - (at + w) ≡ n = omega arith in
    ap (λ (m : ℕ). take m (drop (at + w) s)) (count ∙ f)
    ∙ ap (λ (l : List ℕ). take (run_of is_solid l) l) (sym (past_white s at w e))

pub past_first : (s : List ℕ) (at w n : ℕ) → w ≡ run_of is_white (drop at s) → n ≡ run_of is_solid (drop (at + w) s) →
    at + w + n ≡ at + past_token (drop at s)
unfolding past_token
past_first s at w n e f =
    let count : n ≡ length (first_token (drop at s)) = f ∙ ap (run_of is_solid) (sym (past_white s at w e)) ∙ run_token (drop at s) in
    omega arith

pub past_within : (s : List ℕ) (at : ℕ) → at ≤ length s → at + past_token (drop at s) ≤ length s
unfolding past_token
past_within s at h =
    omega (
      arith,
      run_within is_white (drop at s),
      run_within is_solid (drop (run_of is_white (drop at s)) (drop at s)),
      length-drop (run_of is_white (drop at s)) (drop at s),
      run_token (drop at s),
      length-drop at s,
    )

pub white_within : (s : List ℕ) (at w : ℕ) → at ≤ length s → w ≡ run_of is_white (drop at s) → at + w ≤ length s
white_within s at w h e = omega (arith, run_within is_white (drop at s), length-drop at s)

-- k tokens of s, up to `at`, are words, and stand packed in ws
pub record Scanned (s : List ℕ) (k at : ℕ) (ws : List ℕ) : Type 0 where
  pub within : at ≤ length s
  pub size : length ws ≡ 6
  pub count : k ≤ length (tokens s)
  pub rest : drop k (tokens s) ≡ tokens (drop at s)
  pub good : every is_word (take k (tokens s)) ≡ true
  pub kept : take k ws ≡ map packed_token (take k (tokens s))

pub scanned_none : (s : List ℕ) → Scanned s 0 0 (replicate 6 0)
unfolding every
scanned_none s = record { within = zero-le; size = refl; count = zero-le; rest = refl; good = refl; kept = refl }

-- the list from k on starts with what stands at k
at_head : (k : ℕ) (ts us : List (List ℕ)) (t : List ℕ) → drop k ts ≡ t ∷ us → (k < length ts) × (get_or ts k [] ≡ t) × (drop (k + 1) ts ≡ us)
at_head k ts us t e = (
  omega (arith, length-drop k ts, ap length e),
  ap (λ (n : ℕ). get_or ts n []) (sym (add-zero k)) ∙ sym (get_or-drop k ts 0 []) ∙ ap
      (λ (l : List (List ℕ)). get_or l 0 []) e,
  sym (drop-drop 1 k ts) ∙ ap (drop 1) e,
)

word_some : (t : List ℕ) → is_word t ≡ true → 0 < length t
unfolding is_word
word_some t e = leb-true 1 (length t) (both (leb 1 (length t)) (leb (length t) 4)
    (both (leb 1 (length t) && leb (length t) 4) (every is_letter t) e).0).0

module _ (s : List ℕ) (k at : ℕ) (ws : List ℕ) (c : Scanned s k at ws) where
  -- the next token, where there is one
  next : 0 < length (first_token (drop at s)) → drop k (tokens s) ≡ first_token (drop at s) ∷ tokens (drop (at + past_token (drop at s)) s)
  next h =
      c.rest ∙ tokens_first (drop at s) ∙ piece_cons (first_token (drop at s)) (tokens (drop (past_token (drop at s)) (drop at s))) h
      ∙ ap (λ (l : List ℕ). first_token (drop at s) ∷ tokens l) (drop-drop (past_token (drop at s)) at s)

  -- the tokens passed, with the next
  taken : (t : List ℕ) → k < length (tokens s) → get_or (tokens s) k [] ≡ t → take (k + 1) (tokens s) ≡ take k (tokens s) ++ t ∷ []
  taken t h e =
      ap (λ (m : ℕ). take m (tokens s)) (add-one k) ∙ take-suc (tokens s) k [] h ∙ ap (λ (u : List ℕ). take k (tokens s) ++ u ∷ []) e

  -- one word more
  pub word_more : is_word (first_token (drop at s)) ≡ true → k < 6 →
      Scanned s (k + 1) (at + past_token (drop at s)) (set ws k (packed_token (first_token (drop at s))))
  unfolding every
  word_more e h =
      let t = first_token (drop at s) in
      let n = at_head k (tokens s) (tokens (drop (at + past_token (drop at s)) s)) t (next (word_some t e)) in
      record {
        within = past_within s at c.within;
        size = length-set ws k (packed_token t) ∙ c.size;
        count = omega (arith, n.0);
        rest = n.2;
        good =
            ap (every is_word) (taken t n.0 n.1) ∙ every_append is_word (take k (tokens s)) (t ∷ [])
            ∙ ap₂ (λ (a b : Bool). a && (b && true)) c.good e;
        kept =
            ap (λ (m : ℕ). take m (set ws k (packed_token t))) (add-one k) ∙ take-suc-set ws k (packed_token t) (omega (arith, c.size))
            ∙ ap (λ (l : List ℕ). l ++ packed_token t ∷ []) c.kept
            ∙ sym (ap (map packed_token) (taken t n.0 n.1) ∙ map-append packed_token (take k (tokens s)) (t ∷ []));
      }

  -- a token that is no word, or none
  pub word_missing : is_word (first_token (drop at s)) ≡ false → k < 6 → six_words (tokens s) ≡ false
  unfolding every six_words
  word_missing e h = cases (leb 1 (length t)) some none
    where
      t : List ℕ
      t = first_token (drop at s)

      some : leb 1 (length t) ≡ true → six_words (tokens s) ≡ false
      some b =
          second_fails (eqb (length (tokens s)) 6) (every is_word (tokens s))
          (ap (every is_word) (sym (take-append-drop k (tokens s))) ∙ every_append is_word (take k (tokens s)) (drop k (tokens s))
          ∙ second_fails (every is_word (take k (tokens s))) (every is_word (drop k (tokens s)))
          (ap (every is_word) (next (leb-true 1 (length t) b)) ∙ ap
          (λ (x : Bool). x && every is_word (tokens (drop (at + past_token (drop at s)) s))) e))

      none : leb 1 (length t) ≡ false → six_words (tokens s) ≡ false
      none b =
          let empty : length t ≡ 0 = omega (arith, leb-false 1 (length t) b) in
          let gone : drop k (tokens s) ≡ [] = c.rest ∙ tokens_empty (drop at s) empty in
          rw (ne_eqb (length (tokens s)) 6 (λ x. omega (arith, length-drop k (tokens s), ap length gone)))

  -- six words and no more
  pub six_are : k ≡ 6 → length (drop at s) ≤ run_of is_white (drop at s) → (six_words (tokens s) ≡ true) × (ws ≡ map packed_token (tokens s))
  unfolding six_words
  six_are e h =
      let gone : drop k (tokens s) ≡ [] = c.rest ∙ tokens_none (drop at s) h in
      let six : length (tokens s) ≡ k = omega (arith, length-drop k (tokens s), ap length gone, c.count) in
      let all : take k (tokens s) ≡ tokens s = take_all k (tokens s) (omega arith) in (
        ap₂ (λ (a b : Bool). a && b) (eq-eqb (length (tokens s)) 6 (six ∙ e)) (ap (every is_word) (sym all) ∙ c.good),
        sym (take_all k ws (omega (arith, c.size))) ∙ c.kept ∙ ap (map packed_token) all,
      )

  -- a seventh token
  pub seventh : k ≡ 6 → run_of is_white (drop at s) < length (drop at s) → six_words (tokens s) ≡ false
  unfolding six_words
  seventh e h =
      let more = tokens_some (drop at s) h in
      rw (ne_eqb (length (tokens s)) 6 (λ x. omega (arith, length-drop k (tokens s), ap length c.rest)))

-- what a token's answer says of it
packed_is : (b : Bool) (x p : ℕ) → cond b (Some x) None ≡ Some p → (b ≡ true) × (x ≡ p)
packed_is true x p e = (refl, cc)
packed_is false x p e = let z : ◌≡◌ {A = ℕ} 0 1 = cc in absurd (omega arith)

other_is : (b : Bool) (x : ℕ) → ◌≡◌ {A = Option ℕ} (cond b (Some x) None) None → b ≡ false
other_is true x e = let z : ◌≡◌ {A = ℕ} 0 1 = cc in absurd (omega arith)
other_is false x e = refl

-- A turn of the code: w bytes of white space, n solid ones, and the answer r to those.
module _ (s : List ℕ) (k at : ℕ) (ws : List ℕ) (c : Scanned s k at ws) (w n : ℕ) (e : w
    ≡ run_of is_white (drop at s)) (f : n ≡ run_of is_solid (drop (at + w) s)) where
  pub token_within : at + w + n ≤ length s
  token_within = rw (past_first s at w n e f) (past_within s at c.within)

  module _ (r : Option ℕ) (g : r ≡ word_of (take (at + w + n - (at + w)) (drop (at + w) s))) (h : k < 6) where
    answer : r ≡ word_of (first_token (drop at s))
    answer = g ∙ ap word_of (part_first s at w n e f)

    pub turned : (p : ℕ) → r ≡ Some p → Scanned s (k + 1) (at + w + n) (set ws k p)
    turned p q =
        let t = first_token (drop at s) in
        let is = packed_is (is_word t) (packed_token t) p (sym answer ∙ q) in
        rw (past_first s at w n e f, ← is.1) (word_more s k at ws c is.0 h)

    pub stopped : r ≡ None → six_words (tokens s) ≡ false
    stopped q =
        let t = first_token (drop at s) in
        word_missing s k at ws c (other_is (is_word t) (packed_token t) (sym answer ∙ q)) h

-- the answer on the whole
pub none_six : (s : List ℕ) → six_words (tokens s) ≡ false → None ≡ six_of (tokens s)
none_six s e = sym (ap (λ (b : Bool). cond b (Some (map packed_token (tokens s))) None) e)

pub all_six : (s ws : List ℕ) → (six_words (tokens s) ≡ true) × (ws ≡ map packed_token (tokens s)) → Some ws ≡ six_of (tokens s)
all_six s ws e = ap Some e.1 ∙ sym (ap (λ (b : Bool). cond b (Some (map packed_token (tokens s))) None) e.0)
