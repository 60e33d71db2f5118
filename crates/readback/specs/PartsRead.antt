-- The parts of an extended reply as lists: a text with colons is parts without one, and each part is found where it stands.
use Rattle.std.specs.Prelude.{ℕ, suc, ◌+◌, ◌≡◌, ◌↔◌, Bool, cond, not, ◌&&◌, eqb, length, drop}
use Rattle.std.proofs.Math.Path.{refl, sym, ap, ap₂}
use Rattle.std.proofs.Common.{◌∙◌, true≢false, arith, drop-drop, eqb-true}
use Rattle.std.proofs.Math.Bool.{true, false}
use mathlib.Core.List.{List, [], ◌∷◌, ◌++◌, append-nil}
use Rattle.std.proofs.Math.Seq.{append_snoc, drop-append_seam}
use Rattle.std.proofs.lemmas.Bool.{not-false}
use Rattle.text.specs.Kinds.{is_letter, is_white, in_part}
use Rattle.text.specs.Tests.{every, every_append, every_weaker, both, cases}
use Rattle.text.specs.Scan.{run_of, piece, parted, tokens, unspaced}
use Rattle.reply.specs.Reply.{is_word}
use Rattle.reply.specs.Laws.{word_parts}
use Rattle.extended.specs.ReplyTexts.{part_at, part_after, colons}
use Rattle.readback.specs.StretchRead.{stretch_there}

-- ---- colons

-- none, exactly if each byte is one of a part
pub no_colons : (s : List ℕ) → (colons s ≡ 0) ↔ (every in_part s ≡ true)
unfolding colons every
no_colons [] = (λ e. refl, λ e. refl)
no_colons (b ∷ s) = by (in_part b) (no_colons s)
  where
    by : (k : Bool) → (colons s ≡ 0) ↔ (every in_part s ≡ true) → (cond k (colons s) (suc (colons s)) ≡ 0) ↔ ((k && every in_part s) ≡ true)
    by true ih = ih
    by false ih = (λ e. absurd (omega arith), λ e. absurd (true≢false (sym e)))

-- bytes of a kind that a colon isn't of
module _ (test : ℕ → Bool) (f : test 58 ≡ false) where
  pub kind_in_part : (b : ℕ) → test b ≡ true → in_part b ≡ true
  kind_in_part b e = ap not (cases (eqb b 58) (λ t. absurd (true≢false (sym e ∙ ap test (eqb-true b 58 t) ∙ f))) (λ t. t))

  pub kind_no_colons : (s : List ℕ) → every test s ≡ true → colons s ≡ 0
  kind_no_colons s e = (no_colons s).1 (every_weaker test in_part kind_in_part s e)

pub colons_append : (s t : List ℕ) → colons (s ++ t) ≡ colons s + colons t
unfolding colons
colons_append [] t = omega arith
colons_append (b ∷ s) t = by (in_part b) (colons_append s t)
  where
    by : (k : Bool) → colons (s ++ t) ≡ colons s + colons t
        → cond k (colons (s ++ t)) (suc (colons (s ++ t))) ≡ cond k (colons s) (suc (colons s)) + colons t
    by true ih = ih
    by false ih = omega (arith, ih)

-- those of a first part and the rest
pub colons_part : (t rest : List ℕ) → colons t ≡ 0 → colons (t ++ 58 ∷ rest) ≡ suc (colons rest)
unfolding colons
colons_part t rest e = colons_append t (58 ∷ rest) ∙ omega (arith, e)

-- a text with a colon is a first part, a colon and the rest
pub first_part : (s : List ℕ) (n : ℕ) → colons s ≡ suc n
    → (t rest : List ℕ) × (s ≡ t ++ 58 ∷ rest) × (colons t ≡ 0) × (colons rest ≡ n)
unfolding colons
first_part [] n e = absurd (omega arith)
first_part (b ∷ s) n e = by (in_part b) refl (first_part s n) e
  where
    by : (k : Bool) → in_part b ≡ k
        → (colons s ≡ suc n → (t rest : List ℕ) × (s ≡ t ++ 58 ∷ rest) × (colons t ≡ 0) × (colons rest ≡ n))
        → cond k (colons s) (suc (colons s)) ≡ suc n
        → (t rest : List ℕ) × (b ∷ s ≡ t ++ 58 ∷ rest) × (colons t ≡ 0) × (colons rest ≡ n)
    by true f ih g =
        let more = ih g in
        let part : colons (b ∷ more.0) ≡ 0 = ap (λ (k : Bool). cond k (colons more.0) (suc (colons more.0))) f ∙ more.3 in
        (b ∷ more.0, more.1, ap (λ (l : List ℕ). b ∷ l) more.2, part, more.4)
    by false f ih g = ([], s, ap (λ (c : ℕ). c ∷ s) (eqb-true b 58 (not-false (eqb b 58) f)), refl, omega arith)

-- ---- white space may be left out

-- bytes of a kind that white space is of: so is a text if its tokens are, or what is left without white space
module _ (test : ℕ → Bool) (white : (b : ℕ) → is_white b ≡ true → test b ≡ true) where
  piece-every : (met : List ℕ) → every (every test) (piece met) ≡ true → every test met ≡ true
  unfolding every
  piece-every [] e = refl
  piece-every (b ∷ met) e = (both (every test (b ∷ met)) true e).0

  parted-every : (met s : List ℕ) → every (every test) (parted met s) ≡ true → every test (met ++ s) ≡ true
  unfolding parted every
  parted-every met [] e = ap (every test) (append-nil met) ∙ piece-every met e
  parted-every met (b ∷ s) e = by (is_white b) refl (parted-every [] s) (parted-every (met ++ b ∷ []) s) e
    where
      by : (k : Bool) → is_white b ≡ k → (every (every test) (parted [] s) ≡ true → every test s ≡ true)
          → (every (every test) (parted (met ++ b ∷ []) s) ≡ true → every test (met ++ b ∷ [] ++ s) ≡ true)
          → every (every test) (cond k (piece met ++ parted [] s) (parted (met ++ b ∷ []) s)) ≡ true → every test (met ++ b ∷ s) ≡ true
      by true f past on g =
          let halves = both (every (every test) (piece met)) (every (every test) (parted [] s))
          (sym (every_append (every test) (piece met) (parted [] s)) ∙ g) in
          every_append test met (b ∷ s)
          ∙ ap₂ (λ (x y : Bool). x && y) (piece-every met halves.0) (ap₂ (λ (x y : Bool). x && y) (white b f) (past halves.1))
      by false f past on g = ap (every test) (sym (append_snoc met b s)) ∙ on g

  pub tokens-every : (s : List ℕ) → every (every test) (tokens s) ≡ true → every test s ≡ true
  tokens-every s e = parted-every [] s e

  pub unspaced-every : (s : List ℕ) → every test (unspaced s) ≡ true → every test s ≡ true
  unfolding unspaced every
  unspaced-every [] e = refl
  unspaced-every (b ∷ s) e = by (is_white b) refl (unspaced-every s) e
    where
      by : (k : Bool) → is_white b ≡ k → (every test (unspaced s) ≡ true → every test s ≡ true)
          → every test (cond k (unspaced s) (b ∷ unspaced s)) ≡ true → (test b && every test s) ≡ true
      by true f on g = ap₂ (λ (x y : Bool). x && y) (white b f) (on g)
      by false f on g =
          let halves = both (test b) (every test (unspaced s)) g in
          ap₂ (λ (x y : Bool). x && y) halves.0 (on halves.1)

-- white space is of a part, and so are words
pub white_in_part : (b : ℕ) → is_white b ≡ true → in_part b ≡ true
white_in_part = kind_in_part is_white refl

pub words_in_part : (ts : List (List ℕ)) → every is_word ts ≡ true → every (every in_part) ts ≡ true
words_in_part = every_weaker is_word (every in_part) (λ t e. every_weaker is_letter in_part (kind_in_part is_letter refl) t (word_parts t e).2)

-- ---- a part where it stands

module _ (text : List ℕ) (at : ℕ) where
  -- with a colon behind it, and the rest behind that
  module _ (t rest : List ℕ) (there : drop at text ≡ t ++ 58 ∷ rest) (whole : colons t ≡ 0) where
    pub part_there : part_at text at ≡ t
    unfolding part_at run_of
    part_there = stretch_there in_part text at t (58 ∷ rest) (record { laid = there; all = (no_colons t).0 whole; over = refl })

    pub after_there : drop (part_after text at) text ≡ rest
    after_there =
        ap (λ (l : List ℕ). drop (at + length l + 1) text) part_there
        ∙ sym (drop-drop 1 (at + length t) text)
        ∙ ap (drop 1) (sym (drop-drop (length t) at text) ∙ ap (drop (length t)) there ∙ drop-append_seam t (58 ∷ rest))

  -- the last one
  pub last_there : (t : List ℕ) → drop at text ≡ t → colons t ≡ 0 → part_at text at ≡ t
  unfolding part_at run_of
  last_there t there whole =
      stretch_there in_part text at t [] (record { laid = there ∙ sym (append-nil t); all = (no_colons t).0 whole; over = refl })
