-- What the challenge writers write reads back: the same algorithm and count, the seed in lower case, R-6's mark or none, all its bytes used.
use Rattle.std.specs.Prelude.{ℕ, ◌+◌, ◌≤◌, ◌<◌, ◌≡◌, Bool, true, false, not, ◌&&◌, ◌||◌, eqb, leb, take, drop, Some, Ok}
use Rattle.std.proofs.Math.Path.{refl, ap, ap₂, subst}
use Rattle.std.proofs.Common.{sym, ◌∙◌, true≢false, arith, drop-drop, ne_eqb, le-leb, leb-true, leb-false}
use Rattle.std.proofs.Math.Bool.{cond, or-true}
use mathlib.Core.List.{List, [], ◌∷◌, ◌++◌, append_assoc, map}
use Rattle.std.proofs.Math.ListN.{length}
use Rattle.std.proofs.lemmas.List.{length-map}
use Rattle.std.proofs.Math.Seq.{drop-append_seam}
use Rattle.std.proofs.lemmas.Bool.{lt-leb}
use Rattle.text.specs.Kinds.{in_token, is_blank, is_digit, is_letter, is_upper, lower_of}
use Rattle.text.specs.Tests.{every, every_weaker, both, either, cases, same, same_self}
use Rattle.text.specs.Scan.{run_of}
use Rattle.text.specs.Digits.{number_of}
use Rattle.text.specs.Quoted.{codes}
use Rattle.password.specs.declared.algorithm.Algorithm.{Algorithm}
use Rattle.password.specs.Algorithm.{algorithm_name, named}
use Rattle.password.specs.AlgorithmLaws.{name_named}
use Rattle.password.specs.PhraseAndSeed.{plain, seed_checked}
use Rattle.password.specs.PhraseAndSeedLaws.{good_seed}
use Rattle.text.specs.Counts.{is_count, width_of, decimal_of}
use Rattle.text.specs.CountLaws.{width_few, length_decimal}
use Rattle.readback.specs.LaidOut.{Run}
use Rattle.readback.specs.CountRead.{digits_decimal, decimal_count, decimal_number}
use Rattle.challenge.specs.Challenges.{opening, token_at, end_of, next_at, count_at, seed_at, terminated, is_mark}
use Rattle.challenge.specs.Challenges.{mark_at, has_mark, used_by, challenge_of, seed_of, ending, challenge_text, a_challenge}
use Rattle.challenge.specs.Laws.{length_challenge, from_seed, all_good, seed_part_lem}
use Rattle.readback.specs.StretchRead.{run_stops, run_of_lem, run_there, stretch_there, past_there}

-- ---- the bytes that are written end no token

above_space : (b : ℕ) → 33 ≤ b → in_token b ≡ true
above_space b h = rw (ne_eqb b 32 (λ e. omega arith), ne_eqb b 9 (λ e. omega arith), ne_eqb b 10 (λ e. omega arith))

-- letters and digits lie above the space
pub plain_high : (b : ℕ) → (is_letter b || is_digit b) ≡ true → 33 ≤ b
plain_high b e = cases (leb 33 b) (leb-true 33 b) (λ t. absurd (true≢false (sym e ∙ low (leb-false 33 b t))))
  where
    low : b < 33 → (is_letter b || is_digit b) ≡ false
    low h = rw (lt-leb 65 b (omega arith), lt-leb 97 b (omega arith), lt-leb 48 b (omega arith))

pub digit_high : (b : ℕ) → is_digit b ≡ true → 33 ≤ b
digit_high b e = plain_high b (ap (λ (k : Bool). is_letter b || k) e ∙ or-true (is_letter b))

plain_lower : (b : ℕ) → (is_letter b || is_digit b) ≡ true → (is_letter (lower_of b) || is_digit (lower_of b)) ≡ true
plain_lower b e = either (λ (c : ℕ). (is_letter c || is_digit c) ≡ true) (is_upper b) upper (λ f. e)
  where
    upper : is_upper b ≡ true → (is_letter (b + 32) || is_digit (b + 32)) ≡ true
    upper f =
        let halves = both (leb 65 b) (leb b 90) f in
        let from = leb-true 65 b halves.0 in
        let to = leb-true b 90 halves.1 in
        rw (le-leb 65 (b + 32) (omega arith), lt-leb (b + 32) 90 (omega arith), le-leb 97 (b + 32) (omega arith), le-leb (b + 32) 122 (omega arith))

-- a seed in lower case is letters and digits only, and no blank
lower_plain : (seed : List ℕ) → plain seed ≡ true → plain (map lower_of seed) ≡ true
unfolding plain every
lower_plain [] e = refl
lower_plain (b ∷ seed) e =
    let halves = both (is_letter b || is_digit b) (plain seed) e in
    ap₂ (λ (x y : Bool). x && y) (plain_lower b halves.0) (lower_plain seed halves.1)

plain_tokens : (s : List ℕ) → plain s ≡ true → every in_token s ≡ true
unfolding plain every
plain_tokens [] e = refl
plain_tokens (b ∷ s) e =
    let halves = both (is_letter b || is_digit b) (plain s) e in
    ap₂ (λ (x y : Bool). x && y) (above_space b (plain_high b halves.0)) (plain_tokens s halves.1)

pub lower_good : (seed : List ℕ) → seed_checked seed ≡ Ok tt → seed_checked (map lower_of seed) ≡ Ok tt
lower_good seed e =
    let good = good_seed seed e in
    let count = length-map seed lower_of in
    rw (le-leb 1 (length (map lower_of seed)) (omega arith), le-leb (length (map lower_of seed)) 16 (omega arith), lower_plain seed good.2)

-- ---- a token, and what stands behind it

module _ (text : List ℕ) (at : ℕ) (t rest : List ℕ) (token : Run in_token (drop at text) t rest) where
  token_there : token_at text at ≡ t
  unfolding token_at
  token_there = stretch_there in_token text at t rest token

  behind_there : drop (end_of text at) text ≡ rest
  behind_there =
      sym (drop-drop (length (token_at text at)) at text)
      ∙ ap₂ (λ (l r : List ℕ). drop (length l) r) token_there token.laid
      ∙ drop-append_seam t rest

  -- a space, and then what is no blank
  module _ (u : List ℕ) (space : rest ≡ 32 ∷ u) (solid : run_of is_blank u ≡ 0) where
    blank : Run is_blank (drop (end_of text at) text) (32 ∷ []) u
    unfolding every
    blank = record { laid = behind_there ∙ space; all = refl; over = solid }

    next_there : drop (next_at text at) text ≡ u
    unfolding next_at
    next_there = past_there is_blank text (end_of text at) (32 ∷ []) u blank

    next_at_lem : next_at text at ≡ at + length t + 1
    unfolding next_at
    next_at_lem = ap₂ (λ (l : List ℕ) (k : ℕ). at + length l + k) token_there (run_there is_blank text (end_of text at) (32 ∷ []) u blank)

-- no blank stands before a token's bytes
token_solid : (b : ℕ) → in_token b ≡ true → is_blank b ≡ false
token_solid b e = by (is_blank b) e
  where
    by : (k : Bool) → not (k || eqb b 10) ≡ true → k ≡ false
    by true f = absurd (true≢false (sym f))
    by false f = refl

-- ---- the mark behind a seed

-- the blanks and the token that stand there decide
module _ (text : List ℕ) (start : ℕ) (blanks from token behind : List ℕ) (gap : Run is_blank (drop (end_of text start) text) blanks from)
    (run : Run in_token from token behind) where
  mark_run : Run in_token (drop (mark_at text start) text) token behind
  unfolding next_at
  mark_run = subst (λ (l : List ℕ). Run in_token l token behind) (sym (past_there is_blank text (end_of text start) blanks from gap)) run

  pub mark_by : has_mark text start ≡ (is_mark token && terminated behind)
  unfolding has_mark
  mark_by =
      ap₂ (λ (l r : List ℕ). is_mark l && terminated r) (token_there text (mark_at text start) token behind mark_run)
      (behind_there text (mark_at text start) token behind mark_run)

  pub mark_end_lem : end_of text (mark_at text start) ≡ end_of text start + length blanks + length token
  unfolding next_at
  mark_end_lem =
      ap₂ (λ (k : ℕ) (l : List ℕ). end_of text start + k + length l) (run_there is_blank text (end_of text start) blanks from gap)
      (token_there text (mark_at text start) token behind mark_run)

-- what stands behind a seed as it is written
abbrev blanks_of : Bool → List ℕ
blanks_of ext = take (run_of is_blank (ending ext)) (ending ext)

abbrev from_mark : Bool → List ℕ
from_mark ext = drop (run_of is_blank (ending ext)) (ending ext)

abbrev token_of : Bool → List ℕ
token_of ext = take (run_of in_token (from_mark ext)) (from_mark ext)

ending_marks : (ext : Bool) → (is_mark (token_of ext) && terminated (drop (run_of in_token (from_mark ext)) (from_mark ext))) ≡ ext
unfolding is_mark run_of ending codes same
ending_marks false = refl
ending_marks true = refl

ending_used : (ext : Bool) (n : ℕ) → cond ext (n + length (blanks_of ext) + length (token_of ext) + 1) (n + 1) ≡ n + length (ending ext)
unfolding run_of ending codes
ending_used false n = refl
ending_used true n = omega arith

-- it ends the seed
ending_ends : (ext : Bool) → (run_of in_token (ending ext) ≡ 0) × (terminated (ending ext) ≡ true)
unfolding run_of ending codes
ending_ends false = (refl, refl)
ending_ends true = (refl, refl)

module _ (text : List ℕ) (start : ℕ) (ext : Bool) (there : drop (end_of text start) text ≡ ending ext) where
  gap : Run is_blank (drop (end_of text start) text) (blanks_of ext) (from_mark ext)
  gap = subst (λ (l : List ℕ). Run is_blank l (blanks_of ext) (from_mark ext)) (sym there) (run_of_lem is_blank (ending ext))

  mark_read : has_mark text start ≡ ext
  mark_read = mark_by text start (blanks_of ext) (from_mark ext) (token_of ext) _ gap (run_of_lem in_token (from_mark ext)) ∙ ending_marks ext

  used_read : used_by text start ≡ end_of text start + length (ending ext)
  unfolding used_by
  used_read =
      ap₂ (λ (m : Bool) (k : ℕ). cond m (k + 1) (end_of text start + 1)) mark_read
      (mark_end_lem text start (blanks_of ext) (from_mark ext) (token_of ext) _ gap (run_of_lem in_token (from_mark ext)))
      ∙ ending_used ext (end_of text start)

-- ---- the written challenge, step by step

name_token : (algorithm : Algorithm) → every in_token (algorithm_name algorithm) ≡ true
unfolding algorithm_name codes every
name_token Algorithm.Md5 = refl
name_token Algorithm.Sha1 = refl

module _ (ext : Bool) (algorithm : Algorithm) (seed : List ℕ) (count : ℕ) (good : seed_checked seed ≡ Ok tt) (low : count ≤ 9999) where
  abbrev text : List ℕ
  text = challenge_text ext algorithm seed count

  -- what stands from the count on
  abbrev from_count : List ℕ
  from_count = decimal_of count ++ 32 ∷ (map lower_of seed ++ ending ext)

  laid : text ≡ opening ++ (algorithm_name algorithm ++ 32 ∷ from_count)
  unfolding challenge_text
  laid = simp append_assoc

  count_token : every in_token (decimal_of count) ≡ true
  count_token = every_weaker is_digit in_token (λ b e. above_space b (digit_high b e)) (decimal_of count) (digits_decimal (width_of count) count)

  seed_token : every in_token (map lower_of seed) ≡ true
  seed_token = plain_tokens (map lower_of seed) (lower_plain seed (good_seed seed good).2)

  -- no blanks before the count, and none before the seed
  count_solid : run_of is_blank from_count ≡ 0
  count_solid = run_stops is_blank in_token token_solid (decimal_of count) _ count_token (omega (arith, width_few count, length_decimal count))

  seed_solid : run_of is_blank (map lower_of seed ++ ending ext) ≡ 0
  seed_solid =
      run_stops is_blank in_token token_solid (map lower_of seed) _ seed_token
      (omega (arith, (good_seed seed good).0, length-map seed lower_of))

  -- where each stands
  name_run : Run in_token (drop 4 text) (algorithm_name algorithm) (32 ∷ from_count)
  unfolding opening codes run_of
  name_run = record { laid = ap (drop 4) laid; all = name_token algorithm; over = refl }

  count_run : Run in_token (drop (count_at text) text) (decimal_of count) (32 ∷ (map lower_of seed ++ ending ext))
  unfolding count_at run_of
  count_run = record {
    laid = next_there text 4 (algorithm_name algorithm) (32 ∷ from_count) name_run from_count refl count_solid;
    all = count_token;
    over = refl;
  }

  seed_run : Run in_token (drop (seed_at text) text) (map lower_of seed) (ending ext)
  unfolding seed_at
  seed_run = record {
    laid = next_there text (count_at text) (decimal_of count) _ count_run _ refl seed_solid;
    all = seed_token;
    over = (ending_ends ext).0;
  }

  seed_at_lem : seed_at text ≡ 6 + length (algorithm_name algorithm) + width_of count
  unfolding count_at seed_at
  seed_at_lem =
      next_at_lem text (count_at text) (decimal_of count) _ count_run _ refl seed_solid
      ∙ omega (arith, next_at_lem text 4 (algorithm_name algorithm) (32 ∷ from_count) name_run from_count refl count_solid, length_decimal count)

  -- and what each reads as
  opening_read : same (take 4 text) opening ≡ true
  unfolding opening codes
  opening_read = ap (λ (l : List ℕ). same (take 4 l) opening) laid ∙ same_self opening

  name_read : named (token_at text 4) ≡ Some algorithm
  name_read = ap named (token_there text 4 (algorithm_name algorithm) (32 ∷ from_count) name_run) ∙ name_named algorithm

  count_read : token_at text (count_at text) ≡ decimal_of count
  count_read = token_there text (count_at text) (decimal_of count) _ count_run

  seed_read : token_at text (seed_at text) ≡ map lower_of seed
  seed_read = token_there text (seed_at text) (map lower_of seed) (ending ext) seed_run

  end_there : drop (end_of text (seed_at text)) text ≡ ending ext
  end_there = behind_there text (seed_at text) (map lower_of seed) (ending ext) seed_run

  used_all : used_by text (seed_at text) ≡ length text
  used_all =
      used_read text (seed_at text) ext end_there
      ∙ omega (arith, seed_at_lem, ap length seed_read, length-map seed lower_of, length_challenge ext algorithm seed count)

  -- the algorithm, the count, the seed's place, all the bytes, and the mark exactly if it was written
  pub written_read : challenge_of (challenge_text ext algorithm seed count)
      ≡ a_challenge algorithm count (6 + length (algorithm_name algorithm) + width_of count) (length seed)
      (length (challenge_text ext algorithm seed count)) ext
  written_read =
      from_seed text opening_read algorithm name_read
      (ap is_count count_read ∙ decimal_count count low) count (ap (number_of 10) count_read ∙ decimal_number count low)
      ∙ all_good text algorithm count (seed_at text) (ap seed_checked seed_read ∙ lower_good seed good)
      (ap terminated end_there ∙ (ending_ends ext).1)
      ∙ ap₂ (λ (s l : ℕ). a_challenge algorithm count s l (used_by text (seed_at text)) (has_mark text (seed_at text))) seed_at_lem
      (ap length seed_read ∙ length-map seed lower_of)
      ∙ ap₂ (a_challenge algorithm count (6 + length (algorithm_name algorithm) + width_of count) (length seed)) used_all
      (mark_read text (seed_at text) ext end_there)

  -- the seed in lower case
  pub written_seed_read : seed_of (challenge_text ext algorithm seed count) ≡ map lower_of seed
  written_seed_read = seed_part_lem algorithm count _ (length seed) (length text) ext text written_read ∙ seed_read
