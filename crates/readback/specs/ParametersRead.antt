-- The parameters of an `init` reply, between white space: algorithm, count and seed, each where it stands, or nothing where it is missing.
use Rattle.std.specs.Prelude.{ℕ, suc, ◌+◌, ◌≤◌, ◌≡◌, refl, Bool, true, false, cond, not, ◌&&◌, eqb, take, drop}
use Rattle.std.proofs.Common.{zero-add, sym, ◌∙◌, ap₂, subst, take-append-drop, length-take-le, eqb-true}
use native.Mathlib.Omega.{arith}
use Rattle.std.proofs.Math.Path.{ap}
use mathlib.Core.List.{List, [], ◌∷◌, ◌++◌}
use Rattle.std.proofs.Math.ListN.{length, length-append, length-drop}
use Rattle.std.proofs.Math.Seq.{take-append_seam}
use Rattle.std.proofs.lemmas.Bool.{not-true}
use Rattle.text.specs.Kinds.{is_white, is_solid}
use Rattle.text.specs.Tests.{every, every_append, both, cases, same, same_equal}
use Rattle.text.specs.Scan.{run_of}
use Rattle.text.specs.Quoted.{codes}
use Rattle.text.specs.Digits.{number_of}
use Rattle.text.specs.Counts.{is_count, decimal_of}
use Rattle.password.specs.declared.algorithm.Algorithm.{Algorithm}
use Rattle.password.specs.Algorithm.{algorithm_number, algorithm_name, named}
use Rattle.password.specs.AlgorithmLaws.{name_named}
use Rattle.extended.specs.Parameters.{word_at, word_after, name_at, count_after, seed_after, name_number, count_in, trimmed, parameters_of}
use Rattle.extended.specs.ReplyTexts.{seed_part}
use Rattle.extended.specs.Laws.{trimmed_few, trimmed_white, all_count, last_counts, seed_starts_within}
use Rattle.readback.specs.LaidOut.{Run, Spaced}
use Rattle.readback.specs.CountRead.{decimal_count, decimal_number}
use Rattle.readback.specs.StretchRead.{run_stops, run_of_lem, stretch_there, past_there}

-- of solid bytes the last is one
pub solid_last : (s : List ℕ) → every is_solid s ≡ true → (t : List ℕ) (b : ℕ) → s ≡ t ++ b ∷ [] → is_solid b ≡ true
unfolding every
solid_last s e t b q =
    let halves = both (every is_solid t) (every is_solid (b ∷ [])) (sym (every_append is_solid t (b ∷ [])) ∙ sym (ap (every is_solid) q) ∙ e) in
    (both (is_solid b) true halves.1).0

-- a word, and then white space
module _ (part : List ℕ) (at : ℕ) (word behind white rest : List ℕ) (run : Run is_solid (drop at part) word behind) (gap : Run is_white behind white rest) where
  word_there : word_at part at ≡ word
  unfolding word_at
  word_there = stretch_there is_solid part at word behind run

  after_word : drop (word_after part at) part ≡ rest
  unfolding word_after
  after_word =
      past_there is_white part (at + run_of is_solid (drop at part)) white rest
      (subst (λ (l : List ℕ). Run is_white l white rest) (sym (past_there is_solid part at word behind run)) gap)

-- what it says: the algorithm by its name, the count, and the seed where it stands
module _ (part name count seed : List ℕ) (s : Spaced part name count seed) where
  name_place : drop (name_at part) part ≡ s.from_name
  name_place = ap (λ (k : ℕ). drop k part) (sym (zero-add (run_of is_white part))) ∙ past_there is_white part 0 s.white s.from_name s.before

  name_there : Run is_solid (drop (name_at part) part) name s.past_name
  name_there = subst (λ (l : List ℕ). Run is_solid l name s.past_name) (sym name_place) s.name_run

  count_place : drop (count_after part) part ≡ s.from_count_lem
  count_place = after_word part (name_at part) name s.past_name s.white₁ s.from_count_lem name_there s.between

  count_there : Run is_solid (drop (count_after part) part) count s.past_count
  count_there = subst (λ (l : List ℕ). Run is_solid l count s.past_count) (sym count_place) s.count_run

  seed_place_lem : drop (seed_after part) part ≡ seed ++ s.white₃
  seed_place_lem = after_word part (count_after part) count s.past_count s.white₂ s.from_seed count_there s.between₂ ∙ s.seed_laid

  pub name_said : (parameters_of part).algorithm ≡ name_number (named name)
  unfolding parameters_of
  name_said =
      ap (λ (w : List ℕ). name_number (named w)) (word_there part (name_at part) name s.past_name s.white₁ s.from_count_lem name_there s.between)

  pub count_said : (parameters_of part).count ≡ count_in count
  unfolding parameters_of
  count_said = ap count_in (word_there part (count_after part) count s.past_count s.white₂ s.from_seed count_there s.between₂)

  -- behind the white space, the name, the count and the white space at either
  pub start_said : (parameters_of part).start ≡ length s.white + length name + length s.white₁ + length count + length s.white₂
  unfolding parameters_of
  start_said =
      omega (
        arith,
        seed_starts_within part,
        length-drop (seed_after part) part,
        ap length seed_place_lem,
        length-append seed s.white₃,
        ap length s.before.laid,
        length-append s.white s.from_name,
        ap length s.name_run.laid,
        length-append name s.past_name,
        ap length s.between.laid,
        length-append s.white₁ s.from_count_lem,
        ap length s.count_run.laid,
        length-append count s.past_count,
        ap length s.between₂.laid,
        length-append s.white₂ s.from_seed,
        ap length s.seed_laid,
      )

  pub length_said : (parameters_of part).len ≡ length seed
  unfolding parameters_of
  length_said = ap trimmed seed_place_lem ∙ trimmed_white seed s.white₃ s.behind ∙ all_count seed s.seed_ends

  pub seed_said : seed_part part (parameters_of part).start (length seed) ≡ seed
  unfolding parameters_of
  seed_said = ap (take (length seed)) seed_place_lem ∙ take-append_seam seed s.white₃

-- ---- three words, none of them missing

-- white space before others, and a word before others
white_run : (w rest : List ℕ) → every is_white w ≡ true → run_of is_white rest ≡ 0 → Run is_white (w ++ rest) w rest
white_run w rest e z = record { laid = refl; all = e; over = z }

word_run : (w gap rest : List ℕ) → every is_solid w ≡ true → every is_white gap ≡ true → 1 ≤ length gap → Run is_solid (w ++ (gap ++ rest)) w (gap ++ rest)
word_run w gap rest e f h = record { laid = refl; all = e; over = run_stops is_solid is_white (λ b g. ap not g) gap rest f h }

pub solid_ends : (w rest : List ℕ) → every is_solid w ≡ true → 1 ≤ length w → run_of is_white (w ++ rest) ≡ 0
solid_ends = run_stops is_white is_solid (λ b e. not-true (is_white b) e)

-- with a seed that starts and ends with a solid byte
module _ (white name white₁ count white₂ seed white₃ : List ℕ) where
  pub three_words : every is_white white ≡ true → every is_solid name ≡ true → 1 ≤ length name
      → every is_white white₁ ≡ true → 1 ≤ length white₁ → every is_solid count ≡ true → 1 ≤ length count
      → every is_white white₂ ≡ true → 1 ≤ length white₂ → run_of is_white (seed ++ white₃) ≡ 0
      → ((t : List ℕ) (b : ℕ) → seed ≡ t ++ b ∷ [] → is_solid b ≡ true) → every is_white white₃ ≡ true
      → Spaced (white ++ (name ++ (white₁ ++ (count ++ (white₂ ++ (seed ++ white₃)))))) name count seed
  three_words w n some-name w₁ some₁ c some-count w₂ some₂ starts ends w₃ = record {
    white = white;
    from_name = name ++ (white₁ ++ (count ++ (white₂ ++ (seed ++ white₃))));
    before = white_run white _ w (solid_ends name _ n some-name);
    past_name = white₁ ++ (count ++ (white₂ ++ (seed ++ white₃)));
    name_run = word_run name white₁ _ n w₁ some₁;
    white₁ = white₁;
    from_count_lem = count ++ (white₂ ++ (seed ++ white₃));
    between = white_run white₁ _ w₁ (solid_ends count _ c some-count);
    past_count = white₂ ++ (seed ++ white₃);
    count_run = word_run count white₂ _ c w₂ some₂;
    white₂ = white₂;
    from_seed = seed ++ white₃;
    between₂ = white_run white₂ _ w₂ starts;
    white₃ = white₃;
    seed_laid = refl;
    seed_ends = ends;
    behind = w₃;
  }

-- ---- a name and a word, whatever they are

-- an algorithm's name is read as its number, and any other as 0
pub name_read : (algorithm : Algorithm) → name_number (named (algorithm_name algorithm)) ≡ algorithm_number algorithm
name_read algorithm = ap name_number (name_named algorithm)

pub name_unknown : (name : List ℕ) → ((algorithm : Algorithm) → name ≡ algorithm_name algorithm → ⊥) → name_number (named name) ≡ 0
name_unknown name none = rw (other Algorithm.Md5, other Algorithm.Sha1)
  where
    other : (algorithm : Algorithm) → same name (algorithm_name algorithm) ≡ false
    other algorithm =
        cases (same name (algorithm_name algorithm)) (λ e. absurd (none algorithm (same_equal name (algorithm_name algorithm) e))) (λ e. e)

-- a count is read as the number that it is, as one that is written is, and what is no count as 0
pub count_number : (word : List ℕ) → is_count word ≡ true → count_in word ≡ number_of 10 word
count_number word e = ap (λ (k : Bool). cond k (number_of 10 word) 0) e

pub count_read : (n : ℕ) → n ≤ 9999 → count_in (decimal_of n) ≡ n
count_read n h = count_number (decimal_of n) (decimal_count n h) ∙ decimal_number n h

pub count_unread : (word : List ℕ) → is_count word ≡ false → count_in word ≡ 0
count_unread word e = ap (λ (k : Bool). cond k (number_of 10 word) 0) e

-- ---- "A missing one is empty"

-- it reads as 0, which is no algorithm's number, and which 51 refuses
pub missing_said : (name_number (named []) ≡ 0) × (count_in [] ≡ 0)
unfolding algorithm_name codes same is_count
missing_said = (refl, refl)

-- what starts with neither kind is nothing
neither_kind : (s : List ℕ) → run_of is_white s ≡ 0 → run_of is_solid s ≡ 0 → s ≡ []
unfolding run_of
neither_kind [] e f = refl
neither_kind (b ∷ s) e f = by (is_white b) e f
  where
    by : (k : Bool) → cond k (suc (run_of is_white s)) 0 ≡ 0 → cond (not k) (suc (run_of is_solid s)) 0 ≡ 0 → b ∷ s ≡ []
    by true g h = absurd (omega arith)
    by false g h = absurd (omega arith)

-- nothing is made of nothings
no_bytes : (s t : List ℕ) → s ++ t ≡ [] → (s ≡ []) × (t ≡ [])
no_bytes [] t e = (refl, e)
no_bytes (b ∷ s) t e = absurd (omega (arith, ap length e))

-- white space alone is all that there is where no word follows it
no_word : (s rest white more : List ℕ) → run_of is_white s ≡ 0 → Run is_solid s [] rest → Run is_white rest white more → more ≡ []
no_word s rest white more z word gap =
    let none = neither_kind rest (ap (run_of is_white) (sym word.laid) ∙ z) word.over in
    (no_bytes white more (sym gap.laid ∙ none)).1

-- without a count there is no seed, and without a name no count
pub count_missing : (part name seed : List ℕ) → Spaced part name [] seed → seed ≡ []
count_missing part name seed s =
    (no_bytes seed s.white₃
    (sym s.seed_laid ∙ no_word s.from_count_lem s.past_count s.white₂ s.from_seed s.between.over s.count_run s.between₂)).0

pub name_missing : (part count seed : List ℕ) → Spaced part [] count seed → count ≡ []
name_missing part count seed s =
    (no_bytes count s.past_count
    (sym s.count_run.laid ∙ no_word s.from_name s.past_name s.white₁ s.from_count_lem s.before.over s.name_run s.between)).0

-- ---- every part is so

-- what is past the last solid byte is white space, and up to it all bytes count
trimmed_rest : (s : List ℕ) → every is_white (drop (trimmed s) s) ≡ true
unfolding trimmed every
trimmed_rest [] = refl
trimmed_rest (b ∷ s) = by (is_white b && eqb (trimmed s) 0) refl (trimmed_rest s)
  where
    by : (k : Bool) → (is_white b && eqb (trimmed s) 0) ≡ k → every is_white (drop (trimmed s) s) ≡ true
        → every is_white (drop (cond k 0 (suc (trimmed s))) (b ∷ s)) ≡ true
    by true e rest =
        let halves = both (is_white b) (eqb (trimmed s) 0) e in
        let none = eqb-true (trimmed s) 0 halves.1 in
        ap₂ (λ (x y : Bool). x && y) halves.0 (sym (ap (λ (n : ℕ). every is_white (drop n s)) none) ∙ rest)
    by false e rest = rest

trimmed_taken : (s : List ℕ) → trimmed (take (trimmed s) s) ≡ trimmed s
unfolding trimmed
trimmed_taken [] = refl
trimmed_taken (b ∷ s) = by (is_white b && eqb (trimmed s) 0) refl (trimmed_taken s)
  where
    by : (k : Bool) → (is_white b && eqb (trimmed s) 0) ≡ k → trimmed (take (trimmed s) s) ≡ trimmed s
        → trimmed (take (cond k 0 (suc (trimmed s))) (b ∷ s)) ≡ cond k 0 (suc (trimmed s))
    by true e same = refl
    by false e same = ap (λ (n : ℕ). cond (is_white b && eqb n 0) 0 (suc n)) same ∙ ap (λ (k : Bool). cond k 0 (suc (trimmed s))) e

pub spaced_every : (part : List ℕ) → (name count seed : List ℕ) × Spaced part name count seed
spaced_every part =
    let past : (ℕ → Bool) → List ℕ → List ℕ = λ test s. drop (run_of test s) s in
    let from_name = past is_white part in
    let past_name = past is_solid from_name in
    let from_count_lem = past is_white past_name in
    let past_count = past is_solid from_count_lem in
    let from_seed = past is_white past_count in (
      _,
      _,
      take (trimmed from_seed) from_seed,
      record {
        white = _;
        from_name = from_name;
        before = run_of_lem is_white part;
        past_name = past_name;
        name_run = run_of_lem is_solid from_name;
        white₁ = _;
        from_count_lem = from_count_lem;
        between = run_of_lem is_white past_name;
        past_count = past_count;
        count_run = run_of_lem is_solid from_count_lem;
        white₂ = _;
        from_seed = from_seed;
        between₂ = run_of_lem is_white past_count;
        white₃ = drop (trimmed from_seed) from_seed;
        seed_laid = sym (take-append-drop (trimmed from_seed) from_seed);
        seed_ends = last_counts _ (trimmed_taken from_seed ∙ sym (length-take-le (trimmed from_seed) from_seed (trimmed_few from_seed)));
        behind = trimmed_rest from_seed;
      },
    )
