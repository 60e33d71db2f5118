-- The law of rows, and how an answer behind checks goes by theirs.
use Rattle.std.specs.Prelude.{ℕ, ◌≤◌, ◌<◌, ◌≡◌, Bool, cond, not, ◌&&◌, ◌||◌, eqb, leb, ltb, Ok, Err}
use Rattle.std.proofs.Common.{arith, ap₂, ◌∙◌, subst, eqb-true, ltb-true, leb-true}
use Rattle.std.proofs.Math.Path.{refl, sym, ap}
use Rattle.std.proofs.Math.Bool.{true, false}
use Rattle.std.proofs.lemmas.Bool.{false≢true}
use mathlib.Core.List.{List, [], ◌∷◌, ◌++◌}
use Rattle.refusal.specs.declared.Refusal.{Refusal}
use Rattle.refusal.specs.Answers.{Checked}
use Rattle.refusal.specs.Numbers.{listing_of}
use Rattle.refusal.specs.Checks.{must, unless}
use Rattle.refusal.specs.Laws.{must_good}
use Rattle.text.specs.Tests.{every, both}
use Rattle.grounds.specs.Listed.{is_in, listed}
use Rattle.grounds.specs.Conditions.{Row, NoneHolds, FirstHolds, Exactly}

-- ---- the list

pub refusal_listed : (why : Refusal) → is_in (listing_of why).0 listed ≡ true
refusal_listed Refusal.PhraseShort = refl
refusal_listed Refusal.PhraseLong = refl
refusal_listed Refusal.InputLong = refl
refusal_listed Refusal.CountHigh = refl
refusal_listed Refusal.OpeningWrong = refl
refusal_listed Refusal.AlgorithmUnknown = refl
refusal_listed Refusal.CountUnread = refl
refusal_listed Refusal.SeedLength = refl
refusal_listed Refusal.SeedCharacter = refl
refusal_listed Refusal.SeedUnended = refl
refusal_listed Refusal.ReplyLong = refl
refusal_listed (Refusal.WordUnknown marks) = refl
refusal_listed Refusal.PairSumWrong = refl
refusal_listed Refusal.ReplyUnread = refl
refusal_listed Refusal.TypeUnknown = refl
refusal_listed Refusal.PartsWrong = refl
refusal_listed Refusal.BufferShort = refl
refusal_listed Refusal.IdZero = refl
refusal_listed Refusal.CountOutside = refl
refusal_listed Refusal.IdTaken = refl
refusal_listed Refusal.TableFull = refl
refusal_listed Refusal.AccountMissing = refl
refusal_listed Refusal.PortUnknown = refl
refusal_listed Refusal.PortInLine = refl
refusal_listed Refusal.PortShut = refl
refusal_listed Refusal.AccountUsedUp = refl
refusal_listed Refusal.PortNotInLine = refl
refusal_listed Refusal.PortNotInFront = refl
refusal_listed Refusal.ReplyWrong = refl
refusal_listed Refusal.ReplyWrongThird = refl
refusal_listed Refusal.SeedSame = refl
refusal_listed Refusal.LinesOutside = refl

-- What holds of each number of a list holds of one that stands in it.
in_every : (test : ℕ → Bool) (n : ℕ) (ns : List ℕ) → is_in n ns ≡ true → every test ns ≡ true → test n ≡ true
unfolding every
in_every test n [] e h = absurd (false≢true e)
in_every test n (m ∷ ns) e h = go (eqb n m) refl e (in_every test n ns)
  where
    halves : (test m ≡ true) × (every test ns ≡ true)
    halves = both (test m) (every test ns) h

    go : (b : Bool) → eqb n m ≡ b → (b || is_in n ns) ≡ true → (is_in n ns ≡ true → every test ns ≡ true → test n ≡ true) → test n ≡ true
    go true f e later = ap test (eqb-true n m f) ∙ halves.0
    go false f e later = later e halves.1

-- A refusal's number is not 0, and no larger than a count: from each refusal's number, not from the list.
bounded : (why : Refusal) → (ltb 0 (listing_of why).0 && leb (listing_of why).0 9999) ≡ true
bounded Refusal.PhraseShort = refl
bounded Refusal.PhraseLong = refl
bounded Refusal.InputLong = refl
bounded Refusal.CountHigh = refl
bounded Refusal.OpeningWrong = refl
bounded Refusal.AlgorithmUnknown = refl
bounded Refusal.CountUnread = refl
bounded Refusal.SeedLength = refl
bounded Refusal.SeedCharacter = refl
bounded Refusal.SeedUnended = refl
bounded Refusal.ReplyLong = refl
bounded (Refusal.WordUnknown marks) = refl
bounded Refusal.PairSumWrong = refl
bounded Refusal.ReplyUnread = refl
bounded Refusal.TypeUnknown = refl
bounded Refusal.PartsWrong = refl
bounded Refusal.BufferShort = refl
bounded Refusal.IdZero = refl
bounded Refusal.CountOutside = refl
bounded Refusal.IdTaken = refl
bounded Refusal.TableFull = refl
bounded Refusal.AccountMissing = refl
bounded Refusal.PortUnknown = refl
bounded Refusal.PortInLine = refl
bounded Refusal.PortShut = refl
bounded Refusal.AccountUsedUp = refl
bounded Refusal.PortNotInLine = refl
bounded Refusal.PortNotInFront = refl
bounded Refusal.ReplyWrong = refl
bounded Refusal.ReplyWrongThird = refl
bounded Refusal.SeedSame = refl
bounded Refusal.LinesOutside = refl

pub number_bounds : (why : Refusal) → (0 < (listing_of why).0) × ((listing_of why).0 ≤ 9999)
number_bounds why =
    let n = (listing_of why).0 in
    let parts = both (ltb 0 n) (leb n 9999) (bounded why) in
    (ltb-true 0 n parts.0, leb-true n 9999 parts.1)

-- ---- the law of rows

-- The number of the first row that holds, and `rest` where none does.
abbrev pub first_or : List Row → ℕ → ℕ
first_or [] rest = rest
first_or (row ∷ rows) rest = cond row.1 row.0 (first_or rows rest)

first_append : (rows more : List Row) (rest : ℕ) → first_or (rows ++ more) rest ≡ first_or rows (first_or more rest)
first_append [] more rest = refl
first_append (row ∷ rows) more rest = ap (λ (n : ℕ). cond row.1 row.0 n) (first_append rows more rest)

none_first : (rows : List Row) → NoneHolds rows → (rest : ℕ) → first_or rows rest ≡ rest
none_first [] h rest = refl
none_first (row ∷ rows) h rest = ap (λ (t : Bool). cond t row.0 (first_or rows rest)) h.0 ∙ none_first rows h.1 rest

first_none : (rows : List Row) → ((rest : ℕ) → first_or rows rest ≡ rest) → NoneHolds rows
first_none [] f = tt
first_none (row ∷ rows) f = go row.1 refl f (first_none rows)
  where
    go : (t : Bool) → row.1 ≡ t → ((rest : ℕ) → cond t row.0 (first_or rows rest) ≡ rest)
        → (((rest : ℕ) → first_or rows rest ≡ rest) → NoneHolds rows) → (row.1 ≡ false) × NoneHolds rows
    go true e f later = absurd (omega (arith, f 0, f 1))
    go false e f later = (e, later f)

holds_first : (n : ℕ) (before after : List Row) → NoneHolds before → (rest : ℕ) → first_or (before ++ (n, true) ∷ after) rest ≡ n
holds_first n [] after h rest = refl
holds_first n (row ∷ before) after h rest =
    ap (λ (t : Bool). cond t row.0 (first_or (before ++ (n, true) ∷ after) rest)) h.0 ∙ holds_first n before after h.1 rest

first_holds : (n : ℕ) (rows : List Row) → ((rest : ℕ) → first_or rows rest ≡ n) → FirstHolds n rows
first_holds n [] f = absurd (omega (arith, f 0, f 1))
first_holds n (row ∷ rows) f = go row.1 refl f (first_holds n rows)
  where
    go : (t : Bool) → row.1 ≡ t → ((rest : ℕ) → cond t row.0 (first_or rows rest) ≡ n)
        → (((rest : ℕ) → first_or rows rest ≡ n) → FirstHolds n rows) → FirstHolds n (row ∷ rows)
    go true e f later =
        record { before = []; after = rows; parted = ap₂ (λ (m : ℕ) (t : Bool). (m, t) ∷ rows) (f 0) e; none = tt }
    go false e f later =
        let found = later f in
        record {
          before = row ∷ found.before;
          after = found.after;
          parted = ap (λ (l : List Row). row ∷ l) found.parted;
          none = (e, found.none);
        }

-- ---- a check and its rows

abbrev pub listed_as : Refusal → ℕ
listed_as why = (listing_of why).0

-- The check refuses by these rows: where none of them holds, what comes behind it decides.
unfoldable pub Follows : Checked → List Row → Type 0
Follows check rows = (rest : ℕ) → unless listed_as check rest ≡ first_or rows rest

module _ (check : Checked) (rows : List Row) (f : Follows check rows) where
  -- It refuses exactly where one of them holds, by the first of these, and finds nothing wrong exactly where none does.
  pub refused_first : (why : Refusal) → check ≡ Err why → FirstHolds (listed_as why) rows
  unfolding Follows
  refused_first why e = first_holds (listed_as why) rows (λ rest. sym (f rest) ∙ ap (λ (c : Checked). unless listed_as c rest) e)

  pub first_refused : (n : ℕ) → FirstHolds n rows → (why : Refusal) × (check ≡ Err why) × (listed_as why ≡ n)
  unfolding Follows
  first_refused n h =
      go check refl
      (λ rest. f rest ∙ ap (λ (l : List Row). first_or l rest) h.parted ∙ holds_first n h.before h.after h.none rest)
    where
      go : (c : Checked) → check ≡ c → ((rest : ℕ) → unless listed_as c rest ≡ n)
          → (why : Refusal) × (check ≡ Err why) × (listed_as why ≡ n)
      go (Ok _) e g = absurd (omega (arith, g 0, g 1))
      go (Err why) e g = (why, e, g 0)

  pub good_none : check ≡ Ok tt → NoneHolds rows
  unfolding Follows
  good_none e = first_none rows (λ rest. sym (f rest) ∙ ap (λ (c : Checked). unless listed_as c rest) e)

  pub none_good : NoneHolds rows → check ≡ Ok tt
  unfolding Follows
  none_good h = go check refl (λ rest. f rest ∙ none_first rows h rest)
    where
      go : (c : Checked) → check ≡ c → ((rest : ℕ) → unless listed_as c rest ≡ rest) → check ≡ Ok tt
      go (Ok _) e g = e
      go (Err why) e g = absurd (omega (arith, g 0, g 1))

  -- So an answer with the check's number goes by the rows.
  pub exactly : (number : ℕ) → number ≡ unless listed_as check 0 → Exactly number rows
  exactly number e = record {
    refused = λ n z. (there check refl e n z, λ h. let r = first_refused n h in told r.0 r.1 ∙ r.2);
    taken = (none check refl e, λ h. e ∙ ap (λ (c : Checked). unless listed_as c 0) (none_good h));
  }
    where
      there : (c : Checked) → check ≡ c → number ≡ unless listed_as c 0 → (n : ℕ) → (n ≡ 0 → ⊥) → number ≡ n → FirstHolds n rows
      there (Ok _) g q n z r = absurd (z (sym r ∙ q))
      there (Err why) g q n z r = subst (λ (m : ℕ). FirstHolds m rows) (sym q ∙ r) (refused_first why g)

      told : (why : Refusal) → check ≡ Err why → number ≡ listed_as why
      told why g = e ∙ ap (λ (c : Checked). unless listed_as c 0) g

      none : (c : Checked) → check ≡ c → number ≡ unless listed_as c 0 → number ≡ 0 → NoneHolds rows
      none (Ok _) g q r = good_none g
      none (Err why) g q r = absurd (omega (arith, (number_bounds why).0, sym q ∙ r))

-- ---- checks one after the other

pub no_rows : (check : Checked) → check ≡ Ok tt → Follows check []
unfolding Follows
no_rows check e rest = ap (λ (c : Checked). unless listed_as c rest) e

pub test_row : (t holds : Bool) (why : Refusal) → not t ≡ holds → Follows (must t why) ((listed_as why, holds) ∷ [])
unfolding Follows
test_row true holds why e rest = ap (λ (b : Bool). cond b (listed_as why) rest) e
test_row false holds why e rest = ap (λ (b : Bool). cond b (listed_as why) rest) e

-- An answer of any kind behind a check: first the check's rows, and then the answer's.
module _ {A : Type 0} (checked : A → Checked) (refuse : Refusal → A) (own : (why : Refusal) → checked (refuse why) ≡ Err why) where
  pub behind : (check : Checked) (next : A) (rows more : List Row) → Follows check rows → (check ≡ Ok tt → Follows (checked next) more)
      → Follows (checked (unless refuse check next)) (rows ++ more)
  unfolding Follows
  behind (Ok _) next rows more f g rest = g refl rest ∙ f (first_or more rest) ∙ sym (first_append rows more rest)
  behind (Err why) next rows more f g rest =
      ap (λ (c : Checked). unless listed_as c rest) (own why) ∙ f (first_or more rest) ∙ sym (first_append rows more rest)

  -- behind a test
  pub behind_test : (t holds : Bool) (why : Refusal) (next : A) (more : List Row) → not t ≡ holds → (t ≡ true → Follows (checked next) more)
      → Follows (checked (unless refuse (must t why) next)) ((listed_as why, holds) ∷ more)
  behind_test t holds why next more e g =
      behind (must t why) next ((listed_as why, holds) ∷ []) more (test_row t holds why e) (λ f. g (must_good t why f))

  -- in the other case of a test
  pub otherwise : (t : Bool) (why : Refusal) (next : A) (more : List Row) → Follows (checked next) more
      → Follows (checked (cond t (refuse why) next)) ((listed_as why, t) ∷ more)
  unfolding Follows
  otherwise true why next more g rest = ap (λ (c : Checked). unless listed_as c rest) (own why)
  otherwise false why next more g rest = g rest

-- Checks behind checks.
pub then_check : (check next : Checked) (rows more : List Row) → Follows check rows → (check ≡ Ok tt → Follows next more)
    → Follows (unless Err check next) (rows ++ more)
then_check = behind (λ (c : Checked). c) Err (λ why. refl)

pub then_test : (t holds : Bool) (why : Refusal) (next : Checked) (more : List Row) → not t ≡ holds → (t ≡ true → Follows next more)
    → Follows (unless Err (must t why) next) ((listed_as why, holds) ∷ more)
then_test = behind_test (λ (c : Checked). c) Err (λ why. refl)
