-- Laws of parts, of words and of what a text says: what lies within the text.
use Rattle.std.specs.Prelude.{ℕ, suc, ◌+◌, ◌≤◌, ◌<◌, ◌≡◌, refl, Bool, true, false, cond, not}
use Rattle.std.specs.Prelude.{◌&&◌, List, [], ◌∷◌, ◌++◌, eqb, leb, length, get_or, take, drop, Ok, Err}
use Rattle.std.proofs.Common.{zero-le, ◌∙◌, ap, ap₂, subst, arith, add-one, length-append, length-drop, drop_of_length-le, drop-cons, ne_eqb, eqb-true}
use Rattle.std.proofs.Common.{leb-true, leb-false}
use Rattle.std.proofs.lemmas.Bool.{not-true, eqb-false}
use Rattle.refusal.specs.Answers.{Checked, Reading}
use Rattle.refusal.specs.Checks.{unless}
use Rattle.text.specs.Kinds.{in_part, is_white, is_solid}
use Rattle.text.specs.Scan.{run_of}
use Rattle.text.specs.ScanLaws.{run_within, run_ends_within, stretch-length}
use Rattle.text.specs.Tests.{every, both, either, cases}
use Rattle.extended.specs.declared.reply_types.ReplyType.{ReplyType}
use Rattle.extended.specs.ReplyTypes.{typed, type_in, is_init}
use Rattle.extended.specs.Parameters.{name_at, count_after, seed_after, word_after, trimmed, parameters_of}
use Rattle.extended.specs.ReplyTexts.{
  part_at,
  part_after,
  present_at,
  parameters_at,
  colons,
  renewal_in,
  typed_in,
  layout_checked,
  extended_of,
  Said,
  said_in,
}

-- ---- parts

pub part_length : (text : List ℕ) (at : ℕ) → length (part_at text at) ≡ run_of in_part (drop at text)
unfolding part_at
part_length text at = stretch-length in_part text at

-- past the end there is nothing
pub part_past : (text : List ℕ) (at : ℕ) → length text ≤ at → part_at text at ≡ []
unfolding part_at run_of
part_past text at h = ap (λ (l : List ℕ). take (run_of in_part l) l) (drop_of_length-le text h)

pub part_within : (text : List ℕ) (at : ℕ) → at ≤ length text → at + length (part_at text at) ≤ length text
part_within text at h = rw part_length (run_ends_within in_part text at h)

pub part_short : (text : List ℕ) (at : ℕ) → length (part_at text at) ≤ length text
part_short text at = omega (arith, part_length text at, run_within in_part (drop at text), length-drop at text)

-- the part after one that starts near the end starts as near, but for the colon
pub part_near : (text : List ℕ) (at k : ℕ) → at ≤ length text + k → part_after text at ≤ length text + suc k
part_near text at k h =
    cases (leb at (length text))
    (λ e. omega (arith, part_within text at (leb-true at (length text) e)))
    (λ e. omega (arith, ap length (part_past text at (omega (arith, leb-false at (length text) e)))))

pub present_near : (text : List ℕ) → present_at text ≤ length text + 1
unfolding present_at
present_near text = part_near text 0 0 zero-le

pub parameters_near : (text : List ℕ) → parameters_at text ≤ length text + 2
unfolding parameters_at
parameters_near text = part_near text (present_at text) 1 (present_near text)

-- the colons from a place on: past the end none, and one more where a colon stands
pub colons_past : (text : List ℕ) (i : ℕ) → length text ≤ i → colons (drop i text) ≡ 0
unfolding colons
colons_past text i h = ap colons (drop_of_length-le text h)

pub colons_one : (text : List ℕ) (i : ℕ) → i < length text → get_or text i 0 ≡ 58 → colons (drop i text) ≡ suc (colons (drop (i + 1) text))
unfolding colons
colons_one text i h e = rw (drop-cons text i 0, e, add-one)

pub colons_none : (text : List ℕ) (i : ℕ) → i < length text → (get_or text i 0 ≡ 58 → ⊥) → colons (drop i text) ≡ colons (drop (i + 1) text)
unfolding colons
colons_none text i h e = rw (drop-cons text i 0, ne_eqb (get_or text i 0) 58 e, add-one)

-- ---- words

pub word_within : (part : List ℕ) (at : ℕ) → at ≤ length part → word_after part at ≤ length part
unfolding word_after
word_within part at h = run_ends_within is_white part (at + run_of is_solid (drop at part)) (run_ends_within is_solid part at h)

pub seed_starts_within : (part : List ℕ) → seed_after part ≤ length part
seed_starts_within part = word_within part (count_after part) (word_within part (name_at part) (run_within is_white part))

-- ---- white space behind a text

pub trimmed_few : (s : List ℕ) → trimmed s ≤ length s
unfolding trimmed
trimmed_few [] = zero-le
trimmed_few (b ∷ s) = either (λ (n : ℕ). n ≤ suc (length s)) (is_white b && eqb (trimmed s) 0) (λ e. zero-le) (λ e. omega (arith, trimmed_few s))

-- what a first byte makes of the length behind it
abbrev before : ℕ → ℕ → ℕ
before b n = cond (is_white b && eqb n 0) 0 (suc n)

-- white space behind a text doesn't count
pub trimmed_white : (s w : List ℕ) → every is_white w ≡ true → trimmed (s ++ w) ≡ trimmed s
unfolding trimmed every
trimmed_white [] [] e = refl
trimmed_white [] (b ∷ w) e =
    let halves = both (is_white b) (every is_white w) e in
    ap₂ (λ (t : Bool) (n : ℕ). cond (t && eqb n 0) 0 (suc n)) halves.0 (trimmed_white [] w halves.1)
trimmed_white (a ∷ s) w e = ap (before a) (trimmed_white s w e)

-- a byte before some that count does too
before_some : (a n : ℕ) → before a (suc n) ≡ suc (suc n)
before_some a n = by (is_white a)
  where
    by : (t : Bool) → cond (t && eqb (suc n) 0) 0 (suc (suc n)) ≡ suc (suc n)
    by true = ap (λ (k : Bool). cond k 0 (suc (suc n))) (ne_eqb (suc n) 0 (λ z. omega arith))
    by false = refl

-- and up to one that is solid all do
pub trimmed_solid : (s : List ℕ) (b : ℕ) → is_white b ≡ false → trimmed (s ++ b ∷ []) ≡ suc (length s)
unfolding trimmed
trimmed_solid [] b e = ap (λ (t : Bool). cond (t && eqb 0 0) 0 1) e
trimmed_solid (a ∷ s) b e = ap (before a) (trimmed_solid s b e) ∙ before_some a (length s)

-- all bytes count exactly if the last, where there is one, is solid
pub all_count : (s : List ℕ) → ((t : List ℕ) (b : ℕ) → s ≡ t ++ b ∷ [] → is_solid b ≡ true) → trimmed s ≡ length s
unfolding trimmed
all_count [] f = refl
all_count (a ∷ []) f = ap (λ (t : Bool). cond (t && eqb 0 0) 0 1) (not-true (is_white a) (f [] a refl))
all_count (a ∷ c ∷ s) f =
    ap (before a) (all_count (c ∷ s) (λ t b e. f (a ∷ t) b (ap (λ (l : List ℕ). a ∷ l) e))) ∙ before_some a (length s)

pub last_counts : (s : List ℕ) → trimmed s ≡ length s → (t : List ℕ) (b : ℕ) → s ≡ t ++ b ∷ [] → is_solid b ≡ true
unfolding every
last_counts s all t b e = cases (is_white b) (λ w. absurd (short w)) (ap not)
  where
    short : is_white b ≡ true → ⊥
    short w =
        let none : trimmed s ≡ trimmed t = ap trimmed e ∙ trimmed_white t (b ∷ []) (ap (λ (k : Bool). k && true) w) in
        omega (arith, all, none, trimmed_few t, ap length e, length-append t (b ∷ []))

-- ---- the seed of a renewal stands within the text

abbrev seed_end : Said → ℕ
seed_end (Said.Login present) = 0
seed_end (Said.Renewal number count start len new present) = start + len
seed_end (Said.Refused why) = 0

pub parameters_within : (part : List ℕ) → (parameters_of part).start + (parameters_of part).len ≤ length part
unfolding parameters_of
parameters_within part =
    omega (arith, trimmed_few (drop (seed_after part) part), length-drop (seed_after part) part, seed_starts_within part)

nonzero : (n : ℕ) → (n ≡ 0 → ⊥) → 0 < n
nonzero n other = cases (leb 1 n) (leb-true 1 n) (λ e. absurd (other (omega (arith, leb-false 1 n e))))

-- a part with something in it starts within the text
starts_within : (text : List ℕ) (at : ℕ) → 0 < length (part_at text at) → at ≤ length text
starts_within text at h = omega (arith, part_length text at, run_within in_part (drop at text), length-drop at text)

renewal_end : (kind : ReplyType) (text : List ℕ) → seed_end (renewal_in kind text) ≤ length text
unfolding renewal_in
renewal_end kind text =
    let at = parameters_at text in
    let values = parameters_of (part_at text at) in
    either (λ (start : ℕ). start + values.len ≤ length text) (eqb values.len 0)
    (λ e. omega (arith, eqb-true values.len 0 e))
    (λ e. some (parameters_within (part_at text at)) (eqb-false values.len 0 e))
  where
    some : (parameters_of (part_at text (parameters_at text))).start + (parameters_of (part_at text (parameters_at text))).len
        ≤ length (part_at text (parameters_at text)) → ((parameters_of (part_at text (parameters_at text))).len ≡ 0 → ⊥)
        → parameters_at text + (parameters_of (part_at text (parameters_at text))).start + (parameters_of (part_at text (parameters_at text))).len ≤ length text
    some h other =
        let at = parameters_at text in
        let within = starts_within text at (omega (arith, nonzero _ other)) in
        omega (arith, part_within text at within)

typed_end : (kind : ReplyType) (text : List ℕ) → seed_end (typed_in kind text) ≤ length text
unfolding typed_in
typed_end kind text = either (λ (r : Said). seed_end r ≤ length text) (is_init kind) (λ e. renewal_end kind text) (λ e. zero-le)

unless_end : (n : ℕ) (k : Checked) (r : Said) → seed_end r ≤ n → seed_end (unless Said.Refused k r) ≤ n
unless_end n (Ok _) r h = h
unless_end n (Err why) r h = zero-le

text_end : (text : List ℕ) → seed_end (said_in text) ≤ length text
unfolding said_in extended_of
text_end text =
    let kind = type_in (typed (part_at text 0)) in
    either (λ (r : Said). seed_end r ≤ length text) (eqb (colons text) 0) (λ e. zero-le)
    (λ e. unless_end (length text) (layout_checked text) (typed_in kind text) (typed_end kind text))

pub said_within : (text : List ℕ) (number count start len : ℕ) (new present : Reading)
    → said_in text ≡ Said.Renewal number count start len new present → start + len ≤ length text
said_within text number count start len new present e = subst (λ (r : Said). seed_end r ≤ length text) e (text_end text)
