-- Laws of tokens and their places, of what a challenge that is read says, and of the steps' answers.
use Rattle.std.specs.Prelude.{ℕ, ◌+◌, ◌-◌, ◌≤◌, ◌<◌, Bool, true, false, cond, ◌||◌, List, [], ◌∷◌, length, drop, Some, None, Ok, Err, Result}
use Rattle.std.proofs.Math.Path.{◌≡◌, refl, ap, ap₂}
use Rattle.std.proofs.Common.{sym, ◌∙◌, true≢false, arith, length-append, length-drop, length-take}
use Rattle.std.proofs.Math.Bool.{or-false}
use Rattle.std.proofs.Math.ListN.{take}
use Rattle.std.proofs.lemmas.List.{length-map}
use Rattle.refusal.specs.declared.Refusal.{Refusal}
use Rattle.refusal.specs.Laws.{must_good, not_refused}
use Rattle.text.specs.Quoted.{codes}
use Rattle.text.specs.Kinds.{in_token, is_blank}
use Rattle.text.specs.Digits.{number_of}
use Rattle.text.specs.Scan.{run_of}
use Rattle.text.specs.ScanLaws.{run_ends_within, stretch-length}
use Rattle.text.specs.Tests.{both, cases, same, same_equal, same_lengths}
use Rattle.password.specs.declared.algorithm.Algorithm.{Algorithm}
use Rattle.password.specs.Algorithm.{algorithm_name, named}
use Rattle.password.specs.PhraseAndSeed.{seed_checked}
use Rattle.text.specs.Counts.{is_count, width_of}
use Rattle.text.specs.CountLaws.{count_low, length_decimal}
use Rattle.challenge.specs.declared.reading.Challenge.{Challenge}
use Rattle.challenge.specs.Challenges.{opening, ending, challenge_text, token_at, end_of, next_at, count_at, seed_at, terminated, step1, step2, step3}
use Rattle.challenge.specs.Challenges.{step4, step5, found, challenge_of, is_mark, mark_at}
use Rattle.challenge.specs.Challenges.{has_mark, used_by, challenge_numbers, start_of, length_of, seed_of, a_challenge}
use Rattle.std.specs.Option.{unwrap_or, is_some}
use Rattle.challenge.specs.Inside.{mark_end, read_by, read_from, seed_from}

-- ---- tokens and their places

pub length_token : (text : List ℕ) (at : ℕ) → length (token_at text at) ≡ run_of in_token (drop at text)
unfolding token_at
length_token text at = stretch-length in_token text at

pub token_within : (text : List ℕ) (at : ℕ) → at ≤ length text → end_of text at ≤ length text
token_within text at h = rw length_token (run_ends_within in_token text at h)

pub next_within : (text : List ℕ) (at : ℕ) → at ≤ length text → next_at text at ≤ length text
unfolding next_at
next_within text at h = run_ends_within is_blank text (end_of text at) (token_within text at h)

-- ---- what a challenge that is read says

-- a text with the opening has its four bytes
pub opened_long : (text : List ℕ) → same (take 4 text) opening ≡ true → 4 ≤ length text
unfolding opening codes
opened_long text e = omega (arith, length-take 4 text, ap length (same_equal (take 4 text) opening e))

module _ (algorithm : Algorithm) (n s l u : ℕ) (x : Bool) where
  -- a challenge is read only if each step finds nothing wrong
  pub steps_good : (text : List ℕ) → challenge_of text ≡ a_challenge algorithm n s l u x
      → (step1 text ≡ Ok tt) × (step2 text ≡ Ok tt) × (step3 text ≡ Ok tt) × (step4 text ≡ Ok tt) × (step5 text ≡ Ok tt)
      × (found text ≡ a_challenge algorithm n s l u x)
  unfolding challenge_of
  steps_good text e =
      let past = not_refused Err (a_challenge algorithm n s l u x) (λ why f. let z : ◌≡◌ {A = ℕ} 0 1 = cc in omega arith) in
      let a = past (step1 text) _ e in
      let b = past (step2 text) _ a.1 in
      let c = past (step3 text) _ b.1 in
      let d = past (step4 text) _ c.1 in
      let f = past (step5 text) _ d.1 in
      (a.0, b.0, c.0, d.0, f.0, f.1)

  module _ (text : List ℕ) (e : challenge_of text ≡ a_challenge algorithm n s l u x) where
    good : (step1 text ≡ Ok tt) × (step2 text ≡ Ok tt) × (step3 text ≡ Ok tt) × (step4 text ≡ Ok tt) × (step5 text ≡ Ok tt)
        × (found text ≡ a_challenge algorithm n s l u x)
    good = steps_good text e

    seed_starts : seed_at text ≡ s
    seed_starts = ap start_of good.5

    seed_length : length (token_at text (seed_at text)) ≡ l
    seed_length = ap length_of good.5

    seed_within : seed_at text ≤ length text
    unfolding count_at seed_at
    seed_within = next_within text (count_at text) (next_within text 4
        (opened_long text (must_good (same (take 4 text) opening) Refusal.OpeningWrong good.0)))

    -- its seed lies within the text
    pub part_within : s + l ≤ length text
    part_within = omega (arith, seed_starts, seed_length, token_within text (seed_at text) seed_within)

    -- the part handed back is the seed token
    pub seed_part_lem : seed_of text ≡ token_at text (seed_at text)
    unfolding token_at
    seed_part_lem =
        ap (λ (r : Result Challenge Refusal). take (length_of r) (drop (start_of r) text)) e
        ∙ ap₂ (λ (k at : ℕ). take k (drop at text)) (sym seed_length ∙ length_token text (seed_at text)) (sym seed_starts)

    -- and is good
    pub read_seed_good : seed_checked (seed_of text) ≡ Ok tt
    read_seed_good = ap seed_checked seed_part_lem ∙ good.3

    -- its count is at most 9,999
    pub read_count_low : n ≤ 9999
    read_count_low =
        let same : number_of 10 (token_at text (count_at text)) ≡ n = ap (λ (r : Result Challenge Refusal). (challenge_numbers r).2) good.5 in
        omega (arith, count_low (token_at text (count_at text)) (must_good (is_count (token_at text (count_at text))) Refusal.CountUnread good.2))

-- ---- the mark

-- a token of fewer than four bytes is the mark only if it is `ext`, and a longer one only if it starts with `ext,`
pub short_mark : (t : List ℕ) → length t < 4 → same t (codes "ext") ≡ is_mark t
unfolding is_mark codes
short_mark t h =
    let other = same_lengths (take 4 t) (codes "ext,") (λ e. omega (arith, length-take 4 t)) in
    sym (ap (λ (b : Bool). same t (codes "ext") || b) other ∙ or-false (same t (codes "ext")))

pub long_mark : (t : List ℕ) → 4 ≤ length t → same (take 4 t) (codes "ext,") ≡ is_mark t
unfolding is_mark codes
long_mark t h = sym (ap (λ (b : Bool). b || same (take 4 t) (codes "ext,")) (same_lengths t (codes "ext") (λ e. omega arith)))

-- the bytes used with the mark and without
marked_used : (text : List ℕ) (start : ℕ) → has_mark text start ≡ true → end_of text (mark_at text start) + 1 ≡ used_by text start
unfolding used_by
marked_used text start e = sym (ap (λ (b : Bool). cond b (end_of text (mark_at text start) + 1) (end_of text start + 1)) e)

unmarked_used : (text : List ℕ) (start : ℕ) → has_mark text start ≡ false → end_of text start + 1 ≡ used_by text start
unfolding used_by
unmarked_used text start e = sym (ap (λ (b : Bool). cond b (end_of text (mark_at text start) + 1) (end_of text start + 1)) e)

-- a mark isn't empty, so that its end isn't 0
marked_end : (text : List ℕ) (start : ℕ) → has_mark text start ≡ true → 0 < end_of text (mark_at text start)
unfolding has_mark is_mark codes same
marked_end text start e = by (token_at text (mark_at text start)) (both (is_mark (token_at text (mark_at text start))) _ e).0
  where
    by : (t : List ℕ) → is_mark t ≡ true → 0 < mark_at text start + length t
    by [] f = absurd (true≢false (sym f))
    by (b ∷ t) f = omega arith

-- the bytes used and the mark, by where the mark ends, and where that is
module _ (text : List ℕ) (start : ℕ) where
  pub mark_used : unwrap_or (mark_end text start) (end_of text start) + 1 ≡ used_by text start
  unfolding mark_end used_by
  mark_used = cases (has_mark text start) (λ e. rw e refl) (λ e. rw e refl)

  pub mark_said : is_some (mark_end text start) ≡ has_mark text start
  unfolding mark_end
  mark_said = cases (has_mark text start) (λ e. rw e refl) (λ e. rw e refl)

  pub mark_end_within : start ≤ length text → unwrap_or (mark_end text start) (end_of text start) ≤ length text
  unfolding mark_end
  mark_end_within h =
      cases (has_mark text start) (λ e. rw e (token_within text (mark_at text start) (next_within text start h))) (λ e. rw e (token_within text start h))

-- what is said by the mark's end is what is said on success
pub by_mark_end : (text : List ℕ) (algorithm : Algorithm) (count start : ℕ)
    → read_by algorithm count start (length (token_at text start)) (mark_end text start) ≡ read_from text algorithm count start
by_mark_end text algorithm count start =
    ap₂ (λ (used : ℕ) (ext : Bool). a_challenge algorithm count start (length (token_at text start)) used ext)
    (mark_used text start) (mark_said text start)

-- what stands behind a terminated token that is read lies within the text
pub terminated_within : (text : List ℕ) (at : ℕ) → terminated (drop at text) ≡ true → at + 1 ≤ length text
terminated_within text at e = by (drop at text) e (length-drop at text)
  where
    by : (rest : List ℕ) → terminated rest ≡ true → length rest ≡ length text - at → at + 1 ≤ length text
    by [] f l = absurd (true≢false (sym f))
    by (b ∷ rest) f l = omega arith

-- ---- what is written

pub ending_few : (ext : Bool) → length (ending ext) ≤ 5
unfolding ending codes
ending_few true = omega arith
ending_few false = omega arith

pub length_challenge : (ext : Bool) (algorithm : Algorithm) (seed : List ℕ) (count : ℕ)
    → length (challenge_text ext algorithm seed count) ≡ length (algorithm_name algorithm) + width_of count + length seed + length (ending ext) + 6
unfolding challenge_text opening codes
length_challenge ext algorithm seed count = simp (length-append, length-map) (omega (arith, length_decimal count))

-- ---- the reader's answers, one for each way through the steps

module _ (text : List ℕ) where
  pub stop1 : same (take 4 text) opening ≡ false → challenge_of text ≡ Err Refusal.OpeningWrong
  unfolding challenge_of
  stop1 e = rw e

  module _ (e1 : same (take 4 text) opening ≡ true) where
    pub stop2 : named (token_at text 4) ≡ None → challenge_of text ≡ Err Refusal.AlgorithmUnknown
    unfolding challenge_of
    stop2 e = rw (e1, e)

    module _ (algorithm : Algorithm) (e2 : named (token_at text 4) ≡ Some algorithm) where
      pub stop3 : is_count (token_at text (count_at text)) ≡ false → challenge_of text ≡ Err Refusal.CountUnread
      unfolding challenge_of
      stop3 e = rw (e1, e2, e)

      module _ (e3 : is_count (token_at text (count_at text)) ≡ true) where
        -- past step 3 the count is known, and the rest goes by the seed
        pub from_seed : (n : ℕ) → number_of 10 (token_at text (count_at text)) ≡ n → challenge_of text ≡ seed_from text algorithm n (seed_at text)
        unfolding challenge_of seed_from
        from_seed n e = rw (e1, e2, e3, e)

module _ (text : List ℕ) (algorithm : Algorithm) (count start : ℕ) where
  pub stop4 : (why : Refusal) → seed_checked (token_at text start) ≡ Err why → seed_from text algorithm count start ≡ Err why
  unfolding seed_from
  stop4 why e = rw e

  module _ (e4 : seed_checked (token_at text start) ≡ Ok tt) where
    pub stop5 : terminated (drop (end_of text start) text) ≡ false → seed_from text algorithm count start ≡ Err Refusal.SeedUnended
    unfolding seed_from
    stop5 e = rw (e4, e)

    pub all_good : terminated (drop (end_of text start) text) ≡ true → seed_from text algorithm count start ≡ read_from text algorithm count start
    unfolding seed_from
    all_good e = rw (e4, e)
