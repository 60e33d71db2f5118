-- 02, R-6: the mark of a challenge that is read, exactly: "set when the next token on the seed's line is `ext`, alone or with a comma list, and is
-- ended as a seed is; the bytes used then include it".
use Rattle.std.specs.Prelude.{ℕ, ◌+◌, ◌≡◌, ◌↔◌, Bool, true, false, ◌&&◌, List, length, drop, Result, Ok, Err}
use Rattle.std.proofs.Math.Path.{sym, ap, subst}
use Rattle.std.proofs.Common.{◌∙◌, ap₂, arith}
use Rattle.std.proofs.Math.Bool.{cond}
use Rattle.text.specs.Kinds.{in_token, is_blank}
use Rattle.text.specs.Tests.{both}
use Rattle.text.specs.Scan.{run_of}
use Rattle.password.specs.declared.algorithm.Algorithm.{Algorithm}
use Rattle.refusal.specs.declared.Refusal.{Refusal}
use Rattle.challenge.specs.declared.reading.Challenge.{Challenge}
use Rattle.challenge.specs.Challenges.{end_of, seed_at, terminated, mark_at, has_mark}
use Rattle.challenge.specs.Challenges.{used_by, challenge_of, challenge_numbers, start_of, length_of, a_challenge}
use Rattle.challenge.specs.Laws.{steps_good}
use Rattle.readback.specs.LaidOut.{Run, MarkBehind}
use Rattle.readback.specs.StretchRead.{run_of_lem}
use Rattle.readback.specs.ChallengeRead.{mark_by, mark_end_lem}

-- there is a mark exactly if it stands there
mark_exactly : (text : List ℕ) (start : ℕ) → (has_mark text start ≡ true) ↔ MarkBehind text (end_of text start)
mark_exactly text start = (
  there,
  λ m. mark_by text start m.blanks m.from m.token m.behind m.blank_run m.token_run
      ∙ ap₂ (λ (a b : Bool). a && b) m.is_mark_lem m.ended,
)
  where
    there : has_mark text start ≡ true → MarkBehind text (end_of text start)
    there e =
        let gap = run_of_lem is_blank (drop (end_of text start) text) in
        let from = drop (run_of is_blank (drop (end_of text start) text)) (drop (end_of text start) text) in
        let behind = drop (run_of in_token from) from in
        let halves = both _ (terminated behind) (sym (mark_by text start _ from _ behind gap (run_of_lem in_token from)) ∙ e) in
        record {
          blanks = _;
          from = from;
          blank_run = gap;
          token = _;
          behind = behind;
          token_run = run_of_lem in_token from;
          is_mark_lem = halves.0;
          ended = halves.1;
        }

-- whether a challenge that was read has the mark
abbrev marked_in : Result Challenge Refusal → Bool
marked_in (Ok read) = read.ext
marked_in (Err why) = false

module _ (algorithm : Algorithm) (n s l u : ℕ) (x : Bool) (text : List ℕ) (e : challenge_of text ≡ a_challenge algorithm n s l u x) where
  seed_end_lem : end_of text (seed_at text) ≡ s + l
  seed_end_lem = ap (λ (r : Result Challenge Refusal). start_of r + length_of r) (steps_good algorithm n s l u x text e).5

  mark_is : has_mark text (seed_at text) ≡ x
  mark_is = ap marked_in (steps_good algorithm n s l u x text e).5

  used_is : used_by text (seed_at text) ≡ u
  used_is = ap (λ (r : Result Challenge Refusal). (challenge_numbers r).5) (steps_good algorithm n s l u x text e).5

  -- a challenge that is read has the mark exactly if it stands behind its seed
  pub read_marked : (x ≡ true) ↔ MarkBehind text (s + l)
  read_marked = rw (sym mark_is, sym seed_end_lem) (mark_exactly text (seed_at text))

  -- and the bytes used go up to and with the byte that ends it, or that ends the seed
  pub used_marked : x ≡ true → (m : MarkBehind text (s + l)) → u ≡ s + l + length m.blanks + length m.token + 1
  unfolding used_by
  used_marked t m =
      let there = subst (λ (k : ℕ). Run is_blank (drop k text) m.blanks m.from) (sym seed_end_lem) m.blank_run in
      sym used_is
      ∙ ap (λ (k : Bool). cond k (end_of text (mark_at text (seed_at text)) + 1) (end_of text (seed_at text) + 1)) (mark_is ∙ t)
      ∙ omega (arith, mark_end_lem text (seed_at text) m.blanks m.from m.token m.behind there m.token_run, seed_end_lem)

  pub used_unmarked : x ≡ false → u ≡ s + l + 1
  unfolding used_by
  used_unmarked f =
      sym used_is
      ∙ ap (λ (k : Bool). cond k (end_of text (mark_at text (seed_at text)) + 1) (end_of text (seed_at text) + 1)) (mark_is ∙ f)
      ∙ ap (λ (k : ℕ). k + 1) seed_end_lem
