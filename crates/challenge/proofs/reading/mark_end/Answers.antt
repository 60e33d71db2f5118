-- `mark_end` meets its promise: whether the token after the seed is the mark, and ended as a seed is.
use Rattle.std.proofs.Common.{◌≡◌, ap, ap₂, sym, ◌∙◌, Bool, ◌&&◌, ◌+◌, ℕ, List, Bor, drop, Some}
use Rattle.text.specs.Kinds.{is_blank}
use Rattle.text.specs.Scan.{run_of}
use Rattle.challenge.specs.Challenges.{token_at, end_of, next_at, terminated, is_mark, mark_at, has_mark}
use Rattle.challenge.specs.Inside.{mark_end}
use Rattle.challenge.proofs.reading.mark_end.Goals as goal
use Rattle.challenge.proofs.reading.mark_end.Goals.{After-is_terminated}

-- of a seed that starts at a place and ends where the function is told
module _ (c : After-is_terminated) (start : ℕ) (e : c.args.seed_end.at ≡ end_of c.args.seed_end.text.now start) where
  at_mark : c.past_blanks.result.at ≡ mark_at c.args.seed_end.text.now start
  unfolding next_at
  at_mark = c.past_blanks.ensures.1 ∙ ap (λ (k : ℕ). k + run_of is_blank (drop k c.args.seed_end.text.now)) e

  ends : c.token_and_end.result.1.at ≡ end_of c.args.seed_end.text.now (mark_at c.args.seed_end.text.now start)
  ends = c.token_and_end.ensures.2 ∙ ap₂ (λ (t : Bor (List ℕ)) (k : ℕ). end_of t.now k) c.past_blanks.ensures.0 at_mark

  flag : (c.is_mark.result && c.is_terminated.result) ≡ has_mark c.args.seed_end.text.now start
  unfolding has_mark
  flag =
      let text = c.past_blanks.ensures.0 in
      let said = c.token_and_end.ensures in
      ap₂ (λ (a b : Bool). a && b)
      (c.is_mark.ensures ∙ ap is_mark (said.0 ∙ ap₂ (λ (t : Bor (List ℕ)) (k : ℕ). token_at t.now k) text at_mark))
      (c.is_terminated.ensures ∙ ap₂ (λ (t : Bor (List ℕ)) (k : ℕ). terminated (drop k t.now)) (said.1 ∙ text) ends)

pub returns-then-is_mark-is_terminated : goal.returns-then-is_mark-is_terminated
unfolding mark_end
returns-then-is_mark-is_terminated c start e =
    let past = (goal.at.returns-then-is_mark-is_terminated c).After-is_terminated in
    rw (sym (flag past start e) ∙ c.if-is_mark-is_terminated.true) (ap Some (ends past start e))

pub returns-else-is_mark-is_terminated : goal.returns-else-is_mark-is_terminated
unfolding mark_end
returns-else-is_mark-is_terminated c start e =
    rw (sym (flag (goal.at.returns-else-is_mark-is_terminated c).After-is_terminated start e) ∙ c.if-is_mark-is_terminated.false)
