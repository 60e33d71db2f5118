-- `seed_from` meets its promise: step 4, then step 5.
use Rattle.std.proofs.Common.{◌≡◌, sym, ap, ap₂, ◌∙◌, Ok, ℕ, List, Bor, ◌+◌, drop, length, arith, Option, Bool}
use Rattle.std.specs.Option.{unwrap_or, is_some}
use Rattle.password.specs.declared.algorithm.Algorithm.{Algorithm}
use Rattle.challenge.specs.Inside.{mark_end}
use Rattle.refusal.specs.Laws.{passed_on}
use Rattle.password.specs.PhraseAndSeed.{seed_checked}
use Rattle.challenge.specs.Challenges.{token_at, end_of, terminated, used_by, has_mark, a_challenge}
use Rattle.challenge.specs.Laws.{mark_used, mark_said, mark_end_within, stop4, stop5, all_good}
use Rattle.challenge.proofs.reading.seed_from.Goals as goal
use Rattle.challenge.proofs.reading.seed_from.Goals.{After-check_seed, After-is_terminated, In_ok-check_seed, After-unwrap_or}

checked : (c : After-check_seed) → c.check_seed.result ≡ seed_checked (token_at c.args.start.text.now c.args.start.at)
checked c = c.check_seed.ensures ∙ ap seed_checked c.token_and_end.ensures.0

good : (c : In_ok-check_seed) → seed_checked (token_at c.args.start.text.now c.args.start.at) ≡ Ok tt
good c = sym (c.check_seed.ensures ∙ ap seed_checked c.token_and_end.ensures.0) ∙ c.in_ok-check_seed.was

ended : (c : After-is_terminated) →
    c.is_terminated.result ≡ terminated (drop (end_of c.args.start.text.now c.args.start.at) c.args.start.text.now)
ended c =
    c.is_terminated.ensures ∙ ap₂ (λ (t : Bor (List ℕ)) (k : ℕ). terminated (drop k t.now)) c.token_and_end.ensures.1 c.token_and_end.ensures.2

pub returns-in_err-check_seed : goal.returns-in_err-check_seed
returns-in_err-check_seed c =
    passed_on _ _ c.from_residual.ensures.1
    ∙ sym (stop4 c.args.start.text.now _ _ c.args.start.at _ (sym (checked (goal.at.returns-in_err-check_seed c).After-check_seed) ∙ c.in_err-check_seed.was))

pub returns-then-not-is_terminated : goal.returns-then-not-is_terminated
returns-then-not-is_terminated c =
    sym (stop5 c.args.start.text.now _ _ c.args.start.at (good (goal.at.returns-then-not-is_terminated c).In_ok-check_seed)
    (sym (ended (goal.at.returns-then-not-is_terminated c).After-is_terminated) ∙ c.if-not-is_terminated.true))

-- the same said of the same
said : (algorithm : Algorithm) (count start : ℕ) (l m u v : ℕ) (x y : Bool) → l ≡ m → u ≡ v → x ≡ y
    → a_challenge algorithm count start l u x ≡ a_challenge algorithm count start m v y
said algorithm count start l m u v x y e f g = cc

marked : (c : After-unwrap_or) → c.mark_end-mark.result ≡ mark_end c.args.start.text.now c.args.start.at
marked c =
    let a = c.args.start in
    let end = c.token_and_end.ensures in
    c.mark_end-mark.ensures a.at (end.2 ∙ ap (λ (t : Bor (List ℕ)). end_of t.now a.at) (sym end.1)) ∙ ap (λ (t : Bor (List ℕ)). mark_end t.now a.at) end.1

last : (c : After-unwrap_or) → c.unwrap_or.result ≡ unwrap_or (mark_end c.args.start.text.now c.args.start.at) (end_of c.args.start.text.now c.args.start.at)
last c = c.unwrap_or.ensures ∙ ap₂ (λ (o : Option ℕ) (k : ℕ). unwrap_or o k) (marked c) c.token_and_end.ensures.2

pub overflow_add-result : goal.overflow_add-result
overflow_add-result c =
    let a = c.args.start in
    omega (arith, last (goal.at.overflow_add-result c).After-unwrap_or, mark_end_within a.text.now a.at a.within)

pub returns : goal.returns
returns c =
    let a = c.args.start in
    said c.args.algorithm c.args.count a.at _ (length (token_at a.text.now a.at)) _ (used_by a.text.now a.at) _ (has_mark a.text.now a.at)
    (ap length c.token_and_end.ensures.0)
    (ap (λ (n : ℕ). n + 1) (last (goal.at.returns c).After-unwrap_or) ∙ mark_used a.text.now a.at)
    (c.is_some.ensures ∙ ap is_some (marked (goal.at.returns c).After-unwrap_or) ∙ mark_said a.text.now a.at)
    ∙ sym (all_good a.text.now _ _ a.at (good (goal.at.returns c).In_ok-check_seed)
    (sym (ended (goal.at.returns c).After-is_terminated) ∙ c.if-not-is_terminated.false))
