-- `generate_by` meets its promise: the checks in their order, then the chain from the password at count 0.
use Rattle.std.specs.Prelude.{◌≡◌, Ok}
use Rattle.std.proofs.Common.{sym, ap, ◌∙◌}
use Rattle.refusal.specs.Laws.{passed_on}
use Rattle.password.specs.PhraseAndSeed.{phrase_checked, seed_checked}
use Rattle.password.specs.Laws.{refused_phrase, refused_seed, refused_count, generated_good}
use Rattle.generator.specs.Inside.{chained}
use Rattle.generator.proofs.Chained.{chained-password}
use Rattle.generator.proofs.generate_by.Goals as goal
use Rattle.generator.proofs.generate_by.Goals.{In_ok-check_phrase, In_ok-check_seed}

phrase_good : (c : In_ok-check_phrase) → phrase_checked c.args.phrase.now ≡ Ok tt
phrase_good c = sym c.check_phrase.ensures ∙ c.in_ok-check_phrase.was

seed_good : (c : In_ok-check_seed) → seed_checked c.args.seed.now ≡ Ok tt
seed_good c = sym c.check_seed.ensures ∙ c.in_ok-check_seed.was

pub returns-in_err-check_phrase : goal.returns-in_err-check_phrase
returns-in_err-check_phrase c =
    passed_on _ _ c.from_residual.ensures.1 ∙ sym (refused_phrase _ _ _ _ _ (sym c.check_phrase.ensures ∙ c.in_err-check_phrase.was))

pub returns-in_err-check_seed : goal.returns-in_err-check_seed
returns-in_err-check_seed c =
    passed_on _ _ c.from_residual-in_err-check_seed.ensures.1
    ∙ sym (refused_seed _ _ _ _ _ (phrase_good (goal.at.returns-in_err-check_seed c).In_ok-check_phrase)
    (sym c.check_seed.ensures ∙ c.in_err-check_seed.was))

pub returns-then-count-gt9999 : goal.returns-then-count-gt9999
returns-then-count-gt9999 c =
    let at = goal.at.returns-then-count-gt9999 c in
    sym (refused_count _ _ _ _ (phrase_good at.In_ok-check_phrase) (seed_good at.In_ok-check_seed) c.if-count-gt9999.true)

pub returns : goal.returns
returns c =
    let at = goal.at.returns c in
    ap Ok (c.steps.ensures ∙ ap (chained _ _) c.first.ensures ∙ chained-password _ _ _ _)
    ∙ sym (generated_good _ _ _ _ (phrase_good at.In_ok-check_phrase) (seed_good at.In_ok-check_seed) c.if-count-gt9999.false)
