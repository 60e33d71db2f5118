-- `check_new` meets its promise: its checks in their order.
use Rattle.std.specs.Prelude.{[], ◌∷◌}
use Rattle.std.proofs.Common.{sym, ◌∙◌}
use Rattle.refusal.specs.Laws.{passed_on, first_fails}
use Rattle.password.specs.Algorithm.{numbered, algorithm_checked}
use Rattle.password.specs.PhraseAndSeed.{seed_checked}
use Rattle.accounts.specs.Accounts.{count_within, new_checked}
use Rattle.accounts.proofs.values.Good.{last_check}
use Rattle.accounts.proofs.values.check_new.Goals as goal

pub returns-in_err-check_count : goal.returns-in_err-check_count
unfolding new_checked
returns-in_err-check_count c =
    let a = c.args in
    passed_on _ _ c.from_residual.ensures.1
    ∙ first_fails (count_within a.count ∷ algorithm_checked (numbered a.algorithm) ∷ seed_checked a.seed.now ∷ []) 0 _ tt
    (sym c.check_count.ensures ∙ c.in_err-check_count.was)

pub returns-in_err-check_algorithm : goal.returns-in_err-check_algorithm
unfolding new_checked
returns-in_err-check_algorithm c =
    let a = c.args in
    passed_on _ _ c.from_residual-in_err-check_algorithm.ensures.1
    ∙ first_fails (count_within a.count ∷ algorithm_checked (numbered a.algorithm) ∷ seed_checked a.seed.now ∷ []) 1 _
    (sym c.check_count.ensures ∙ c.in_ok-check_count.was, tt) (sym c.check_algorithm.ensures ∙ c.in_err-check_algorithm.was)

pub returns : goal.returns
unfolding new_checked
returns c =
    let a = c.args in
    c.check_seed.ensures
    ∙ last_check (count_within a.count) (algorithm_checked (numbered a.algorithm)) (seed_checked a.seed.now)
    (sym c.check_count.ensures ∙ c.in_ok-check_count.was) (sym c.check_algorithm.ensures ∙ c.in_ok-check_algorithm.was)
