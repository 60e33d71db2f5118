-- `same_seed` meets its promise: one length, and each two bytes agree.
use Rattle.std.proofs.Common.{◌∙◌, sym, rules}
use borrow.Author.Tests.{tests, ne_eqb}
use Rattle.std.proofs.lemmas.Iterator.{YieldsList-from_slice, YieldsList-from_zip}
use Rattle.std.proofs.lemmas.Iterator.Search.{all_from_yields_List}
use Rattle.text.specs.Kinds.{lower_of}
use Rattle.accounts.proofs.seeds.SeedKept.{agree, same_zip, same_long}
use Rattle.accounts.proofs.seeds.same_seed.Goals as goal

pub returns-then-seed-kept : goal.returns-then-seed-kept
returns-then-seed-kept c =
    let seed = c.args.seed.now in
    let kept = c.args.kept.now in
    all_from_yields_List (agree lower_of) c.all.new.self _ c.all.result c.all.ensures.ran
    (YieldsList-from_zip (YieldsList-from_slice seed (cc)) (YieldsList-from_slice kept (cc))) (λ x b q k. search (rules, tests))
    ∙ same_zip lower_of seed kept c.if-seed-kept.true

pub returns-else-seed-kept : goal.returns-else-seed-kept
returns-else-seed-kept c =
    ne_eqb _ _ c.if-seed-kept.false ∙ sym (same_long lower_of c.args.seed.now c.args.kept.now c.if-seed-kept.false)
