-- `find` meets its promise: what the chain counts is the place.
use Rattle.std.proofs.Common.{take, length, ◌-◌, ℕ, ◌+◌, ap, ◌∙◌, drop, not, eqb, rules}
use borrow.Author.Tests.{tests}
use Rattle.std.proofs.lemmas.Iterator.{YieldsList-from_slice}
use Rattle.std.proofs.lemmas.Iterator.Search.{YieldsList-from_take_while}
use Rattle.std.proofs.lemmas.Iterator.Consumers.{count_from_yields_List}
use Rattle.text.specs.Scan.{run_of}
use Rattle.text.specs.ScanLaws.{run_taken, rest_least}
use Rattle.text.proofs.scan.find.Goals as goal

pub returns-clause-place : goal.returns-clause-place
returns-clause-place c =
    let other = λ (x : ℕ). not (eqb x c.args.b) in
    ap (λ (n : ℕ). c.args.from + n)
    (count_from_yields_List _ _ c.count.ensures.ran
    (YieldsList-from_take_while _ other (YieldsList-from_slice (take (length c.args.s.now - c.min.result) (drop c.min.result c.args.s.now)) cc)
    c.take_while.ensures.closure c.take_while.ensures.done (λ x b q k. search (rules, tests)))
    ∙ run_taken other (take (length c.args.s.now - c.min.result) (drop c.min.result c.args.s.now))
    ∙ ap (run_of other) (rest_least c.args.s.now c.args.from c.min.result c.min.ensures))
