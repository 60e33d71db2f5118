-- `run` meets its promise: what the chain counts is the run.
use Rattle.std.proofs.Common.{take, length, ◌-◌, ◌∙◌, ap, drop, rules}
use borrow.Author.Tests.{tests}
use Rattle.std.proofs.lemmas.Iterator.{YieldsList-from_slice}
use Rattle.std.proofs.lemmas.Iterator.Search.{YieldsList-from_take_while}
use Rattle.std.proofs.lemmas.Iterator.Consumers.{count_from_yields_List}
use Rattle.text.specs.Kinds.{of_kind}
use Rattle.text.specs.Scan.{run_of}
use Rattle.text.specs.ScanLaws.{run_taken, rest_least}
use Rattle.text.proofs.scan.run.Goals as goal

pub returns : goal.returns
returns c =
    count_from_yields_List _ _ c.count.ensures.ran
    (YieldsList-from_take_while _ (of_kind c.args.kind) (YieldsList-from_slice (take (length c.args.s.now - c.min.result) (drop c.min.result c.args.s.now)) cc)
    c.take_while.ensures.closure c.take_while.ensures.done (λ x b q k. search (rules, tests)))
    ∙ run_taken (of_kind c.args.kind) (take (length c.args.s.now - c.min.result) (drop c.min.result c.args.s.now))
    ∙ ap (run_of (of_kind c.args.kind)) (rest_least c.args.s.now c.args.at c.min.result c.min.ensures)
