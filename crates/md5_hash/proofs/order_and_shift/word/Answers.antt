-- `word` meets its promise: each case is the formula of its round.
use Rattle.md5_hash.specs.declared.round.Round.{Round}
use Rattle.md5_hash.specs.Formulas.{word_in}
use Rattle.md5_hash.proofs.order_and_shift.word.Goals as goal

pub returns-in-First : goal.returns-in-First
returns-in-First c = word_in c.args.round Round.First c.args.step c.requires c.in-First.is

pub returns-in-Second : goal.returns-in-Second
returns-in-Second c = word_in c.args.round Round.Second c.args.step c.requires c.in-Second.is

pub returns-in-Third : goal.returns-in-Third
returns-in-Third c = word_in c.args.round Round.Third c.args.step c.requires c.in-Third.is

pub returns-in-Fourth : goal.returns-in-Fourth
returns-in-Fourth c = word_in c.args.round Round.Fourth c.args.step c.requires c.in-Fourth.is
