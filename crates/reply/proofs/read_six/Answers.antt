-- `read_six` meets its promise.
use Rattle.std.proofs.Common.{sym, ◌∙◌}
use Rattle.reply.proofs.Answered.{as_six, not_six}
use Rattle.reply.proofs.read_six.Goals as goal

pub returns-in-Some : goal.returns-in-Some
returns-in-Some c = as_six c.args.text.now c.in-Some.words (sym c.in-Some.is ∙ c.six_words.ensures) c.read_words.result c.read_words.ensures

pub returns-in-None : goal.returns-in-None
returns-in-None c = not_six c.args.text.now (sym c.in-None.is ∙ c.six_words.ensures)
