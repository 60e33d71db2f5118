-- `read` meets its promise.
use Rattle.std.proofs.Common.{sym, ◌∙◌}
use Rattle.reply.proofs.Answered.{too_long, as_words, as_hex}
use Rattle.reply.proofs.read.Goals as goal

pub returns-then-text-gt128 : goal.returns-then-text-gt128
returns-then-text-gt128 c = too_long c.args.text.now c.if-text-gt128.true

pub returns-in-Some : goal.returns-in-Some
returns-in-Some c =
    as_words c.args.text.now c.if-text-gt128.false c.in-Some.words (sym c.in-Some.is ∙ c.six_words.ensures) c.read_words.result c.read_words.ensures

pub returns-in-None : goal.returns-in-None
returns-in-None c = as_hex c.args.text.now c.if-text-gt128.false (sym c.in-None.is ∙ c.six_words.ensures) c.read_hex.result c.read_hex.ensures
