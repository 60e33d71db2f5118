-- `write_words` meets its promise.
use mathlib.Core.Path.{ap}
use native.Mathlib.Omega.{arith}
use lib.ListN.{length}
use Rattle.text.specs.PutLaws.{put_writes, short_writes}
use Rattle.sixwords.specs.Spelling.{words_of}
use Rattle.sixwords.specs.SpellingLaws.{words_text}
use Rattle.sixwords.proofs.spelling.write_words.Goals as goal

pub returns-then-buf-length_of : goal.returns-then-buf-length_of
returns-then-buf-length_of c =
    let a = c.args in
    let text = words_text a.password c.words_of-six.result c.words_of-six.ensures in
    short_writes (words_of a.password) a.buf.now (omega (arith, ap length text, c.length_of.ensures, c.if-buf-length_of.true))

pub returns : goal.returns
returns c =
    let a = c.args in
    let text = words_text a.password c.words_of-six.result
    c.words_of-six.ensures in
    put_writes (words_of a.password) a.buf.now c.put_words.new.buf c.put_words.result
    (omega (arith, ap length text, c.length_of.ensures, c.if-buf-length_of.false))
    (rw (← text) c.put_words.ensures)
