-- `words_length` meets its promise.
use mathlib.Core.Path.{◌∙◌, ap}
use native.Mathlib.Omega.{arith}
use lib.ListN.{length}
use Rattle.sixwords.specs.SpellingLaws.{words_text, words_length}
use Rattle.sixwords.proofs.spelling.words_length.Goals as goal

pub returns : goal.returns
returns c =
    let p = c.args.password in
    let count = c.length_of.ensures ∙ ap length (words_text p c.words_of.result c.words_of.ensures) in
    (count, omega (arith, words_length p))
