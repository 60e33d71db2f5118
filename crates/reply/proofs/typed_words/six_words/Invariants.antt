-- `six_words` meets its promise. The loop's invariant: the tokens so far, up to `at`, are words, and stand packed in the array.
use Rattle.reply.proofs.typed_words.TokensRead.{Scanned}
use Rattle.reply.proofs.typed_words.six_words.Given as goal

abbrev pub invariant-loop-word : goal.invariant-loop-word
invariant-loop-word l = Scanned l.s l.word-index l.at l.word-items
