-- `read_words` meets its promise. The loop's invariant: the words from `k` on are looked up.
use mathlib.Core.Path.{◌≡◌}
use lib.ListN.{length}
use Rattle.reply.proofs.known_words.Looked.{LookedFrom}
use Rattle.reply.proofs.known_words.read_words.Given as goal

abbrev pub invariant-loop-k : goal.invariant-loop-k
invariant-loop-k l = (length l.places ≡ 6) × LookedFrom l.words l.places l.marks l.k
