-- The digits so far, and those that are left, decide.
use Rattle.std.proofs.Common.{◌≤◌, ◌≡◌, drop}
use Rattle.replay.specs.ReplayWords.{number_in}
use Rattle.replay.proofs.WordsScanned.{number_from}
use Rattle.replay.proofs.word_values.number_in.Given as goal

abbrev pub invariant-loop-b : goal.invariant-loop-b
invariant-loop-b l = (l.n ≤ l.most) × (number_in l.base l.most l.word ≡ number_from l.base l.most l.n (drop l.b-index l.word))
