-- `length_of` meets its promise. The loop's invariant: `n` is the length of the words so far with a space after each.
use Rattle.std.proofs.Common.{◌≡◌, map, ◌≤◌, ◌*◌, length, take}
use Rattle.dictionary.specs.Dictionary.{letters_of}
use Rattle.sixwords.specs.Inside.{ended}
use Rattle.sixwords.proofs.spelling.packed.length_of.Given as goal

abbrev pub invariant-loop-word : goal.invariant-loop-word
invariant-loop-word l = (l.n ≤ 5 * l.word-index) × (l.n ≡ length (ended (take l.word-index (map letters_of l.word-items))))
