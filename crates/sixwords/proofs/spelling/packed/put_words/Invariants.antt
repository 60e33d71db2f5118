-- `put_words` meets its promise. The loop's invariant: the words so far, with a space after each, stand at the front.
use Rattle.std.proofs.Common.{map, take}
use Rattle.text.specs.Put.{Put}
use Rattle.dictionary.specs.Dictionary.{letters_of}
use Rattle.sixwords.specs.Inside.{ended}
use Rattle.sixwords.proofs.spelling.packed.put_words.Given as goal

abbrev pub invariant-loop-word : goal.invariant-loop-word
invariant-loop-word l = Put (ended (take l.word-index (map letters_of l.fn.words))) l.initial.buf l.buf l.at
