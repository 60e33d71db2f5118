-- `word_of` meets its promise. The loop's invariant: what is left decides whether all are letters, and makes the number with those passed.
use Rattle.std.proofs.Common.{◌≡◌, ◌<◌, ◌^◌, drop}
use Rattle.text.specs.Kinds.{is_letter}
use Rattle.text.specs.Tests.{every}
use Rattle.dictionary.specs.Dictionary.{number_from}
use Rattle.reply.specs.Reply.{upper_text}
use Rattle.reply.proofs.typed_words.word_of.Given as goal

abbrev pub invariant-loop-b : goal.invariant-loop-b
invariant-loop-b l =
    (l.letters < 256 ^ l.b-index)
    × (every is_letter l.t ≡ every is_letter (drop l.b-index l.t))
    × (number_from 0 (upper_text l.t) ≡ number_from l.letters (upper_text (drop l.b-index l.t)))
