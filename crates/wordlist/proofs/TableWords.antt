-- The table holds the dictionary's words.
use Rattle.std.specs.Prelude.{◌≡◌, refl}
use mathlib.Core.List.{flatten}
use Rattle.text.specs.Quoted.{codes}
use Rattle.dictionary.specs.Words.{words_in, lines, words}
use Rattle.dictionary.specs.Dictionary.{packed, number_from, dictionary}
use Rattle.wordlist.specs.declared.word_table.TheConstants.{WORDS}

pub table_words : WORDS ≡ dictionary
unfolding dictionary words flatten codes words_in lines packed number_from
table_words = refl
