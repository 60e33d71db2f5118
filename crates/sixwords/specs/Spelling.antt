-- 01, Six words and hex: a password as six words.
use Rattle.std.specs.Prelude.{ℕ, List, [], ◌∷◌, ◌++◌, map}
use Rattle.dictionary.specs.Dictionary.{word_at}
use Rattle.sixwords.specs.Places.{places_of}

-- the word w and those after it, "with one space between"
unfoldable pub spaced_from : List ℕ → List (List ℕ) → List ℕ
spaced_from w [] = w
spaced_from w (v ∷ vs) = w ++ 32 ∷ spaced_from v vs

abbrev pub spaced : List (List ℕ) → List ℕ
spaced [] = []
spaced (w ∷ ws) = spaced_from w ws

-- the words at the six places of p
abbrev pub six_words_of : ℕ → List (List ℕ)
six_words_of p = map word_at (places_of p)

-- "Written words are upper case with one space between": the dictionary prints them so
abbrev pub words_of : ℕ → List ℕ
words_of p = spaced (six_words_of p)
