-- Words and places: those of document 01, 'Checked examples', and the ends of the two runs.
use Rattle.std.specs.Prelude.{ℕ, ◌≡◌, refl, Option, Some}
use mathlib.Core.List.{List, [], ◌∷◌, map, flatten}
use Rattle.text.specs.Quoted.{codes}
use Rattle.dictionary.specs.Words.{words_in, lines, words}
use Rattle.dictionary.specs.Dictionary.{number_from, packed, dictionary, word_at, place_from, found_of}

-- a word, and its place
unfoldable pub examples : List (List ℕ × ℕ)
examples =
    (codes "NUT", 364) ∷
    (codes "O", 365) ∷
    (codes "OAF", 366) ∷
    (codes "OAK", 367) ∷
    (codes "FOWL", 1070) ∷
    (codes "KID", 271) ∷
    (codes "MASH", 1472) ∷
    (codes "DEAD", 901) ∷
    (codes "DUAL", 955) ∷
    (codes "A", 0) ∷
    (codes "YOU", 570) ∷
    (codes "ABED", 571) ∷
    (codes "YOKE", 2047) ∷ []

-- the word stands at the place, and the look-up finds it there
pub examples_hold : ◌≡◌ {A = List (List ℕ × Option ℕ)}
    (map (λ e. (word_at e.1, found_of (packed e.0))) examples)
    (map (λ e. (e.0, Some e.1)) examples)
unfolding examples codes words_in lines words flatten number_from packed dictionary place_from found_of
examples_hold = refl
