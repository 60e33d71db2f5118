-- 01, Six words and hex, and 02, R-2: what a plain reply says.
use Rattle.std.specs.Prelude.{ℕ, ◌+◌, ◌*◌, Bool, cond, ◌&&◌, List, [], ◌∷◌, map, leb, ltb, eqb, length, Option, Some, None, Ok, Err}
use Rattle.refusal.specs.declared.Refusal.{Refusal}
use Rattle.refusal.specs.Answers.{Reading}
use Rattle.dictionary.specs.Dictionary.{place_of}
use Rattle.sixwords.specs.Places.{number_of as places_number}
use Rattle.text.specs.Kinds.{is_letter, upper_of}
use Rattle.text.specs.Tests.{every}
use Rattle.text.specs.Scan.{tokens, unspaced}
use Rattle.hex_text.specs.Hex.{hex_reading}

-- "one to four ASCII letters"
unfoldable pub is_word : List ℕ → Bool
is_word t = leb 1 (length t) && leb (length t) 4 && every is_letter t

-- "exactly six tokens, each of one to four ASCII letters"
unfoldable pub six_words : List (List ℕ) → Bool
six_words ts = eqb (length ts) 6 && every is_word ts

-- "in either case": a word as the dictionary prints it
abbrev pub upper_text : List ℕ → List ℕ
upper_text t = map upper_of t

-- 32: "words known, pair sum wrong"
abbrev pub summed : Option ℕ → Reading
summed (Some p) = Ok p
summed None = Err Refusal.PairSumWrong

-- 02, R-2: "a mark for each of the six, set exactly where that word isn't in the dictionary"
abbrev pub mark_of : Option ℕ → ℕ
mark_of (Some place) = 0
mark_of None = 1

-- The marks as one number: the first word's is worth 1, and each one's twice what the one before it is.
unfoldable pub marks_of : List (Option ℕ) → ℕ
marks_of [] = 0
marks_of (found ∷ rest) = mark_of found + 2 * marks_of rest

-- the place of a word that was found; else 2,048, which no word has
abbrev pub place_in : Option ℕ → ℕ
place_in (Some place) = place
place_in None = 2048

-- "31 is still before 32, and is given exactly if at least one mark is set": what marks say, and then the number.
abbrev pub marked_or : ℕ → Option ℕ → Reading
marked_or marks number = cond (ltb 0 marks) (Err (Refusal.WordUnknown marks)) (summed number)

unfoldable pub found_reading : List (Option ℕ) → Reading
found_reading found = marked_or (marks_of found) (places_number (map place_in found))

-- "it is read as words"
abbrev pub words_reading : List (List ℕ) → Reading
words_reading ws = found_reading (map place_of ws)

-- R-6, `word` types: "33 also where the text isn't of its type"
unfoldable pub six_reading : List ℕ → Reading
six_reading text = cond (six_words (tokens text)) (words_reading (map upper_text (tokens text))) (Err Refusal.ReplyUnread)

-- 30: "reply over 128 bytes"; then words, and otherwise hex
unfoldable pub reading_of : List ℕ → Reading
reading_of text =
    cond (ltb 128 (length text)) (Err Refusal.ReplyLong)
    (cond (six_words (tokens text)) (words_reading (map upper_text (tokens text))) (hex_reading (unspaced text)))
