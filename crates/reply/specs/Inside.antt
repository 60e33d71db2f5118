-- What the inner functions answer: nothing that a reader of the documents needs.
use Rattle.std.specs.Prelude.{ℕ, ◌+◌, cond, List, map, ltb, length, take, drop, Option, Some, None}
use Rattle.refusal.specs.declared.Refusal.{Refusal}
use Rattle.text.specs.Kinds.{is_white, is_solid}
use Rattle.text.specs.Scan.{run_of}
use Rattle.dictionary.specs.Dictionary.{packed}
use Rattle.reply.specs.Reply.{is_word, six_words, upper_text}

-- the first token of a text; nothing where there is none
unfoldable pub first_token : List ℕ → List ℕ
first_token s =
    let t = drop (run_of is_white s) s in
    take (run_of is_solid t) t

-- how many bytes lie before its end
unfoldable pub past_token : List ℕ → ℕ
past_token s = run_of is_white s + length (first_token s)

-- the packed word that a token is in upper case
abbrev pub packed_token : List ℕ → ℕ
packed_token t = packed (upper_text t)

-- a token packed, if it could be a word
abbrev pub word_of : List ℕ → Option ℕ
word_of t = cond (is_word t) (Some (packed_token t)) None

-- the tokens packed, if they are six words
abbrev pub six_of : List (List ℕ) → Option (List ℕ)
six_of ts = cond (six_words ts) (Some (map packed_token ts)) None

-- what is wrong with words that have no number, by their marks
abbrev pub why_not : ℕ → Refusal
why_not marks = cond (ltb 0 marks) (Refusal.WordUnknown marks) Refusal.PairSumWrong
