-- 01, The card: what the program `card` prints for its input.
use Rattle.std.specs.Prelude.{ℕ, ◌+◌, cond, ◌&&◌, List, [], ◌∷◌, ◌++◌, leb, ltb, length, take, drop, Ok, Err}
use Rattle.text.specs.Scan.{index_of}
use Rattle.refusal.specs.declared.Refusal.{Refusal}
use Rattle.refusal.specs.Answers.{Checked}
use Rattle.refusal.specs.Numbers.{listing_of}
use Rattle.text.specs.Digits.{number_of}
use Rattle.text.specs.Quoted.{codes}
use Rattle.text.specs.Counts.{is_count, decimal_of}
use Rattle.cards.specs.CardChecks.{card_checked}
use Rattle.cards.specs.Cards.{card_of}

-- "Each newline is kept for the challenge and dropped for the others; a missing line is empty": the first line of a
-- text without its newline, the same with it, and what follows
abbrev pub first_line : List ℕ → List ℕ
first_line s = take (index_of 10 s) s

abbrev pub kept_line : List ℕ → List ℕ
kept_line s = take (index_of 10 s + 1) s

abbrev pub past_line : List ℕ → List ℕ
past_line s = drop (index_of 10 s + 1) s

-- "k as one or two digits without a leading zero (else 70)": a line that is something else asks for 0 lines, which is 70
unfoldable pub lines_asked : List ℕ → ℕ
lines_asked t = cond (leb (length t) 2 && is_count t) (number_of 10 t) 0

-- "On refusal it prints `refused`, a space, the number, a newline."
unfoldable pub refused_text : Refusal → List ℕ
refused_text why = codes "refused " ++ decimal_of (listing_of why).0 ++ 10 ∷ []

abbrev pub printed : Checked → List ℕ → List ℕ
printed (Ok _) card = card
printed (Err why) card = refused_text why

-- what is printed for a pass-phrase, a challenge and k
unfoldable pub printed_card : List ℕ → List ℕ → ℕ → List ℕ
printed_card phrase challenge k = printed (card_checked phrase challenge k) (card_of phrase challenge k)

-- "reads three lines: pass-phrase, challenge, k"; "Input over 256 bytes gives 12 before anything else"
unfoldable pub answer_of : List ℕ → List ℕ
answer_of input =
    cond (ltb 256 (length input)) (refused_text Refusal.InputLong)
    (printed_card (first_line input) (kept_line (past_line input)) (lines_asked (first_line (past_line (past_line input)))))
