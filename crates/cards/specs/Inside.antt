-- Nothing outside this crate rests on these: what its private functions promise.
use Rattle.std.specs.Prelude.{ℕ, ◌+◌, ◌-◌, ◌<◌, ◌≡◌, List, [], ◌∷◌, ◌++◌, length, get_or, Result, Ok, Err}
use Rattle.refusal.specs.Answers.{Written}
use Rattle.refusal.specs.Checks.{unless}
use Rattle.text.specs.Put.{Put, Writes}
use Rattle.password.specs.declared.algorithm.Algorithm.{Algorithm}
use Rattle.password.specs.Password.{password}
use Rattle.challenge.specs.Challenges.{challenge_of, algorithm_of}
use Rattle.cards.specs.CardChecks.{count_of, lines_checked, card_checked}
use Rattle.refusal.specs.declared.Refusal.{Refusal}
use Rattle.cards.specs.CardLines.{card_text, at}
use Rattle.cards.specs.declared.lines.Lines.{Lines}

-- the algorithm and the count of the card's first line, if nothing is wrong
abbrev pub lines_counted : ℕ → Algorithm → ℕ → Result (Algorithm × ℕ) Refusal
lines_counted k algorithm n = unless Err (lines_checked k n) (Ok (algorithm, n))

unfoldable pub asked_of : List ℕ → List ℕ → ℕ → Result (Algorithm × ℕ) Refusal
asked_of phrase challenge k =
    unless Err (card_checked phrase challenge k) (Ok (algorithm_of (challenge_of challenge), count_of (challenge_of challenge)))

-- ps starts with k passwords in falling count, the last of them p
abbrev pub Falling : Algorithm → ℕ → ℕ → List ℕ → Type 0
Falling algorithm p k ps =
    (phrase seed : List ℕ) (low : ℕ) → p ≡ password algorithm phrase seed low
    → (i : ℕ) → i < k → get_or ps i 0 ≡ password algorithm phrase seed (low + (k - 1 - i))

-- k lines were written, the first for the count n and the last with the password p
abbrev pub Walked : Algorithm → ℕ → ℕ → ℕ → List ℕ → List ℕ → Written → Type 0
Walked algorithm p n k b b' r =
    (phrase seed : List ℕ) → p ≡ password algorithm phrase seed (n - (k - 1))
    → Writes (card_text (password algorithm phrase seed) n k) b b' r

-- a writer was to write some text with room for one byte more, and left b₁
abbrev pub RoomAfter : Written → List ℕ → Type 0
RoomAfter answer b₁ = (t : List ℕ) × (b : List ℕ) × (length t < length b) × Writes t b b₁ answer

-- whatever that text was, the byte stands after it
abbrev pub PutAfter : Written → ℕ → List ℕ → List ℕ → ℕ → Type 0
PutAfter answer last b₁ b' n = (t b : List ℕ) → length t < length b → Writes t b b₁ answer → Put (t ++ last ∷ []) b b' n

-- the text of lines: one for each password
abbrev pub text_of : Lines → List ℕ
text_of lines = card_text (at lines.passwords.now lines.top) lines.top (length lines.passwords.now)
