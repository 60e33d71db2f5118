-- 01, The card: the checks before 40, in their order.
use Rattle.std.specs.Prelude.{ℕ, ◌&&◌, List, leb, Ok, Err, Result}
use Rattle.refusal.specs.declared.Refusal.{Refusal}
use Rattle.refusal.specs.Answers.{Checked}
use Rattle.refusal.specs.Checks.{unless, must}
use Rattle.password.specs.PhraseAndSeed.{phrase_checked}
use Rattle.challenge.specs.declared.reading.Challenge.{Challenge}
use Rattle.challenge.specs.Challenges.{challenge_of}

-- what is wrong with a challenge, and the count that it says
abbrev pub challenge_checked : Result Challenge Refusal → Checked
challenge_checked (Ok c) = Ok tt
challenge_checked (Err why) = Err why

abbrev pub count_of : Result Challenge Refusal → ℕ
count_of (Ok c) = c.count
count_of (Err why) = 0

-- 70: "card lines not 1 to 99 or more than the count"
abbrev pub lines_checked : ℕ → ℕ → Checked
lines_checked k n = must (leb 1 k && leb k 99 && leb k n) Refusal.LinesOutside

-- "Order: 10, 11, 20 to 25, 70", and 40 after these
unfoldable pub card_checked : List ℕ → List ℕ → ℕ → Checked
card_checked phrase challenge k =
    unless Err (phrase_checked phrase)
    (unless Err (challenge_checked (challenge_of challenge))
    (lines_checked k (count_of (challenge_of challenge))))
