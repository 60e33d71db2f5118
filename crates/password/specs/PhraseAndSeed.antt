-- What a pass-phrase and a seed may be: document 01, 'From pass-phrase to password' and 'Refusal numbers'.
use Rattle.std.specs.Prelude.{ℕ, Bool, cond, ◌&&◌, ◌||◌, List, leb, ltb, length, Ok, Err}
use Rattle.refusal.specs.declared.Refusal.{Refusal}
use Rattle.refusal.specs.Answers.{Checked}
use Rattle.text.specs.Kinds.{is_letter, is_digit}
use Rattle.text.specs.Tests.{every}

-- "The pass-phrase is 10 to 63 bytes of any value": 10 under, 11 over.
abbrev pub phrase_checked : List ℕ → Checked
phrase_checked phrase =
    cond (ltb (length phrase) 10) (Err Refusal.PhraseShort)
    (cond (ltb 63 (length phrase)) (Err Refusal.PhraseLong) (Ok tt))

-- Letters and digits only.
unfoldable pub plain : List ℕ → Bool
plain s = every (λ b. is_letter b || is_digit b) s

-- "The seed is 1 to 16 ASCII letters and digits": 23 for the length, then 24 for the characters.
abbrev pub seed_checked : List ℕ → Checked
seed_checked seed =
    cond (leb 1 (length seed) && leb (length seed) 16)
    (cond (plain seed) (Ok tt) (Err Refusal.SeedCharacter))
    (Err Refusal.SeedLength)
