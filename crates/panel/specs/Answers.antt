-- An answer laid out for C: its number and values, by name.
use Rattle.std.specs.Prelude.{ℕ, ◌≡◌, List, Result}
use Rattle.text.specs.Put.{leaves}
use Rattle.refusal.specs.Answers.{Reading, Written}
use Rattle.refusal.specs.Numbers.{reading_numbers, written_numbers}
use Rattle.challenge.specs.declared.reading.Challenge.{Challenge}
use Rattle.challenge.specs.Challenges.{challenge_numbers}
use Rattle.extended.specs.declared.reply_texts.ReplyText.{ReplyText}
use Rattle.extended.specs.ReplyTexts.{reply_numbers}
use Rattle.panel.specs.declared.structs.LiftChallenge.{LiftChallenge}
use Rattle.panel.specs.declared.structs.LiftReading.{LiftReading}
use Rattle.panel.specs.declared.structs.LiftReply.{LiftReply}
use Rattle.panel.specs.declared.structs.LiftWritten.{LiftWritten}
use Rattle.refusal.specs.declared.Refusal.{Refusal}

abbrev pub reading_row : Reading → LiftReading
reading_row r =
    record { password = (reading_numbers r).1; refusal = (reading_numbers r).0.0; marks = (reading_numbers r).0.1 }

abbrev pub reply_row : Result ReplyText Refusal → LiftReply
reply_row r = record {
  password = (reply_numbers r).7;
  new_password = (reply_numbers r).6;
  seed_at = (reply_numbers r).4;
  seed_len = (reply_numbers r).5;
  init = (reply_numbers r).1;
  algorithm = (reply_numbers r).2;
  count = (reply_numbers r).3;
  refusal = (reply_numbers r).0.0;
  marks = (reply_numbers r).0.1;
}

abbrev pub challenge_row : Result Challenge Refusal → LiftChallenge
challenge_row c = record {
  seed_at = (challenge_numbers c).3;
  seed_len = (challenge_numbers c).4;
  used = (challenge_numbers c).5;
  count = (challenge_numbers c).2;
  algorithm = (challenge_numbers c).1;
  ext = (challenge_numbers c).6;
  refusal = (challenge_numbers c).0.0;
}

abbrev pub written_row : Written → LiftWritten
written_row w = record { written = (written_numbers w).1; refusal = (written_numbers w).0.0 }

-- The promise of a writer for C: where the definition's answer is a, on a text t and a buffer b, it
-- answers r, which is a laid out, and leaves b'.
abbrev pub Reported : Written → List ℕ → List ℕ → List ℕ → LiftWritten → Type 0
Reported a t b b' r = (r ≡ written_row a) × (b' ≡ leaves a t b)
