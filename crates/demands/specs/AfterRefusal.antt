-- What is changed by the two refusals that change something, and that a refusal leaves every buffer as it was lent. (Of the bytes that the offer of
-- a renewal is lent its own promise says it.)
use Rattle.std.specs.Prelude.{ℕ, ◌≡◌, true, List, [], ◌∷◌, length, Err}
use Rattle.std.proofs.Common.{ap}
use Rattle.refusal.specs.declared.Refusal.{Refusal}
use Rattle.refusal.specs.Answers.{Written}
use Rattle.refusal.specs.Numbers.{listing_of}
use Rattle.text.specs.Put.{leaves}
use Rattle.table.specs.Table.{State}
use Rattle.table.specs.Steps.{challenge_for, challenge}
use Rattle.reached.specs.Calls.{Call, Answer, answer}
use Rattle.reached.specs.Day.{WrongReply}
use Rattle.grounds.specs.Listed.{is_in}
use Rattle.grounds.specs.WrongReplies.{wrong_reply}

-- "the port leaves and its wrong run grows by 1, answer 61; at 3 the run is cleared, shut ticks become 900, answer 62": on every table these
-- two answer a wrong password, offered to log in or with a renewal, and change the port's own record and its line. No account is changed.
pub wrong_reply_changes : (why : Refusal) → is_in (listing_of why).0 (61 ∷ 62 ∷ []) ≡ true
    → (c : Call) (s : State) → answer c s ≡ Answer.Refused why → WrongReply why c s
wrong_reply_changes why wrong c s e = wrong_reply why wrong c s e

-- "A refusal .. changes no buffer": what a writer that refuses promises to leave of the buffer is the buffer. Each writer's promise is by
-- `leaves`, whatever its text is.
pub refused_writer_leaves : (r : Written) (text buffer : List ℕ) (why : Refusal) → r ≡ Err why → leaves r text buffer ≡ buffer
refused_writer_leaves r text buffer why e = ap (λ (w : Written). leaves w text buffer) e

-- So does a refused Challenge.
pub refused_challenge_leaves : (port : ℕ) (s : State) (buffer : List ℕ) (why : Refusal) → challenge port (length buffer) s ≡ Err why
    → leaves (challenge port (length buffer) s) (challenge_for port s) buffer ≡ buffer
refused_challenge_leaves port s buffer why e = refused_writer_leaves (challenge port (length buffer) s) (challenge_for port s) buffer why e
