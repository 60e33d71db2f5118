-- R-7, "Callers use the two": what a caller does with a text that a port has. It reads the text, which looks at no table, and offers what it says; where
-- the reading refuses, that is the answer, and nothing is offered.
use Rattle.std.specs.Prelude.{ℕ, List, Ok, Err, Result}
use Rattle.refusal.specs.Answers.{Reading}
use Rattle.reply.specs.Reply.{reading_of}
use Rattle.extended.specs.declared.reply_texts.ReplyText.{ReplyText}
use Rattle.extended.specs.ReplyTexts.{reply_text_of, seed_part}
use Rattle.table.specs.Answers.{Replied}
use Rattle.table.specs.Table.{State}
use Rattle.table.specs.Steps.{After, reply_refused, offer, offer_renewal}
use Rattle.refusal.specs.declared.Refusal.{Refusal}

-- A reply: the password that its text says is offered, or the renewal, with the seed as the bytes where it stands.
abbrev pub offered_as : ℕ → List ℕ → Result ReplyText Refusal → State → After Replied
offered_as port text (Ok (ReplyText.Login password)) s = offer port password s
offered_as port text (Ok (ReplyText.Renewal number count start len new password)) s = offer_renewal port number count (seed_part text start len) new password s
offered_as port text (Err why) s = reply_refused s why

unfoldable pub read_and_offered : ℕ → List ℕ → State → After Replied
read_and_offered port text s = offered_as port text (reply_text_of text) s

-- A renewal whose new values and new password the caller has already: the text with the present password is plain.
abbrev pub renewed_as : ℕ → ℕ → ℕ → List ℕ → ℕ → Reading → State → After Replied
renewed_as port number count seed new (Ok password) s = offer_renewal port number count seed new password s
renewed_as port number count seed new (Err why) s = reply_refused s why

unfoldable pub read_and_renewed : ℕ → ℕ → ℕ → List ℕ → ℕ → List ℕ → State → After Replied
read_and_renewed port number count seed new text s = renewed_as port number count seed new (reading_of text) s
