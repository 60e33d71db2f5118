-- Reply and Renew as R-6 left them, for R-7's sentence "Reading followed by offering gives what the old call gave" (`demands` ReadThenOffer). No function
-- does them any more: the table's checks stood before those of the text, and those of new values between the text's layout and its passwords.
use Rattle.std.specs.Prelude.{ℕ, List, Ok, Err}
use Rattle.refusal.specs.Answers.{Checked, Reading}
use Rattle.refusal.specs.Checks.{unless}
use Rattle.password.specs.Password.{number_of}
use Rattle.reply.specs.Reply.{reading_of}
use Rattle.extended.specs.ReplyTexts.{Said, said_in, seed_part}
use Rattle.accounts.specs.Accounts.{lowered, renewed_room}
use Rattle.table.specs.Answers.{Replied}
use Rattle.table.specs.Table.{State, own_account}
use Rattle.table.specs.Steps.{After, reply_refused, turn_checked, renew_checked, compared}

-- "then 30 to 33": what is done with the password that a text says; a refusal to read it is the answer.
abbrev pub read : State → Reading → (ℕ → After Replied) → After Replied
read s (Ok password) next = next password
read s (Err why) next = reply_refused s why

-- A login, behind the turn's checks.
unfoldable pub login_read : ℕ → Reading → State → After Replied
login_read port present s = read s present (λ password. compared port password (lowered (own_account port s) password) s)

-- A renewal: 55, 59, 60, 58, 51, 21, 23, 24, 63, then 30 to 33 of the new password and of the present one after it.
unfoldable pub renewal : ℕ → ℕ → ℕ → List ℕ → Reading → Reading → State → After Replied
renewal port number count seed new present s =
    unless (reply_refused s) (renew_checked port number count seed s)
    (read s new (λ next. read s present (λ password. compared port password (renewed_room (own_account port s) number count seed next) s)))

-- Renew: the new password was given as eight bytes, and the text was plain.
unfoldable pub renew : ℕ → ℕ → ℕ → List ℕ → List ℕ → List ℕ → State → After Replied
renew port number count seed new text s = renewal port number count seed (Ok (number_of new)) (reading_of text) s

-- Reply: 55, 59, 60, 58, then what the text says: 30, 34, 35, and a login or a renewal.
unfoldable pub reply_by : ℕ → List ℕ → Said → State → After Replied
reply_by port text (Said.Login present) s = login_read port present s
reply_by port text (Said.Renewal number count start len new present) s = renewal port number count (seed_part text start len) new present s
reply_by port text (Said.Refused why) s = reply_refused s why

unfoldable pub reply : ℕ → List ℕ → State → After Replied
reply port text s = unless (reply_refused s) (turn_checked port s) (reply_by port text (said_in text) s)

-- What the table checked before Reply refused a text: 55, 59, 60, 58, and of a renewal that is laid out as one 51, 21, 23, 24, 63.
abbrev pub checked_before : ℕ → List ℕ → Said → State → Checked
checked_before port text (Said.Login present) s = turn_checked port s
checked_before port text (Said.Renewal number count start len new present) s = renew_checked port number count (seed_part text start len) s
checked_before port text (Said.Refused why) s = turn_checked port s
