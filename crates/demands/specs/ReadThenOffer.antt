-- R-7, read first, offer afterwards. Reading (`reply_text_of`, for a plain text `reading_of`) looks at no table; Offer (`offer`, and `offer_renewal` for a
-- renewal) takes passwords, and no text. `read_and_offered` and `read_and_renewed` are what a caller does that has a text; `old.reply` and `old.renew` are
-- Reply
-- and Renew as R-6 left them. What each of the two refuses: Demand1; what Offer does to the account: OneStep; to the line: Isolation.
use Rattle.std.specs.Prelude.{ℕ, ◌^◌, ◌<◌, ◌≡◌, List, Ok, Err}
use Rattle.std.proofs.Common.{sym, ap, ◌∙◌}
use Rattle.refusal.specs.declared.Refusal.{Refusal}
use Rattle.refusal.specs.Answers.{Checked}
use Rattle.refusal.specs.Checks.{unless, read_checked}
use Rattle.password.specs.Password.{bytes_of, number_of}
use Rattle.password.specs.EightBytesLaws.{number_bytes}
use Rattle.reply.specs.Reply.{reading_of}
use Rattle.extended.specs.ReplyTexts.{said_in, reply_text_of, text_checked, a_login}
use Rattle.table.specs.Table.{State}
use Rattle.table.specs.Steps.{reply_refused, renew_checked, offer}
use Rattle.reached.specs.ReadAndOffered.{read_and_offered, read_and_renewed}
use Rattle.reached.specs.OldCalls as old
use Rattle.grounds.specs.TextsOffered as TextsOffered

-- "Reading followed by offering gives what the old call gave, except that a reading refusal now comes before the table's": for every text, on any table,
-- answer and table are those of R-6's Reply where the text is read, and where it isn't, the reading's refusal and the table as it was.
pub read_then_offer_is_reply : (port : ℕ) (text : List ℕ) (s : State)
    → read_and_offered port text s ≡ unless (reply_refused s) (text_checked (reply_text_of text)) (old.reply port text s)
read_then_offer_is_reply port text s = TextsOffered.reply_as_before port text s

-- "Renew is split likewise." R-6's Renew had the new password as eight bytes.
pub read_then_offer_is_renew : (port number count : ℕ) (seed new text : List ℕ) (s : State)
    → read_and_renewed port number count seed (number_of new) text s
    ≡ unless (reply_refused s) (read_checked (reading_of text)) (old.renew port number count seed new text s)
read_then_offer_is_renew port number count seed new text s = TextsOffered.renew_as_before port text s number count seed new

-- So where the reading refuses, that refusal is the answer and the table is as it was, whatever Offer would have refused;
pub reading_refusal_first : (port : ℕ) (text : List ℕ) (s : State) (why : Refusal) → reply_text_of text ≡ Err why
    → read_and_offered port text s ≡ reply_refused s why
reading_refusal_first port text s why e = TextsOffered.read_offered port text s (Err why) e

pub reading_refusal_first_in_renewal : (port number count : ℕ) (seed : List ℕ) (new : ℕ) (text : List ℕ) (s : State) (why : Refusal)
    → reading_of text ≡ Err why → read_and_renewed port number count seed new text s ≡ reply_refused s why
reading_refusal_first_in_renewal port number count seed new text s why e = TextsOffered.plain_renewed port number count seed new text s (Err why) e

-- and where it doesn't, answer and table are R-6's.
pub read_is_reply : (port : ℕ) (text : List ℕ) (s : State) → text_checked (reply_text_of text) ≡ Ok tt
    → read_and_offered port text s ≡ old.reply port text s
read_is_reply port text s e =
    TextsOffered.reply_as_before port text s ∙ ap (λ (k : Checked). unless (reply_refused s) k (old.reply port text s)) e

pub read_is_renew : (port number count : ℕ) (seed new text : List ℕ) (s : State) → read_checked (reading_of text) ≡ Ok tt
    → read_and_renewed port number count seed (number_of new) text s ≡ old.renew port number count seed new text s
read_is_renew port number count seed new text s e =
    TextsOffered.renew_as_before port text s number count seed new
    ∙ ap (λ (k : Checked). unless (reply_refused s) k (old.renew port number count seed new text s)) e

-- What the reading refuses now, the old call refused so too, unless the table refused before it: by 55, 59, 60, 58, or of a renewal that is laid out as one by
-- 51, 21, 23, 24, 63 (`checked_before`). So the order is all that changed.
pub old_reply_refused_so_too : (port : ℕ) (text : List ℕ) (s : State) (why : Refusal) → reply_text_of text ≡ Err why
    → old.reply port text s ≡ unless (reply_refused s) (old.checked_before port text (said_in text) s) (reply_refused s why)
old_reply_refused_so_too port text s why e = TextsOffered.reply_refused_before port text s why e

pub old_renew_refused_so_too : (port number count : ℕ) (seed new text : List ℕ) (s : State) (why : Refusal) → reading_of text ≡ Err why
    → old.renew port number count seed new text s ≡ unless (reply_refused s) (renew_checked port number count seed s) (reply_refused s why)
old_renew_refused_so_too port number count seed new text s why e = TextsOffered.renew_refused_before port text s number count seed new why e

-- Where the table refuses nothing of these, answer and table are R-6's for every text, read or not.
pub same_where_the_table_refuses_nothing : (port : ℕ) (text : List ℕ) (s : State) → old.checked_before port text (said_in text) s ≡ Ok tt
    → read_and_offered port text s ≡ old.reply port text s
same_where_the_table_refuses_nothing port text s good = TextsOffered.reply_unchanged port text s good

-- What a text is read to is what is offered: a password to log in (a renewal: ExtendedReplies, `init_is_a_renewal`).
pub login_is_offered : (port password : ℕ) (text : List ℕ) (s : State) → reply_text_of text ≡ a_login password
    → read_and_offered port text s ≡ offer port password s
login_is_offered port password text s e = TextsOffered.read_offered port text s (a_login password) e

-- "The radio module delivers eight raw bytes and no text": the bytes of a password, offered as the number that they are, do what every text does that is
-- read to that password.
pub raw_bytes_do_as_texts : (port password : ℕ) (text : List ℕ) (s : State) → password < 2 ^ 64 → reply_text_of text ≡ a_login password
    → offer port (number_of (bytes_of password)) s ≡ read_and_offered port text s
raw_bytes_do_as_texts port password text s small e =
    ap (λ (n : ℕ). offer port n s) (number_bytes password small) ∙ sym (login_is_offered port password text s e)
