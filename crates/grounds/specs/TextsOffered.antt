-- R-6 and R-7: reading and then offering does what R-6's calls did, except where the reading refuses; and what a caller is answered that does both.
use Rattle.std.specs.Prelude.{ℕ, ◌≤◌, ◌≡◌, List, Ok, Err, Result}
use Rattle.std.proofs.Math.Path.{refl, sym, ap}
use Rattle.std.proofs.Common.{◌∙◌}
use Rattle.refusal.specs.declared.Refusal.{Refusal}
use Rattle.refusal.specs.Answers.{Checked, Reading}
use Rattle.refusal.specs.Checks.{unless, read_checked}
use Rattle.password.specs.Password.{number_of}
use Rattle.reply.specs.Reply.{reading_of}
use Rattle.extended.specs.declared.reply_texts.ReplyText.{ReplyText}
use Rattle.extended.specs.ReplyTexts.{Said, colons, said_in, with_read, read_to, reply_text_of, text_checked, seed_part, a_login}
use Rattle.readback.specs.LaidOut.{colon_refused}
use Rattle.readback.specs.ReplyRefusals.{never}
use Rattle.readback.specs.ExtendedMeaning.{plain_read}
use Rattle.accounts.specs.Accounts.{renewed_room, values_checked}
use Rattle.table.specs.Answers.{Replied}
use Rattle.table.specs.Table.{State, own_account}
use Rattle.table.specs.Steps.{After, reply_refused, turn_checked, renew_checked, compared, offer, offer_renewal}
use Rattle.reached.specs.ReadAndOffered.{offered_as, read_and_offered, renewed_as, read_and_renewed}
use Rattle.reached.specs.OldCalls as old
use Rattle.grounds.specs.PlainTexts.{colon_refused_lem}

-- ---- as R-6 had it

module _ (port : ℕ) (text : List ℕ) (s : State) where
  -- A login behind the turn's checks.
  login_as_before : (p : ℕ) → offer port p s ≡ unless (reply_refused s) (turn_checked port s) (old.login_read port (Ok p) s)
  unfolding offer old.login_read
  login_as_before p = refl

  -- The turn's checks, which a renewal's begin with, are made once.
  turn_once : (number count : ℕ) (seed : List ℕ) (a : After Replied)
      → unless (reply_refused s) (renew_checked port number count seed s) a
      ≡ unless (reply_refused s) (turn_checked port s) (unless (reply_refused s) (renew_checked port number count seed s) a)
  unfolding renew_checked values_checked
  turn_once number count seed a = by (turn_checked port s)
    where
      by : (k : Checked) → unless (reply_refused s) (unless Err k (values_checked number count seed (own_account port s))) a
          ≡ unless (reply_refused s) k (unless (reply_refused s) (unless Err k (values_checked number count seed (own_account port s))) a)
      by (Ok _) = refl
      by (Err why) = refl

  renewal_as_before : (number count : ℕ) (seed : List ℕ) (new present : ℕ)
      → offer_renewal port number count seed new present s
      ≡ unless (reply_refused s) (turn_checked port s) (old.renewal port number count seed (Ok new) (Ok present) s)
  unfolding offer_renewal old.renewal
  renewal_as_before number count seed new present = turn_once number count seed _

  -- By what the text says: read to something, that is offered as R-6 had it; else it is refused.
  said_as_before : (said : Said) → offered_as port text (read_to said) s
      ≡ unless (reply_refused s) (text_checked (read_to said)) (unless (reply_refused s) (turn_checked port s) (old.reply_by port text said s))
  unfolding old.reply_by
  said_as_before (Said.Login (Ok p)) = login_as_before p
  said_as_before (Said.Login (Err why)) = refl
  said_as_before (Said.Renewal number count start len (Ok new) (Ok present)) =
      renewal_as_before number count (seed_part text start len) new present
  said_as_before (Said.Renewal number count start len (Ok new) (Err why)) = refl
  said_as_before (Said.Renewal number count start len (Err why) present) = refl
  said_as_before (Said.Refused why) = refl

  pub reply_as_before : read_and_offered port text s ≡ unless (reply_refused s) (text_checked (reply_text_of text)) (old.reply port text s)
  unfolding read_and_offered reply_text_of old.reply
  reply_as_before = said_as_before (said_in text)

  pub renew_as_before : (number count : ℕ) (seed new : List ℕ)
      → read_and_renewed port number count seed (number_of new) text s
      ≡ unless (reply_refused s) (read_checked (reading_of text)) (old.renew port number count seed new text s)
  unfolding read_and_renewed old.renew old.renewal offer_renewal
  renew_as_before number count seed new = by (reading_of text)
    where
      by : (r : Reading) → renewed_as port number count seed (number_of new) r s
          ≡ unless (reply_refused s) (read_checked r) (old.renewal port number count seed (Ok (number_of new)) r s)
      by (Ok present) = refl
      by (Err why) = refl

  -- ---- where the reading refuses: what R-6's call answered

  -- By what the text says: what the table checked before, and then the same refusal.
  said_refused : (said : Said) (why : Refusal) → read_to said ≡ Err why
      → unless (reply_refused s) (turn_checked port s) (old.reply_by port text said s)
      ≡ unless (reply_refused s) (old.checked_before port text said s) (reply_refused s why)
  unfolding old.reply_by old.login_read old.renewal
  said_refused (Said.Login (Ok p)) why e = never (cc)
  said_refused (Said.Login (Err v)) why e =
      let same : v ≡ why = cc in
      ap (λ (w : Refusal). unless (reply_refused s) (turn_checked port s) (reply_refused s w)) same
  said_refused (Said.Renewal number count start len (Ok new) (Ok present)) why e = never (cc)
  said_refused (Said.Renewal number count start len (Ok new) (Err v)) why e =
      let seed = seed_part text start len in
      let same : v ≡ why = cc in
      sym (turn_once number count seed (reply_refused s v))
      ∙ ap (λ (w : Refusal). unless (reply_refused s) (renew_checked port number count seed s) (reply_refused s w)) same
  said_refused (Said.Renewal number count start len (Err v) present) why e =
      let seed = seed_part text start len in
      let same : v ≡ why = cc in
      sym (turn_once number count seed (reply_refused s v))
      ∙ ap (λ (w : Refusal). unless (reply_refused s) (renew_checked port number count seed s) (reply_refused s w)) same
  said_refused (Said.Refused v) why e =
      let same : v ≡ why = cc in
      ap (λ (w : Refusal). unless (reply_refused s) (turn_checked port s) (reply_refused s w)) same

  pub reply_refused_before : (why : Refusal) → reply_text_of text ≡ Err why
      → old.reply port text s ≡ unless (reply_refused s) (old.checked_before port text (said_in text) s) (reply_refused s why)
  unfolding reply_text_of old.reply
  reply_refused_before why e = said_refused (said_in text) why e

  pub renew_refused_before : (number count : ℕ) (seed new : List ℕ) (why : Refusal) → reading_of text ≡ Err why
      → old.renew port number count seed new text s ≡ unless (reply_refused s) (renew_checked port number count seed s) (reply_refused s why)
  unfolding old.renew old.renewal
  renew_refused_before number count seed new why e =
      ap (λ (r : Reading). unless (reply_refused s) (renew_checked port number count seed s) (old.read s r
      (λ password. compared port password (renewed_room (own_account port s) number count seed (number_of new)) s))) e

  -- So where the table refused nothing before it, nothing changed.
  pub reply_unchanged : old.checked_before port text (said_in text) s ≡ Ok tt → read_and_offered port text s ≡ old.reply port text s
  reply_unchanged good = by (reply_text_of text) refl
    where
      by : (r : Result ReplyText Refusal) → reply_text_of text ≡ r → read_and_offered port text s ≡ old.reply port text s
      by (Ok (ReplyText.Login p)) e = reply_as_before
          ∙ ap (λ (r : Result ReplyText Refusal). unless (reply_refused s) (text_checked r) (old.reply port text s)) e
      by (Ok (ReplyText.Renewal number count start len new present)) e =
          reply_as_before ∙ ap (λ (r : Result ReplyText Refusal). unless (reply_refused s) (text_checked r) (old.reply port text s)) e
      by (Err why) e =
          reply_as_before
          ∙ ap (λ (r : Result ReplyText Refusal). unless (reply_refused s) (text_checked r) (old.reply port text s)) e
          ∙ sym (reply_refused_before why e ∙ ap (λ (k : Checked). unless (reply_refused s) k (reply_refused s why)) good)

-- ---- what a caller is answered

-- A plain text: the password that it is read to is offered.
pub plain_offered : (port : ℕ) (text : List ℕ) (s : State) → colons text ≡ 0
    → read_and_offered port text s ≡ offered_as port text (with_read (reading_of text) a_login) s
unfolding read_and_offered
plain_offered port text s e = ap (λ (r : Result ReplyText Refusal). offered_as port text r s) (plain_read text e)

-- What the text is read to.
pub read_offered : (port : ℕ) (text : List ℕ) (s : State) (r : Result ReplyText Refusal) → reply_text_of text ≡ r → read_and_offered port text s
    ≡ offered_as port text r s
unfolding read_and_offered
read_offered port text s r e = ap (λ (x : Result ReplyText Refusal). offered_as port text x s) e

-- A renewal with a plain text.
pub plain_renewed : (port number count : ℕ) (seed : List ℕ) (new : ℕ) (text : List ℕ) (s : State) (r : Reading) → reading_of text ≡ r
    → read_and_renewed port number count seed new text s ≡ renewed_as port number count seed new r s
unfolding read_and_renewed
plain_renewed port number count seed new text s r e = ap (λ (x : Reading). renewed_as port number count seed new x s) e

-- An `init` text, and a plain one that is read as its present password is.
pub init_renewed : (port : ℕ) (text : List ℕ) (s : State) (number count start len new : ℕ) (present : Reading)
    → said_in text ≡ Said.Renewal number count start len (Ok new) present → (plain : List ℕ) → reading_of plain ≡ present
    → read_and_offered port text s ≡ read_and_renewed port number count (seed_part text start len) new plain s
unfolding read_and_offered read_and_renewed reply_text_of
init_renewed port text s number count start len new present e plain f =
    ap (λ (x : Said). offered_as port text (read_to x) s) e ∙ by present ∙ ap (λ (r : Reading). renewed_as port number count seed new r s) (sym f)
  where
    seed : List ℕ
    seed = seed_part text start len

    by : (r : Reading) → offered_as port text (read_to (Said.Renewal number count start len (Ok new) r)) s
        ≡ renewed_as port number count seed new r s
    by (Ok p) = refl
    by (Err why) = refl

pub colon_renewed : (port number count : ℕ) (seed : List ℕ) (new : ℕ) (text : List ℕ) (s : State) → 1 ≤ colons text
    → read_and_renewed port number count seed new text s ≡ reply_refused s (colon_refused text)
colon_renewed port number count seed new text s h = plain_renewed port number count seed new text s _ (colon_refused_lem text h)
