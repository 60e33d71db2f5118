-- What the reading of a text refuses it with, and only that, is what a caller that reads and then offers is answered with from 30 to 35.
use Rattle.std.specs.Prelude.{ℕ, ◌≡◌, ◌↔◌, Bool, true, false, ◌||◌, List, [], ◌∷◌, eqb, Ok, Err, Result}
use Rattle.std.proofs.Math.Path.{refl, ap}
use Rattle.std.proofs.Common.{sym, ap₂, ◌∙◌, eqb-true}
use Rattle.std.proofs.lemmas.Bool.{false≢true}
use Rattle.refusal.specs.declared.Refusal.{Refusal}
use Rattle.refusal.specs.Answers.{Checked, Reading}
use Rattle.refusal.specs.Numbers.{listing_of}
use Rattle.refusal.specs.Checks.{unless}
use Rattle.text.specs.Tests.{cases}
use Rattle.reply.specs.Reply.{reading_of}
use Rattle.extended.specs.declared.reply_texts.ReplyText.{ReplyText}
use Rattle.extended.specs.ReplyTexts.{reply_text_of, seed_part}
use Rattle.table.specs.Table.{State, own_account}
use Rattle.table.specs.Steps.{After, reply_refused, compared}
use Rattle.table.specs.Answers.{Replied}
use Rattle.reached.specs.Calls.{Call, Answer, replied_answer, answer}
use Rattle.reached.specs.Offered.{Offered, Offers, offer_checked, present_in, next_of, offers}
use Rattle.reached.specs.OfferedLaws.{call_offers, offer-offers, renewal_offers}
use Rattle.reached.specs.ReadAndOffered.{offered_as, read_and_offered, renewed_as, read_and_renewed}
use Rattle.grounds.specs.Listed.{is_in}
use Rattle.grounds.specs.Given.{thirties}
use Rattle.grounds.specs.Never.{Never, table_never}
use Rattle.grounds.specs.Unchanged.{compared_other}

-- None of these numbers is 61 or 62.
not_wrong : (n : ℕ) → is_in n thirties ≡ true → is_in n (61 ∷ 62 ∷ []) ≡ false
not_wrong n h =
    cases (eqb n 61) (λ e. absurd (false≢true (sym (ap (λ (k : ℕ). is_in k thirties) (eqb-true n 61 e)) ∙ h)))
    (λ e. cases (eqb n 62) (λ f. absurd (false≢true (sym (ap (λ (k : ℕ). is_in k thirties) (eqb-true n 62 f)) ∙ h)))
    (λ f. ap₂ (λ (a b : Bool). a || (b || false)) e f))

module _ (why : Refusal) (own : is_in (listing_of why).0 thirties ≡ true) where
  other : is_in (listing_of why).0 (61 ∷ 62 ∷ []) ≡ false
  other = not_wrong (listing_of why).0 own

  -- Offer never answers so.
  offers_never : (port : ℕ) (what : Offered) (s : State) → replied_answer (offers port what s).answer ≡ Answer.Refused why → ⊥
  unfolding offers
  offers_never port what s = by (offer_checked port what s) (table_never thirties why own port what s refl (λ number count seed. refl))
    where
      by : (k : Checked) → Never thirties why own k
          → replied_answer (unless (reply_refused s) k (compared port (present_in what) (next_of what (own_account port s)) s)).answer ≡ Answer.Refused why → ⊥
      by (Ok _) n e = compared_other why other port (present_in what) (next_of what (own_account port s)) s e
      by (Err v) n e = let same : v ≡ why = cc in n (ap Err same)

  pub call_never : (port : ℕ) (what : Offered) (c : Call) (s : State) → Offers port what c → answer c s ≡ Answer.Refused why → ⊥
  call_never port what c s p e = offers_never port what s (sym (call_offers port what c s p).0 ∙ e)

  -- The answer of something that is offered: it isn't this one, and so whatever follows from it.
  not_offered : {A : Type 0} (port : ℕ) (what : Offered) (s : State) (a : After Replied) → a ≡ offers port what s
      → replied_answer a.answer ≡ Answer.Refused why → A
  not_offered port what s a same e = absurd (offers_never port what s (ap (λ (x : After Replied). replied_answer x.answer) (sym same) ∙ e))

  as_refused : (v : Refusal) → Answer.Refused v ≡ Answer.Refused why → v ≡ why
  as_refused v e = cc

  -- A reply: it is the answer exactly if the reading refuses so.
  pub reply_handed_on : (port : ℕ) (text : List ℕ) (s : State)
      → (replied_answer (read_and_offered port text s).answer ≡ Answer.Refused why) ↔ (reply_text_of text ≡ Err why)
  unfolding read_and_offered
  reply_handed_on port text s = (to (reply_text_of text), λ e. ap (λ (r : Result ReplyText Refusal). replied_answer (offered_as port text r s).answer) e)
    where
      to : (r : Result ReplyText Refusal) → replied_answer (offered_as port text r s).answer ≡ Answer.Refused why → r ≡ Err why
      to (Ok (ReplyText.Login password)) e = not_offered port (Offered.Login password) s _ (offer-offers port password s) e
      to (Ok (ReplyText.Renewal number count start len new present)) e =
          not_offered port (Offered.Renewal number count (seed_part text start len) new present) s _
          (renewal_offers port number count (seed_part text start len) new present s) e
      to (Err v) e = ap Err (as_refused v e)

  -- A renewal with a plain text.
  pub renewal_handed_on : (port number count : ℕ) (seed : List ℕ) (new : ℕ) (text : List ℕ) (s : State)
      → (replied_answer (read_and_renewed port number count seed new text s).answer ≡ Answer.Refused why) ↔ (reading_of text ≡ Err why)
  unfolding read_and_renewed
  renewal_handed_on port number count seed new text s =
      (to (reading_of text), λ e. ap (λ (r : Reading). replied_answer (renewed_as port number count seed new r s).answer) e)
    where
      to : (r : Reading) → replied_answer (renewed_as port number count seed new r s).answer ≡ Answer.Refused why → r ≡ Err why
      to (Ok password) e =
          not_offered port (Offered.Renewal number count seed new password) s _ (renewal_offers port number count seed new password s) e
      to (Err v) e = ap Err (as_refused v e)
