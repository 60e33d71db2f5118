-- A refusal changes no table, except 61 and 62.
use Rattle.std.specs.Prelude.{ℕ, ◌+◌, Bool, cond, [], ◌∷◌, eqb, Ok, Err}
use native.Mathlib.Omega.{arith}
use Rattle.std.proofs.Math.Path.{◌≡◌, refl}
use Rattle.std.proofs.Common.{sym, ap, ◌∙◌, true≢false}
use Rattle.std.proofs.Math.Bool.{true, false}
use Rattle.std.proofs.Math.Dec.{leb}
use Rattle.refusal.specs.declared.Refusal.{Refusal}
use Rattle.refusal.specs.Answers.{Checked}
use Rattle.refusal.specs.Numbers.{listing_of}
use Rattle.refusal.specs.Checks.{unless}
use Rattle.password.specs.Password.{bytes_of, hash}
use Rattle.accounts.specs.Rooms.{Room}
use Rattle.table.specs.Table.{State, port_of, own_account}
use Rattle.table.specs.TableChecks.{account_there}
use Rattle.table.specs.Steps as Steps
use Rattle.table.specs.Steps.{refused, reply_refused, done, enrol_checked, join_checked, leave_checked, compared}
use Rattle.reached.specs.Calls.{Call, Answer, checked_answer, replied_answer, answer, after}
use Rattle.reached.specs.Offered.{Offered, Offers, offer_checked, present_in, next_of, offers}
use Rattle.reached.specs.OfferedLaws.{call_offers}
use Rattle.grounds.specs.Listed.{is_in}

settled_unchanged : (s s' : State) (why : Refusal) (check : Checked)
    → checked_answer (unless (refused s) check (done s')).answer ≡ Answer.Refused why → (unless (refused s) check (done s')).state ≡ s
settled_unchanged s s' why (Ok _) e = let z : ◌≡◌ {A = ℕ} 0 1 = cc in absurd (omega arith)
settled_unchanged s s' why (Err w) e = refl

module _ (why : Refusal) (other : is_in (listing_of why).0 (61 ∷ 62 ∷ []) ≡ false) where
  wrong_is : (w : Refusal) → is_in (listing_of w).0 (61 ∷ 62 ∷ []) ≡ true → Answer.Refused w ≡ Answer.Refused why → ⊥
  wrong_is w h e =
      let same : w ≡ why = cc in
      true≢false (sym h ∙ ap (λ (x : Refusal). is_in (listing_of x).0 (61 ∷ 62 ∷ [])) same ∙ other)

  -- a password that is compared is refused with 61 and 62 alone
  pub compared_other : (port w : ℕ) (next : Room) (s : State) → replied_answer (compared port w next s).answer ≡ Answer.Refused why → ⊥
  unfolding compared
  compared_other port w next s e =
      go (eqb (hash (own_account port s).algorithm (bytes_of w)) (own_account port s).password) (leb 3 ((port_of port s).wrong + 1)) refl e
    where
      go : (t u : Bool) → leb 3 ((port_of port s).wrong + 1) ≡ u
          → replied_answer (cond t (Steps.accepted port next s) (Steps.rejected port s)).answer ≡ Answer.Refused why
          → ⊥
      go true u f e = let z : ◌≡◌ {A = ℕ} 0 1 = cc in omega arith
      go false true f e = wrong_is Refusal.ReplyWrongThird refl (rw f at e)
      go false false f e = wrong_is Refusal.ReplyWrong refl (rw f at e)

  offers_unchanged : (port : ℕ) (what : Offered) (s : State) → replied_answer (offers port what s).answer ≡ Answer.Refused why
      → (offers port what s).state ≡ s
  unfolding offers
  offers_unchanged port what s = go (offer_checked port what s)
    where
      go : (k : Checked)
          → replied_answer (unless (reply_refused s) k (compared port (present_in what) (next_of what (own_account port s)) s)).answer ≡ Answer.Refused why
          → (unless (reply_refused s) k (compared port (present_in what) (next_of what (own_account port s)) s)).state ≡ s
      go (Err w) e = refl
      go (Ok _) e = absurd (compared_other port (present_in what) (next_of what (own_account port s)) s e)

  offer_unchanged : (port : ℕ) (what : Offered) (c : Call) (s : State) → Offers port what c → answer c s ≡ Answer.Refused why → after c s ≡ s
  offer_unchanged port what c s p e =
      let did = call_offers port what c s p in
      did.1 ∙ offers_unchanged port what s (sym did.0 ∙ e)

  pub refused_unchanged : (c : Call) (s : State) → answer c s ≡ Answer.Refused why → after c s ≡ s
  unfolding Steps.enrol Steps.remove Steps.join Steps.leave
  refused_unchanged (Call.Enrol id number count seed password) s e = settled_unchanged s _ why (enrol_checked id number count seed s) e
  refused_unchanged (Call.Remove id) s e = settled_unchanged s _ why (account_there id s) e
  refused_unchanged (Call.Join port id) s e = settled_unchanged s _ why (join_checked port id s) e
  refused_unchanged (Call.Leave port) s e = settled_unchanged s _ why (leave_checked port s) e
  refused_unchanged (Call.Challenge port room) s e = refl
  refused_unchanged (Call.Offer port password) s e = offer_unchanged port _ _ s (Offers.by_offer password) e
  refused_unchanged (Call.OfferRenewal port number count seed new password) s e =
      offer_unchanged port _ _ s (Offers.by_renewal number count seed new password) e
  refused_unchanged Call.Tick s e = let z : ◌≡◌ {A = ℕ} 0 1 = cc in absurd (omega arith)
