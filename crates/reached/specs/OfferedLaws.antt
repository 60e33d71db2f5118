-- Laws of what is offered: Offer, also of a renewal, is of that form.
use Rattle.std.specs.Prelude.{ℕ, ◌≡◌, refl, List, Ok, Err}
use Rattle.std.proofs.Common.{ap}
use Rattle.refusal.specs.Answers.{Checked}
use Rattle.refusal.specs.Checks.{unless}
use Rattle.accounts.specs.Rooms.{Room}
use Rattle.accounts.specs.Accounts.{lowered, values_checked}
use Rattle.table.specs.Answers.{Replied}
use Rattle.table.specs.Table.{State, own_account}
use Rattle.table.specs.Steps.{After, reply_refused, turn_checked, compared, offer, renew_checked, offer_renewal}
use Rattle.reached.specs.Calls.{Call, replied_answer, answer, after}
use Rattle.reached.specs.Offered.{Offered, Offers, offer_checked, next_of, offers}

-- The account stays the same one.
pub next_id : (what : Offered) (old : Room) → (next_of what old).id ≡ old.id
next_id (Offered.Login password) old = refl
next_id (Offered.Renewal number count seed new password) old = refl

-- The checks of a renewal.
pub renewal_checked_lem : (port number count : ℕ) (seed : List ℕ) (new password : ℕ) (s : State)
    → offer_checked port (Offered.Renewal number count seed new password) s ≡ renew_checked port number count seed s
unfolding renew_checked values_checked
renewal_checked_lem port number count seed new password s = refl

pub offer-offers : (port password : ℕ) (s : State) → offer port password s ≡ offers port (Offered.Login password) s
unfolding offer offers
offer-offers port password s = by (turn_checked port s)
  where
    by : (k : Checked) → unless (reply_refused s) k (compared port password (lowered (own_account port s) password) s)
        ≡ unless (reply_refused s) (unless Err k (Ok tt)) (compared port password (lowered (own_account port s) password) s)
    by (Ok _) = refl
    by (Err why) = refl

pub renewal_offers : (port number count : ℕ) (seed : List ℕ) (new password : ℕ) (s : State)
    → offer_renewal port number count seed new password s ≡ offers port (Offered.Renewal number count seed new password) s
unfolding offer_renewal offers renew_checked values_checked
renewal_offers port number count seed new password s = refl

-- Of a call that offers it: its answer, and the table after it.
pub call_offers : (port : ℕ) (what : Offered) (c : Call) (s : State) → Offers port what c
    → (answer c s ≡ replied_answer (offers port what s).answer) × (after c s ≡ (offers port what s).state)
call_offers port what c s (Offers.by_offer password) = (
  ap (λ (a : After Replied). replied_answer a.answer) (offer-offers port password s),
  ap (λ (a : After Replied). a.state) (offer-offers port password s),
)
call_offers port what c s (Offers.by_renewal number count seed new password) = (
  ap (λ (a : After Replied). replied_answer a.answer) (renewal_offers port number count seed new password s),
  ap (λ (a : After Replied). a.state) (renewal_offers port number count seed new password s),
)
