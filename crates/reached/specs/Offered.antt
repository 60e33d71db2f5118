-- What a port offers: a password to log in, or a renewal; and what becomes of it: behind checks its password is compared.
use Rattle.std.specs.Prelude.{ℕ, Bool, true, false, List, Ok, Err}
use Rattle.refusal.specs.Answers.{Checked}
use Rattle.refusal.specs.Checks.{unless}
use Rattle.accounts.specs.Rooms.{Room}
use Rattle.accounts.specs.Accounts.{lowered, renewed_room, values_checked}
use Rattle.table.specs.Answers.{Replied}
use Rattle.table.specs.Table.{State, own_account}
use Rattle.table.specs.Steps.{After, reply_refused, turn_checked, compared}
use Rattle.reached.specs.Calls.{Call}

-- ---- what is offered

-- A password to log in; or new values, with the new password and the present one.
pub data Offered : Type 0 where
  Login : (password : ℕ) → Offered
  Renewal : (number count : ℕ) (seed : List ℕ) (new password : ℕ) → Offered

-- It is a renewal.
abbrev pub renews : Offered → Bool
renews (Offered.Login password) = false
renews (Offered.Renewal number count seed new password) = true

-- The port offers this with the call.
pub data Offers (port : ℕ) : Offered → Call → Type 0 where
  by_offer : (password : ℕ) → Offers port (Offered.Login password) (Call.Offer port password)
  by_renewal : (number count : ℕ) (seed : List ℕ) (new password : ℕ)
      → Offers port (Offered.Renewal number count seed new password) (Call.OfferRenewal port number count seed new password)

-- ---- the checks, and what is compared behind them

-- 51, 21, 23, 24, 63 for new values; there is nothing to check where there are none.
abbrev pub new_values_checked : Offered → Room → Checked
new_values_checked (Offered.Login password) old = Ok tt
new_values_checked (Offered.Renewal number count seed new password) old = values_checked number count seed old

-- What Offer checks: the turn, and new values.
abbrev pub offer_checked : ℕ → Offered → State → Checked
offer_checked port what s = unless Err (turn_checked port s) (new_values_checked what (own_account port s))

-- The present password, and what it makes of the account if it is accepted.
abbrev pub present_in : Offered → ℕ
present_in (Offered.Login password) = password
present_in (Offered.Renewal number count seed new password) = password

abbrev pub next_of : Offered → Room → Room
next_of (Offered.Login password) old = lowered old password
next_of (Offered.Renewal number count seed new password) old = renewed_room old number count seed new

-- Behind the checks the password is compared: so it is with both calls (OfferedLaws, `call_offers`).
unfoldable pub offers : ℕ → Offered → State → After Replied
offers port what s =
    unless (reply_refused s) (offer_checked port what s) (compared port (present_in what) (next_of what (own_account port s)) s)
