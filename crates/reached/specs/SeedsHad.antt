-- The words of R-5: calls that keep an account and that renew it, and the seeds that it has one after the other.
use Rattle.std.specs.Prelude.{ℕ, ◌≡◌, Bool, true, cond, not, List, [], ◌∷◌, eqb}
use Rattle.text.specs.Tests.{same}
use Rattle.table.specs.Table.{State, account_of}
use Rattle.reached.specs.Calls.{Call, Answer, answer, after}
use Rattle.reached.specs.Offered.{Offered, Offers, renews}
use Rattle.reached.specs.InTurn.{HasTurn}

-- "Remove forgets them": the call does not remove the account i.
abbrev pub keeps_account : ℕ → Call → Bool
keeps_account i (Call.Enrol id number count seed password) = true
keeps_account i (Call.Remove id) = not (eqb id i)
keeps_account i (Call.Join port id) = true
keeps_account i (Call.Leave port) = true
keeps_account i (Call.Challenge port room) = true
keeps_account i (Call.Offer port password) = true
keeps_account i (Call.OfferRenewal port number count seed new password) = true
keeps_account i Call.Tick = true

-- The call renews the account i: a renewal is offered, by the port that has the turn for the account, and is accepted.
pub record Renews (i : ℕ) (s : State) (c : Call) : Type 0 where
  pub port : ℕ
  pub count : ℕ
  pub what : Offered
  pub offered : Offers port what c
  pub renewal : renews what ≡ true
  pub turn : HasTurn port i s
  pub accepted : answer c s ≡ Answer.Count count

-- The seeds that the account i gets along the calls, in order: one whenever its seed after a call isn't the one before it.
unfoldable pub following : ℕ → List Call → State → List (List ℕ)
following i [] s = []
following i (call ∷ calls) s =
    let seed = (account_of i (after call s)).seed in
    let later = following i calls (after call s) in
    cond (same seed (account_of i s).seed) later (seed ∷ later)

-- The seeds that it has one after the other, from the table s on.
abbrev pub seeds_along : ℕ → List Call → State → List (List ℕ)
seeds_along i calls s = (account_of i s).seed ∷ following i calls s
