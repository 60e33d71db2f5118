-- From one step: what an accepted login and an accepted renewal do to the account. A reply's text is read first, and what it
-- says is offered: ReadThenOffer, `login_is_offered`; ExtendedReplies, `init_is_a_renewal`.
use Rattle.std.specs.Prelude.{ℕ, ◌≡◌, refl, true, List, Ok}
use Rattle.std.proofs.Common.{subst}
use Rattle.accounts.specs.Rooms.{Room}
use Rattle.table.specs.Table.{State, is_there, account_of, own_account}
use Rattle.table.specs.Steps.{offer, offer_renewal}
use Rattle.reached.specs.Calls.{Call, after}
use Rattle.reached.specs.Offered.{Offered}
use Rattle.reached.specs.InTurn.{Reached, HasTurn, keeps_algorithm}
use Rattle.reached.specs.Day.{SteppedDown, Renewed, waited_for}
use Rattle.grounds.specs.Keeps.{made, turn_account}
use Rattle.grounds.specs.Owned.{unrenewed_keeps}
use Rattle.grounds.specs.Answering.{taken_by_id}
use Rattle.grounds.specs.Replies.{login_taken, renewal_taken, taken_steps_down, taken_renews}

-- On any table: an accepted password is answered with the new count, which is the old one less 1, and the password that was stored is the hash of the one
-- that is stored then.
pub accepted_steps_down : (p n password : ℕ) (s : State) → (offer p password s).answer ≡ Ok n
    → (n ≡ (waited_for p s (offer p password s).state).count)
    × SteppedDown (own_account p s) (waited_for p s (offer p password s).state)
accepted_steps_down p n password s e = taken_steps_down p n (Offered.Login password) s (offer p password s).state refl (login_taken p n password s e)

-- In tables that calls make it is the account with the id for which the port has the turn.
pub steps_down_by_id : (s : State) → Reached s → (p i n password : ℕ) → HasTurn p i s → (offer p password s).answer ≡ Ok n
    → (n ≡ (account_of i (offer p password s).state).count) × SteppedDown (account_of i s) (account_of i (offer p password s).state)
steps_down_by_id s r p i n password t e =
    let before = turn_account p i s (made s r) t in
    let then = taken_by_id p i n (Offered.Login password) s (offer p password s).state (made s r) t (login_taken p n password s e) in
    subst (λ (room : Room). (n ≡ room.count) × SteppedDown (account_of i s) room) then
    (subst (λ (room : Room). (n ≡ (waited_for p s (offer p password s).state).count) × SteppedDown room (waited_for p s (offer p password s).state)) before
    (taken_steps_down p n (Offered.Login password) s (offer p password s).state refl (login_taken p n password s e)))

-- R-1, "an account keeps its algorithm": on any table, whatever call is made that is no renewal and doesn't remove the account.
pub algorithm_kept : (s : State) (i : ℕ) → is_there i s ≡ true → (c : Call) → keeps_algorithm i c ≡ true
    → (account_of i (after c s)).algorithm ≡ (account_of i s).algorithm
algorithm_kept s i there c k = (unrenewed_keeps s i there c k).0

-- "and renewal may change it": an accepted renewal, on any table, is answered with the new count, and the account has then the new algorithm,
-- count, seed and password; the present password that was offered was hashed by the algorithm that the account had.
pub accepted_renews : (p n number count : ℕ) (seed : List ℕ) (new present : ℕ) (s : State)
    → (offer_renewal p number count seed new present s).answer ≡ Ok n
    → (n ≡ count) × Renewed number count seed new present (own_account p s) (waited_for p s (offer_renewal p number count seed new present s).state)
accepted_renews p n number count seed new present s e =
    taken_renews p n number count seed new present s (offer_renewal p number count seed new present s).state
    (renewal_taken p n number count seed new present s e)
