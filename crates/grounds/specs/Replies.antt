-- What an accepted login and an accepted renewal do, and which passwords are accepted.
use Rattle.std.specs.Prelude.{ℕ, zero, suc, ◌+◌, ◌≤◌, ◌<◌, ◌≡◌, Bool, cond, List, [], ◌∷◌, map, leb, length, get_or, set, Some, Ok, Err}
use Rattle.std.proofs.Common.{arith, sym, ap, ◌∙◌, subst, true≢false, get_or-set_same}
use Rattle.std.proofs.Math.Path.{refl}
use Rattle.std.proofs.Math.Bool.{true, false}
use borrow.Author.Tests.{eqb-true, eq-eqb, ne_eqb, le-leb, leb-true, lt-ltb, ltb-true, not-true}
use Rattle.std.proofs.Math.Dec.{eqb}
use Rattle.text.specs.Kinds.{lower_of}
use Rattle.text.specs.Tests.{both}
use Rattle.refusal.specs.declared.Refusal.{Refusal}
use Rattle.refusal.specs.Answers.{Checked}
use Rattle.refusal.specs.Checks.{unless}
use Rattle.refusal.specs.Laws.{must_good, both_good}
use Rattle.password.specs.Algorithm.{numbered}
use Rattle.password.specs.AlgorithmLaws.{checked_known}
use Rattle.password.specs.Password.{bytes_of, hash}
use Rattle.line.specs.Line.{Waiting, left}
use Rattle.accounts.specs.Rooms.{Room, remembered}
use Rattle.table.specs.Table.{State, Held, free_room, stands_at, waits, own_room, own_account, has_turn, lined}
use Rattle.table.specs.Steps as Steps
use Rattle.accounts.specs.Accounts.{is_one_of, lowered}
use Rattle.table.specs.Steps.{reply_refused, turn_checked, compared, offer, offer_renewal}
use Rattle.table.specs.StepLaws.{renew_passed}
use Rattle.reached.specs.Calls.{Call, Answer, replied_answer, answer, after}
use Rattle.reached.specs.Offered.{Offered, Offers, renews, new_values_checked, offer_checked, present_in, next_of, offers}
use Rattle.reached.specs.OfferedLaws.{renewal_checked_lem, call_offers}
use Rattle.reached.specs.Day.{SteppedDown, Renewed, waited_for}
use Rattle.reached.specs.Outcome.{TurnGood, turn_good}

-- ---- from one step

-- What a room holds, its line changed with all lines.
line_changed : (change : Waiting → Waiting) (rooms : List Held) (k : ℕ) → (get_or (map (lined change) rooms) k free_room).account
    ≡ (get_or rooms k free_room).account
line_changed change [] k = refl
line_changed change (held ∷ rooms) zero = refl
line_changed change (held ∷ rooms) (suc k) = line_changed change rooms k

-- The account that the port waits for, after an accepted reply of that port.
pub accepted_account : (p : ℕ) (next : Room) (s : State) → stands_at p s.rooms < length s.rooms
    → waited_for p s (Steps.accepted p next s).state ≡ next
accepted_account p next s inside =
    let at = stands_at p s.rooms in
    let held : Held = record { account = next; line = (own_room p s).line } in
    line_changed (left p) (set s.rooms at held) at
    ∙ ap (λ (h : Held). h.account) (get_or-set_same s.rooms at held free_room inside)

-- What was offered and accepted with the answer `count`: its checks found nothing wrong, and its hash, by the account's algorithm, is the one
-- stored. The account becomes what it makes of it.
pub record Taken (p count : ℕ) (what : Offered) (s state : State) : Type 0 where
  pub checked : offer_checked p what s ≡ Ok tt
  pub hashed : hash (own_account p s).algorithm (bytes_of (present_in what)) ≡ (own_account p s).password
  pub answered : count ≡ (next_of what (own_account p s)).count
  pub left : state ≡ (Steps.accepted p (next_of what (own_account p s)) s).state

not_accepted : {A : Type 0} (why : Refusal) (n : ℕ) → Answer.Refused why ≡ Answer.Count n → A
not_accepted why n e = let z : ◌≡◌ {A = ℕ} 0 1 = cc in absurd (omega arith)

module _ (p n : ℕ) (what : Offered) (s : State) where
  abbrev old : Room
  old = own_account p s

  compared_taken : offer_checked p what s ≡ Ok tt
      → replied_answer (compared p (present_in what) (next_of what old) s).answer ≡ Answer.Count n
      → Taken p n what s (compared p (present_in what) (next_of what old) s).state
  unfolding compared
  compared_taken k = test (eqb (hash old.algorithm (bytes_of (present_in what))) old.password) refl
    where
      test : (t : Bool) → eqb (hash old.algorithm (bytes_of (present_in what))) old.password ≡ t
          → replied_answer (cond t (Steps.accepted p (next_of what old) s) (Steps.rejected p s)).answer ≡ Answer.Count n
          → Taken p n what s (cond t (Steps.accepted p (next_of what old) s) (Steps.rejected p s)).state
      test true f e = record {
        checked = k;
        hashed = eqb-true (hash old.algorithm (bytes_of (present_in what))) old.password f;
        answered = cc;
        left = refl;
      }
      test false f e = not_accepted _ n e

  offers_taken : replied_answer (offers p what s).answer ≡ Answer.Count n → Taken p n what s (offers p what s).state
  unfolding offers
  offers_taken = go (offer_checked p what s) refl
    where
      go : (k : Checked) → offer_checked p what s ≡ k
          → replied_answer (unless (reply_refused s) k (compared p (present_in what) (next_of what old) s)).answer ≡ Answer.Count n
          → Taken p n what s (unless (reply_refused s) k (compared p (present_in what) (next_of what old) s)).state
      go (Err why) f e = not_accepted why n e
      go (Ok _) f e = compared_taken f e

  -- Of the call.
  pub call_taken : (c : Call) → Offers p what c → answer c s ≡ Answer.Count n → Taken p n what s (after c s)
  call_taken c own e =
      let did = call_offers p what c s own in
      subst (Taken p n what s) (sym did.1) (offers_taken (sym did.0 ∙ e))

  module _ (state : State) (r : Taken p n what s state) where
    pub taken_turn : TurnGood p s
    taken_turn = turn_good p s (both_good (turn_checked p s) (new_values_checked what old) r.checked).0

    -- The account is then the next one.
    pub taken_account : waited_for p s state ≡ next_of what old
    taken_account =
        ap (waited_for p s) r.left ∙ accepted_account p (next_of what old) s (ltb-true (stands_at p s.rooms) (length s.rooms) taken_turn.inside)

-- Of the two offers, by what they answer.
pub login_taken : (p n password : ℕ) (s : State) → (offer p password s).answer ≡ Ok n
    → Taken p n (Offered.Login password) s (offer p password s).state
login_taken p n password s e = call_taken p n (Offered.Login password) s (Call.Offer p password) (Offers.by_offer password) (ap replied_answer e)

pub renewal_taken : (p n number count : ℕ) (seed : List ℕ) (new present : ℕ) (s : State)
    → (offer_renewal p number count seed new present s).answer ≡ Ok n
    → Taken p n (Offered.Renewal number count seed new present) s (offer_renewal p number count seed new present s).state
renewal_taken p n number count seed new present s e =
    call_taken p n (Offered.Renewal number count seed new present) s (Call.OfferRenewal p number count seed new present)
    (Offers.by_renewal number count seed new present) (ap replied_answer e)

-- ---- a login

pub taken_steps_down : (p n : ℕ) (what : Offered) (s state : State) → renews what ≡ false → Taken p n what s state
    → (n ≡ (waited_for p s state).count) × SteppedDown (own_account p s) (waited_for p s state)
taken_steps_down p n (Offered.Login password) s state e r =
    let old = own_account p s in
    let next = lowered old password in
    let unused = (taken_turn p n (Offered.Login password) s state r).unused in
    let down : next.count + 1 ≡ old.count = omega arith in
    subst (λ (room : Room). (n ≡ room.count) × SteppedDown old room) (sym (taken_account p n (Offered.Login password) s state r)) (
      r.answered,
      record {
        same_id = refl;
        same_algorithm = refl;
        same_seed = refl;
        same_older = refl;
        count_lower = down;
        old_is_hash = sym r.hashed;
      },
    )
taken_steps_down p n (Offered.Renewal number count seed new password) s state e r = absurd (true≢false e)

-- ---- a renewal

pub taken_renews : (p n number count : ℕ) (seed : List ℕ) (new present : ℕ) (s state : State)
    → Taken p n (Offered.Renewal number count seed new present) s state
    → (n ≡ count) × Renewed number count seed new present (own_account p s) (waited_for p s state)
taken_renews p n number count seed new present s state r =
    let passed = renew_passed p number count seed s (sym (renewal_checked_lem p number count seed new present s) ∙ r.checked) in
    let becomes = taken_account p n (Offered.Renewal number count seed new present) s state r in
    let from = leb-true 2 count (both (leb 2 count) (leb count 9999) passed.within).0 in (
      r.answered,
      record {
        becomes = becomes;
        known = checked_known (numbered number) passed.algorithm ∙ ap (λ (room : Room). Some room.algorithm) (sym becomes);
        other = not-true (is_one_of (map lower_of seed) (remembered (own_account p s))) (must_good _ _ passed.new);
        unused = subst (λ (room : Room). 1 < room.count) (sym becomes) (omega arith);
        old_is_hash = sym r.hashed;
      },
    )

-- ---- a password that is accepted

pub turn_checked_lem : (p : ℕ) (s : State) → p ≤ 3 → waits p s ≡ true → has_turn p s ≡ true → ((own_account p s).id ≡ 0 → ⊥)
    → 1 < (own_account p s).count → turn_checked p s ≡ Ok tt
unfolding turn_checked
turn_checked_lem p s k l f t u = rw (le-leb p 3 k, l, f, ne_eqb (own_account p s).id 0 t, lt-ltb 1 (own_account p s).count u)

pub offer-accepted : (p w : ℕ) (s : State) → turn_checked p s ≡ Ok tt
    → hash (own_account p s).algorithm (bytes_of w) ≡ (own_account p s).password
    → offer p w s ≡ Steps.accepted p (lowered (own_account p s) w) s
unfolding offer compared
offer-accepted p w s k e = rw (k, eq-eqb (hash (own_account p s).algorithm (bytes_of w)) (own_account p s).password e)
