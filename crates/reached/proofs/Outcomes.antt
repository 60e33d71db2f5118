-- Each call's outcome, on every table. It stands here, and not in specs/, so that an edit of what a call is said to do is refused for the outcome alone.
use Rattle.std.specs.Prelude.{ℕ, ◌+◌, ◌≤◌, ◌<◌, ◌≡◌, refl, Bool, true, false, cond, ◌&&◌, ◌||◌, List, [], ◌∷◌, map, eqb, leb, length, take, Ok, Err}
use Rattle.std.proofs.Common.{arith, sym, ◌∙◌, subst, true≢false, leb-true, le-leb, length-take}
use Rattle.std.proofs.lemmas.Bool.{false≢true, eqb-false, not-true}
use Rattle.std.proofs.lemmas.List.{length-map}
use Rattle.refusal.specs.declared.Refusal.{Refusal}
use Rattle.refusal.specs.Answers.{Checked}
use Rattle.refusal.specs.Checks.{unless}
use Rattle.text.specs.Kinds.{is_upper, is_lower, is_letter, is_digit, lower_of}
use Rattle.text.specs.Tests.{every, both}
use Rattle.password.specs.PhraseAndSeed.{plain, seed_checked}
use Rattle.password.specs.PhraseAndSeedLaws.{good_seed}
use Rattle.password.specs.Password.{hash, bytes_of, number_of}
use Rattle.line.specs.Line.{stands_in}
use Rattle.refusal.specs.Each.{Each}
use Rattle.accounts.specs.Rooms.{Room, remembered}
use Rattle.table.specs.Answers.{Replied}
use Rattle.table.specs.Table.{State, is_there, line_of, own_account}
use Rattle.accounts.specs.Accounts.{with_values, new_room, renewed_room, lowered, is_one_of}
use Rattle.table.specs.TableChecks.{account_there}
use Rattle.table.specs.Steps as Steps
use Rattle.table.specs.Steps.{After, enrol_checked, join_checked, leave_checked, turn_checked, compared}
use Rattle.reached.specs.Calls.{Call, after}
use Rattle.reached.specs.Offered.{Offered, renews, offer_checked, present_in, next_of, offers}
use Rattle.reached.specs.OfferedLaws.{renewal_checked_lem, offer-offers, renewal_offers}
use Rattle.reached.specs.InTurn.{tick_of, keeps_algorithm}
use Rattle.reached.specs.Made.{is_kept, SeedGood, Different, AccountGood}
use Rattle.reached.specs.SeedLaws.{SeedStep, none_take, different_take, each_take}
use Rattle.refusal.specs.Laws.{must_good, both_good}
use Rattle.table.specs.StepLaws.{enrol_passed, renew_passed}
use Rattle.reached.specs.Equal.{Housed}
use Rattle.reached.specs.Laws.{housed_outcome}
use Rattle.reached.specs.Outcome.{Outcome, TurnGood, NotBy, Outside, Kept, join_good, turn_good}

-- ---- seeds

kept_lower : (b : ℕ) → (is_letter b || is_digit b) ≡ true → is_kept (lower_of b) ≡ true
kept_lower b e = go (is_upper b) refl e
  where
    go : (t : Bool) → is_upper b ≡ t → ((t || is_lower b) || is_digit b) ≡ true → is_kept (cond t (b + 32) b) ≡ true
    go true u e =
        let halves = both (leb 65 b) (leb b 90) u in
        let from : 97 ≤ b + 32 = omega (arith, leb-true 65 b halves.0) in
        let to : b + 32 ≤ 122 = omega (arith, leb-true b 90 halves.1) in
        rw (le-leb 97 (b + 32) from, le-leb (b + 32) 122 to)
    go false u e = e

seed_lower : (seed : List ℕ) → plain seed ≡ true → every is_kept (map lower_of seed) ≡ true
unfolding plain every
seed_lower [] e = refl
seed_lower (b ∷ s) e =
    let halves = both (is_letter b || is_digit b) (plain s) e in
    rw (kept_lower b halves.0) (seed_lower s halves.1)

-- A seed that the checks found good is kept as a good one.
seed_good : (seed : List ℕ) → seed_checked seed ≡ Ok tt → SeedGood (map lower_of seed)
seed_good seed e =
    let good = good_seed seed e in
    record { from = rw length-map good.0; to = rw length-map good.1; kept = seed_lower seed good.2 }

-- What Enrol and a renewal store is good, if the older seeds are seven at most, good and different, and none of them is the new one.
values_good : (id : ℕ) (older : List (List ℕ)) (number count : ℕ) (seed : List ℕ) (password : ℕ) → (leb 2 count && leb count 9999) ≡ true
    → seed_checked seed ≡ Ok tt → length older ≤ 7 → Each SeedGood older → is_one_of (map lower_of seed) older ≡ false → Different older
    → AccountGood (with_values id older number count seed password)
values_good id older number count seed password e f few good new different =
    let counts = both (leb 2 count) (leb count 9999) e in
    let from = leb-true 2 count counts.0 in
    record {
      count_from = omega arith;
      count_to = leb-true count 9999 counts.1;
      few = omega arith;
      seeds = (seed_good seed f, good);
      different = (new, different);
    }

-- Enrol: there are no older seeds.
new_good : (id number count : ℕ) (seed password : List ℕ) → (leb 2 count && leb count 9999) ≡ true → seed_checked seed ≡ Ok tt
    → AccountGood (new_room id number count seed password)
unfolding is_one_of
new_good id number count seed password e f = values_good id [] number count seed (number_of password) e f (omega arith) tt refl tt

-- A renewal: they are the first seven of those that the account remembered.
renewed_good : (old : Room) (number count : ℕ) (seed : List ℕ) (password : ℕ) → (leb 2 count && leb count 9999) ≡ true
    → seed_checked seed ≡ Ok tt → is_one_of (map lower_of seed) (remembered old) ≡ false → AccountGood old
    → AccountGood (renewed_room old number count seed password)
renewed_good old number count seed password e f new good =
    values_good old.id (take 7 (remembered old)) number count seed password e f (omega (arith, length-take 7 (remembered old)))
    (each_take SeedGood 7 (remembered old) good.seeds) (none_take (map lower_of seed) 7 (remembered old) new)
    (different_take 7 (remembered old) good.different)

-- ---- each call's outcome

-- Behind checks: nothing where one of them refuses, else what comes next.
checked_outcome : {A : Type 0} (refuse : Refusal → A) (c : Call) (s : State) (k : Checked) (next : After A) → tick_of c ≡ 0
    → (k ≡ Ok tt → Outcome c s next.state) → Outcome c s (unless (λ why. record { answer = refuse why; state = s }) k next).state
checked_outcome refuse c s (Ok _) next z f = f refl
checked_outcome refuse c s (Err why) next z f = Outcome.nothing z

enrol_outcome : (id number count : ℕ) (seed password : List ℕ) (s : State)
    → Outcome (Call.Enrol id number count seed password) s (Steps.enrol id number count seed password s).state
unfolding Steps.enrol
enrol_outcome id number count seed password s =
    checked_outcome Err (Call.Enrol id number count seed password) s (enrol_checked id number count seed s) _ refl
    (λ e.
    let passed = enrol_passed id number count seed s e in
    Outcome.enrolled refl (new_room id number count seed password) (new_good id number count seed password passed.within passed.good)
    (eqb-false id 0 (not-true (eqb id 0) passed.given)) (not-true (is_there id s) passed.new) passed.room)

remove_outcome : (id : ℕ) (s : State) → Outcome (Call.Remove id) s (Steps.remove id s).state
unfolding Steps.remove
remove_outcome id s =
    checked_outcome Err (Call.Remove id) s (account_there id s) _ refl
    (λ e. Outcome.removed refl id (must_good _ _ e) (λ p i q. not-true (eqb id i) q) (λ i q. not-true (eqb id i) q) (λ i q. not-true (eqb id i) q))

join_outcome : (port id : ℕ) (s : State) → Outcome (Call.Join port id) s (Steps.join port id s).state
unfolding Steps.join
join_outcome port id s =
    checked_outcome Err (Call.Join port id) s (join_checked port id s) _ refl
    (λ e.
    let facts = join_good port id s e in
    Outcome.joined refl port id facts.0 facts.1 facts.2 facts.3 (λ p i q. not-true (eqb port p) q) (λ i q. not-true (eqb id i) q))

leave_outcome : (port : ℕ) (s : State) → Outcome (Call.Leave port) s (Steps.leave port s).state
unfolding Steps.leave
leave_outcome port s =
    checked_outcome Err (Call.Leave port) s (leave_checked port s) _ refl
    (λ e. Outcome.left refl port (λ p i q. not-true (eqb port p) q) (λ i q. not-true (stands_in port (line_of i s)) q))

compared_outcome : (c : Call) (port password : ℕ) (next : Room) (s : State) → tick_of c ≡ 0 → TurnGood port s → NotBy c port → Outside c s port
    → next.id ≡ (own_account port s).id → (AccountGood (own_account port s) → AccountGood next)
    → Kept c (own_account port s) next → SeedStep (own_account port s) next → Outcome c s (compared port password next s).state
unfolding compared
compared_outcome c port password next s z g n o i a k x =
    go (eqb (hash (own_account port s).algorithm (bytes_of password)) (own_account port s).password)
  where
    go : (t : Bool) → Outcome c s (cond t (Steps.accepted port next s) (Steps.rejected port s)).state
    go true = Outcome.accepted z port next g n o i a k x
    go false = Outcome.rejected z port g n o

-- Behind the turn's checks the account of a login is a good one.
lowered_good : (old : Room) (password : ℕ) → 1 < old.count → AccountGood old → AccountGood (lowered old password)
lowered_good old password unused good = record {
  count_from = omega arith;
  count_to = omega (arith, good.count_to);
  few = good.few;
  seeds = good.seeds;
  different = good.different;
}

-- What is offered: nothing where it is refused, else the password is compared.
module _ (c : Call) (port : ℕ) (s : State) (z : tick_of c ≡ 0) (n : NotBy c port) (o : Outside c s port) where
  abbrev old : Room
  old = own_account port s

  passed_outcome : (what : Offered) → ((i : ℕ) → keeps_algorithm i c ≡ true → renews what ≡ false)
      → offer_checked port what s ≡ Ok tt → Outcome c s (compared port (present_in what) (next_of what old) s).state
  passed_outcome (Offered.Login password) k e =
      let g = turn_good port s (both_good (turn_checked port s) (Ok tt) e).0 in
      compared_outcome c port password (lowered old password) s z g n o refl (lowered_good old password g.unused)
      (λ i q. (refl, refl)) (SeedStep.stayed refl)
  passed_outcome (Offered.Renewal number count seed new password) k e =
      let passed = renew_passed port number count seed s (sym (renewal_checked_lem port number count seed new password s) ∙ e) in
      let other = not-true (is_one_of (map lower_of seed) (remembered old)) (must_good _ _ passed.new) in
      compared_outcome c port password (renewed_room old number count seed new) s z (turn_good port s passed.turn) n o refl
      (renewed_good old number count seed new passed.within passed.good other) (λ i q. absurd (true≢false (k i q)))
      (SeedStep.renewed other refl)

  offers_outcome : (what : Offered) → ((i : ℕ) → keeps_algorithm i c ≡ true → renews what ≡ false) → Outcome c s (offers port what s).state
  unfolding offers
  offers_outcome what k = checked_outcome Err c s (offer_checked port what s) _ z (passed_outcome what k)

offer_outcome : (port password : ℕ) (s : State) → Outcome (Call.Offer port password) s (Steps.offer port password s).state
offer_outcome port password s =
    subst (λ (r : After Replied). Outcome (Call.Offer port password) s r.state) (sym (offer-offers port password s))
    (offers_outcome (Call.Offer port password) port s refl (λ p i q. not-true (eqb port p) q) (λ i q. not-true (stands_in port (line_of i s)) q)
    (Offered.Login password) (λ i q. refl))

renewal_outcome : (port number count : ℕ) (seed : List ℕ) (new password : ℕ) (s : State)
    → Outcome (Call.OfferRenewal port number count seed new password) s (Steps.offer_renewal port number count seed new password s).state
renewal_outcome port number count seed new password s =
    subst (λ (r : After Replied). Outcome renewal s r.state) (sym (renewal_offers port number count seed new password s))
    (offers_outcome renewal port s refl (λ p i q. not-true (eqb port p) q) (λ i q. not-true (stands_in port (line_of i s)) q)
    (Offered.Renewal number count seed new password) (λ i q. absurd (false≢true q)))
  where
    renewal : Call
    renewal = Call.OfferRenewal port number count seed new password

-- Every call, on every table.
pub outcome : (c : Call) (s : State) → Outcome c s (after c s)
outcome (Call.Enrol id number count seed password) s = enrol_outcome id number count seed password s
outcome (Call.Remove id) s = remove_outcome id s
outcome (Call.Join port id) s = join_outcome port id s
outcome (Call.Leave port) s = leave_outcome port s
outcome (Call.Challenge port room) s = Outcome.nothing refl
outcome (Call.Offer port password) s = offer_outcome port password s
outcome (Call.OfferRenewal port number count seed new password) s = renewal_outcome port number count seed new password s
outcome Call.Tick s = Outcome.ticked refl (λ i. refl)

-- Every call keeps the accounts and the lines apart.
pub housed_after : (call : Call) (s : State) → Housed s → Housed (after call s)
housed_after call s h = housed_outcome call s (outcome call s) h
