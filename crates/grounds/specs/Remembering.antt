-- R-5, call by call: when 63 is given, and what a renewal, another call and a refusal leave of the seeds that an account remembers.
use Rattle.std.specs.Prelude.{ℕ, ◌↔◌, Bool, true, false, not, ◌&&◌, leb, take, Ok, Err}
use Rattle.std.proofs.Common.{arith, sym, ◌∙◌, subst, true≢false}
use Rattle.std.proofs.Math.Path.{◌≡◌, refl, ap, ap₂}
use mathlib.Core.List.{List, [], ◌∷◌, map}
use Rattle.refusal.specs.declared.Refusal.{Refusal}
use Rattle.refusal.specs.Answers.{Checked}
use Rattle.refusal.specs.Numbers.{listing_of}
use Rattle.refusal.specs.Checks.{must, unless, in_order}
use Rattle.refusal.specs.Laws.{in_parts}
use Rattle.text.specs.Kinds.{lower_of}
use Rattle.text.specs.Tests.{same, cases, same_self}
use Rattle.password.specs.Algorithm.{numbered, algorithm_checked}
use Rattle.password.specs.PhraseAndSeed.{seed_checked}
use Rattle.accounts.specs.Rooms.{Room, remembered}
use Rattle.accounts.specs.Accounts.{count_within, is_one_of, seed_other, values_checked}
use Rattle.table.specs.Answers.{Replied}
use Rattle.table.specs.Table.{State, Held, is_there, account_of, own_account}
use Rattle.table.specs.Steps.{reply_refused, turn_checked, renew_checked, compared}
use Rattle.reached.specs.Calls.{Call, Answer, replied_answer, answer, after}
use Rattle.reached.specs.Offered.{Offered, Offers, renews, present_in, next_of, offers}
use Rattle.reached.specs.OfferedLaws.{call_offers}
use Rattle.reached.specs.InTurn.{has_turn_for, HasTurn}
use Rattle.reached.specs.Made.{Made}
use Rattle.reached.specs.SeedsHad.{keeps_account, Renews, following, seeds_along}
use Rattle.reached.specs.SeedLaws.{SeedStep, not_present, still_present}
use Rattle.grounds.specs.Listed.{is_in}
use Rattle.grounds.specs.Never.{test, of_algorithm, of_seed, then_never, rows_never, turn_never}
use Rattle.grounds.specs.Full.{last_refuses}
use Rattle.grounds.specs.Isolated.{wrong_held}
use Rattle.grounds.specs.Keeps.{turn_account}
use Rattle.grounds.specs.Owned.{unrenewed_keeps, call_steps_seeds, login_keeps, other_port_keeps}
use Rattle.grounds.specs.Replies.{call_taken, taken_account, taken_renews}
use Rattle.grounds.specs.Answering.{taken_by_id}
use Rattle.grounds.specs.Unchanged.{compared_other, refused_unchanged}
use Rattle.grounds.specs.WrongReplies.{wrong_reply}

-- ---- 63

module _ (p number count : ℕ) (seed : List ℕ) (new present : ℕ) (c : Call) (s : State)
    (own : Offers p (Offered.Renewal number count seed new present) c)
  where
    abbrev what : Offered
    what = Offered.Renewal number count seed new present

    -- The checks before it, and then whether the seed is a remembered one.
    abbrev before : List Checked
    before = turn_checked p s ∷ count_within count ∷ algorithm_checked (numbered number) ∷ seed_checked seed ∷ []

    abbrev is_remembered : Bool
    is_remembered = is_one_of (map lower_of seed) (remembered (own_account p s))

    before_other : in_order before ≡ Err Refusal.SeedSame → ⊥
    before_other =
        then_never (63 ∷ []) Refusal.SeedSame refl (turn_checked p s) _ (turn_never (63 ∷ []) Refusal.SeedSame refl p s refl)
        (rows_never (63 ∷ []) Refusal.SeedSame refl
        (test (leb 2 count && leb count 9999) Refusal.CountOutside ∷ of_algorithm (numbered number) ∷ of_seed seed ∷ []) refl)

    -- What is compared isn't refused with it, and so it is the checks.
    checks_refuse : (replied_answer (offers p what s).answer ≡ Answer.Refused Refusal.SeedSame)
        ↔ (renew_checked p number count seed s ≡ Err Refusal.SeedSame)
    unfolding offers renew_checked values_checked
    checks_refuse = by (renew_checked p number count seed s)
      where
        by : (k : Checked)
            → (replied_answer (unless (reply_refused s) k (compared p (present_in what) (next_of what (own_account p s)) s)).answer
            ≡ Answer.Refused Refusal.SeedSame)
            ↔ (k ≡ Err Refusal.SeedSame)
        by (Ok _) = (
          λ e. absurd (compared_other Refusal.SeedSame refl p (present_in what) (next_of what (own_account p s)) s e),
          λ e. let z : ◌≡◌ {A = ℕ} 0 1 = cc in absurd (omega arith),
        )
        by (Err why) = (
          λ e. let one : why ≡ Refusal.SeedSame = cc in ap Err one,
          λ e. let one : why ≡ Refusal.SeedSame = cc in ap Answer.Refused one,
        )

    pub remembered_exactly : (answer c s ≡ Answer.Refused Refusal.SeedSame) ↔ ((in_order before ≡ Ok tt) × (is_remembered ≡ true))
    unfolding renew_checked
    remembered_exactly = (
      λ e.
          let parts = last_refuses Refusal.SeedSame (in_order before) (seed_other seed (own_account p s)) before_other
          (parted ∙ checks_refuse.0 (sym did ∙ e)) in
          (parts.0, is_one is_remembered parts.1),
      λ h. did ∙ checks_refuse.1
          (sym parted ∙ ap₂ (λ (k : Checked) (b : Bool). unless Err k (in_order (must (not b) Refusal.SeedSame ∷ []))) h.0 h.1),
    )
      where
        did : answer c s ≡ replied_answer (offers p what s).answer
        did = (call_offers p what c s own).0

        parted : unless Err (in_order before) (in_order (seed_other seed (own_account p s) ∷ [])) ≡ renew_checked p number count seed s
        parted = in_parts before (seed_other seed (own_account p s) ∷ [])

        is_one : (b : Bool) → must (not b) Refusal.SeedSame ≡ Err Refusal.SeedSame → b ≡ true
        is_one true e = refl
        is_one false e = let z : ◌≡◌ {A = ℕ} 0 1 = cc in absurd (omega arith)

-- ---- an accepted renewal, by the account's id

module _ (p i n : ℕ) (c : Call) (s : State) (m : Made s) (t : HasTurn p i s) (e : answer c s ≡ Answer.Count n) where
  -- The account is the next one.
  pub next_by_id : (what : Offered) → Offers p what c → account_of i (after c s) ≡ next_of what (account_of i s)
  next_by_id what own =
      let taken = call_taken p n what s c own e in
      sym (taken_by_id p i n what s (after c s) m t taken) ∙ taken_account p n what s (after c s) taken
      ∙ ap (next_of what) (turn_account p i s m t)

  pub renewed_by_id : (number count : ℕ) (seed : List ℕ) (new present : ℕ) → Offers p (Offered.Renewal number count seed new present) c
      → remembered (account_of i (after c s)) ≡ map lower_of seed ∷ take 7 (remembered (account_of i s))
  renewed_by_id number count seed new present own = ap remembered (next_by_id (Offered.Renewal number count seed new present) own)

  -- Its seed is another, and so one more of those that it has one after the other.
  renewed_another : (what : Offered) → Offers p what c → renews what ≡ true → same (account_of i (after c s)).seed (account_of i s).seed ≡ false
  renewed_another (Offered.Login present) own f = absurd (true≢false (sym f))
  renewed_another (Offered.Renewal number count seed new present) own f =
      let what = Offered.Renewal number count seed new present in
      let taken = call_taken p n what s c own e in
      let other = (taken_renews p n number count seed new present s (after c s) taken).1.other in
      ap (λ (room : Room). same room.seed (account_of i s).seed) (next_by_id what own)
      ∙ subst (λ (old : Room). same (map lower_of seed) old.seed ≡ false) (turn_account p i s m t) (not_present (map lower_of seed) (own_account p s) other)

pub renewed_adds : (i : ℕ) (c : Call) (s : State) → Made s → Renews i s c → (calls : List Call)
    → seeds_along i (c ∷ calls) s ≡ (account_of i s).seed ∷ seeds_along i calls (after c s)
unfolding following
renewed_adds i c s m r calls = rw (renewed_another r.port i r.count c s m r.turn r.accepted r.what r.offered r.renewal)

-- ---- an account that keeps its seed

-- Over a call that doesn't remove it, it keeps all that it remembers; on any table.
pub same_seed_keeps : (s : State) (i : ℕ) → is_there i s ≡ true → (c : Call) → keeps_account i c ≡ true
    → (account_of i (after c s)).seed ≡ (account_of i s).seed → remembered (account_of i (after c s)) ≡ remembered (account_of i s)
same_seed_keeps s i h c q e = by (account_of i s) (account_of i (after c s)) (call_steps_seeds s i h c q).1 e
  where
    by : (old new : Room) → SeedStep old new → new.seed ≡ old.seed → remembered new ≡ remembered old
    by old new (SeedStep.stayed f) e = f
    by old new (SeedStep.renewed n f) e =
        absurd (true≢false (sym (same_self old.seed) ∙ ap (λ (seed : List ℕ). same seed old.seed) (sym e) ∙ not_present new.seed old n))

-- ---- refusals

-- Whatever call is refused, the accounts are as they were; on any table.
pub refused_keeps : (why : Refusal) (c : Call) (s : State) → answer c s ≡ Answer.Refused why → (i : ℕ) → account_of i (after c s) ≡ account_of i s
refused_keeps why c s e i =
    cases (is_in (listing_of why).0 (61 ∷ 62 ∷ []))
    (λ wrong. ap (λ (held : Held). held.account) (wrong_held why c s (wrong_reply why wrong c s e) i))
    (λ other. ap (account_of i) (refused_unchanged why other c s e))

-- ---- a call that doesn't renew the account

module _ (s : State) (i : ℕ) (h : is_there i s ≡ true) where
  -- Something is offered: it is refused; or accepted, and then not for this account, or to log in.
  offer_remembers : (p : ℕ) (what : Offered) (c : Call) → Offers p what c → (Renews i s c → ⊥)
      → remembered (account_of i (after c s)) ≡ remembered (account_of i s)
  offer_remembers p what c own n = by (offers p what s).answer (call_offers p what c s own).0
    where
      turn : (answered : ℕ) → answer c s ≡ Answer.Count answered → has_turn_for p i s ≡ true
          → remembered (account_of i (after c s)) ≡ remembered (account_of i s)
      turn answered e t =
          cases (renews what)
          (λ f. absurd (n (record { port = p; count = answered; what = what; offered = own; renewal = f; turn = t; accepted = e })))
          (λ f. (unrenewed_keeps s i h c (login_keeps p i what c own f)).1)

      by : (a : Replied) → answer c s ≡ replied_answer a → remembered (account_of i (after c s)) ≡ remembered (account_of i s)
      by (Ok answered) e =
          cases (has_turn_for p i s) (turn answered e) (λ f. ap remembered (other_port_keeps p i what c s own h f))
      by (Err why) e = ap remembered (refused_keeps why c s e i)

  -- It remembers what it did, if the call doesn't remove it; on any table.
  pub unrenewed_remembers : (c : Call) → keeps_account i c ≡ true → (Renews i s c → ⊥)
      → remembered (account_of i (after c s)) ≡ remembered (account_of i s)
  unrenewed_remembers (Call.Enrol id number count seed password) q n = (unrenewed_keeps s i h (Call.Enrol id number count seed password) q).1
  unrenewed_remembers (Call.Remove id) q n = (unrenewed_keeps s i h (Call.Remove id) q).1
  unrenewed_remembers (Call.Join port id) q n = (unrenewed_keeps s i h (Call.Join port id) q).1
  unrenewed_remembers (Call.Leave port) q n = (unrenewed_keeps s i h (Call.Leave port) q).1
  unrenewed_remembers (Call.Challenge port room) q n = refl
  unrenewed_remembers (Call.Offer port password) q n = offer_remembers port _ _ (Offers.by_offer password) n
  unrenewed_remembers (Call.OfferRenewal port number count seed new password) q n =
      offer_remembers port _ _ (Offers.by_renewal number count seed new password) n
  unrenewed_remembers Call.Tick q n = (unrenewed_keeps s i h Call.Tick q).1

  -- So its seed is the same, and none is added to those that it has one after the other.
  pub unrenewed_adds : (c : Call) → keeps_account i c ≡ true → (Renews i s c → ⊥) → (calls : List Call)
      → seeds_along i (c ∷ calls) s ≡ seeds_along i calls (after c s)
  unfolding following
  unrenewed_adds c q n calls =
      let kept = still_present (account_of i s) (account_of i (after c s)) (unrenewed_remembers c q n) in
      rw kept.1 (ap (λ (seed : List ℕ). seed ∷ following i calls (after c s)) (sym kept.0))
