-- While a port has the turn for an account, only its own calls change that account, removal aside.
use Rattle.std.specs.Prelude.{ℕ, ◌-◌, ◌≡◌, refl, true, false, not, List, [], ◌∷◌, ◌++◌, ◌⊎◌, eqb, ltb, length}
use Rattle.std.proofs.Common.{sym, ◌∙◌, inl, inr, eqb-true, ne_eqb, ltb-true}
use Rattle.std.proofs.Math.Path.{ap, subst}
use Rattle.std.proofs.Math.Decide.{ℕ_discrete}
use Rattle.std.proofs.Math.Bool.{true≢false}
use Rattle.std.proofs.lemmas.Bool.{eqb-false}
use Rattle.text.specs.Tests.{every, either, cases, both}
use Rattle.line.specs.Line as Line
use Rattle.line.specs.Line.{Waiting, of_port, some, stands_in, first, front_of, others, ticked_turn}
use Rattle.accounts.specs.Rooms.{Room, remembered}
use Rattle.table.specs.Table.{State, Held, place_of, is_there, room_at, account_of, line_of, in_lines, stands_at, own_account, is_front, with_line}
use Rattle.table.specs.HeldLaws.{account_there_lem}
use Rattle.table.specs.Steps as Steps
use Rattle.table.specs.Steps.{challenge_for}
use Rattle.challenge.specs.Challenges.{challenge_text}
use Rattle.reached.specs.Calls.{Call, after, run}
use Rattle.reached.specs.Offered.{Offered, Offers, renews}
use Rattle.reached.specs.InTurn.{quiet, keeps_algorithm, has_turn_for, HasTurn}
use Rattle.reached.specs.SeedsHad.{keeps_account}
use Rattle.reached.specs.SeedLaws.{SeedStep}
use Rattle.reached.specs.RoomsChanged.{there_parts}
use Rattle.reached.specs.LinesChanged.{fewer_left, fewer_ticked}
use Rattle.reached.specs.Outcome as Outcome
use Rattle.reached.specs.Outcome.{Outcome}
use Rattle.reached.proofs.Outcomes.{outcome}
use Rattle.reached.specs.Made.{Once, Made}
use Rattle.grounds.specs.Standing.{none_fewer, none_joined}
use Rattle.grounds.specs.HeldAfter.{enrolled_other, removed_other, lined_other, lined_own, left_held, accepted_own, accepted_other}
use Rattle.grounds.specs.Moved.{Moved, moved}
use Rattle.grounds.specs.Isolated.{tick_held}
use Rattle.grounds.specs.Starts.{front_stands}
use Rattle.grounds.specs.Keeps.{made_after, made_run, standing_of, turn_there, turn_account}

-- ---- one call

-- The port that has the turn for an account is one.
pub turn_unique : (p q i : ℕ) (s : State) → HasTurn p i s → HasTurn q i s → p ≡ q
turn_unique p q i s = by (line_of i s).ports
  where
    by : (l : List ℕ) → is_front p (first l) ≡ true → is_front q (first l) ≡ true → p ≡ q
    by [] e f = absurd (true≢false (sym e))
    by (x ∷ l) e f = sym (eqb-true x p e) ∙ eqb-true x q f

-- Of what a room holds.
abbrev account : Held → Room
account held = held.account

-- What a call leaves of an account that is there: all of it, unless an accepted reply puts another in the room; on any table.
module _ (c : Call) (s : State) (i : ℕ) (h : is_there i s ≡ true) (P : Room → Type 0) (was : P (account_of i s))
    (spared : (id : ℕ) → Outcome.NotFor c id → ((j : ℕ) → keeps_account j c ≡ true → eqb id j ≡ false) → id ≡ i → ⊥)
    (put : (port : ℕ) (next : Room) → Outcome.NotBy c port → HasTurn port i s → next.id ≡ (account_of i s).id → Outcome.Kept c (account_of i s) next
    → SeedStep (account_of i s) next → P next)
  where
    kept : {room : Room} → room ≡ account_of i s → P room
    kept e = subst P (sym e) was

    account_after : {s' : State} → Outcome c s s' → P (account_of i s')
    unfolding Steps.tick Steps.joins
    account_after (Outcome.nothing z) = was
    account_after (Outcome.enrolled z room a n t f) =
        kept (ap account
        (enrolled_other i s room (there_parts i s.rooms h).0 (λ e. true≢false (sym h ∙ ap (λ (j : ℕ). is_there j s) (sym e) ∙ t))))
    account_after (Outcome.removed z id t n k o) =
        kept (ap account (removed_other i s id (there_parts i s.rooms h).0 (spared id n k)))
    account_after (Outcome.joined z port id k t n o b x) =
        either (λ (s' : State). P (account_of i s')) (ltb (length (in_lines s.rooms)) 4) (λ e. by (ℕ_discrete id i)) (λ e. was)
      where
        by : Dec (id ≡ i) → P (account_of i (with_line (place_of id s.rooms) (Line.joined port (line_of id s)) s))
        by (yes e) =
            subst (λ (j : ℕ). P (account_of i (with_line (place_of j s.rooms) (Line.joined port (line_of j s)) s))) (sym e)
            (kept (ap account (lined_own i s (Line.joined port (line_of i s)) h)))
        by (no d) = kept (ap account (lined_other i s id (Line.joined port (line_of id s)) t d))
    account_after (Outcome.left z port n o) = kept (ap account (left_held i s port))
    account_after (Outcome.accepted z port next g n o e a k x) = by (ℕ_discrete (place_of i s.rooms) (stands_at port s.rooms))
      where
        by : Dec (place_of i s.rooms ≡ stands_at port s.rooms) → P (account_of i (Steps.accepted port next s).state)
        by (yes own) =
            subst P
            (ap account
            (sym (accepted_own i s port next e (ltb-true (stands_at port s.rooms) (length s.rooms) g.inside) own)))
            (put port next n (ap (λ (j : ℕ). is_front port (front_of (room_at j s).line)) own ∙ g.front)
            (e ∙ ap (λ (room : Room). room.id) same) (subst (λ (old : Room). Outcome.Kept c old next) same k)
            (subst (λ (old : Room). SeedStep old next) same x))
          where
            same : own_account port s ≡ account_of i s
            same = ap (λ (m : ℕ). (room_at m s).account) (sym own)
        by (no d) = kept (ap account (accepted_other i s port next e d))
    account_after (Outcome.rejected z port g n o) = kept (ap account (left_held i s port))
    account_after (Outcome.ticked z o) = kept (ap account (tick_held i s))

-- A call that keeps an account's algorithm keeps the account.
algorithm_account : (i : ℕ) (c : Call) → keeps_algorithm i c ≡ true → keeps_account i c ≡ true
algorithm_account i (Call.Enrol id number count seed password) q = refl
algorithm_account i (Call.Remove id) q = q
algorithm_account i (Call.Join port id) q = refl
algorithm_account i (Call.Leave port) q = refl
algorithm_account i (Call.Challenge port room) q = refl
algorithm_account i (Call.Offer port password) q = refl
algorithm_account i (Call.OfferRenewal port number count seed new password) q = refl
algorithm_account i Call.Tick q = refl

-- The algorithm and the remembered seeds, over a call that is no renewal and doesn't remove the account; on any table.
pub unrenewed_keeps : (s : State) (i : ℕ) → is_there i s ≡ true → (c : Call) → keeps_algorithm i c ≡ true
    → ((account_of i (after c s)).algorithm ≡ (account_of i s).algorithm) × (remembered (account_of i (after c s)) ≡ remembered (account_of i s))
unrenewed_keeps s i h c q =
    account_after c s i h
    (λ (room : Room). (room.algorithm ≡ (account_of i s).algorithm) × (remembered room ≡ remembered (account_of i s))) (refl, refl)
    (λ id n k e. eqb-false id i (k i (algorithm_account i c q)) e) (λ port next n t e k x. k i q) (outcome c s)

-- Over a call that doesn't remove the account: it is there still, and its remembered seeds stay or step; on any table.
pub call_steps_seeds : (s : State) (i : ℕ) → is_there i s ≡ true → (c : Call) → keeps_account i c ≡ true
    → (is_there i (after c s) ≡ true) × SeedStep (account_of i s) (account_of i (after c s))
call_steps_seeds s i h c q =
    let did = account_after c s i h (λ (room : Room). (room.id ≡ (account_of i s).id) × SeedStep (account_of i s) room) (refl, SeedStep.stayed refl)
    (λ id n k e. eqb-false id i (k i q) e) (λ port next n t e k x. (e, x)) (outcome c s) in (
      sym (account_there_lem i (after c s).rooms) ∙ ap (λ (n : ℕ). not (eqb n 0)) did.0 ∙ account_there_lem i s.rooms ∙ h,
      did.1,
    )

-- A call that offers something removes no account, and is quiet for every other port; it keeps the algorithm unless it is a renewal.
offers_keeps : (p q i : ℕ) (what : Offered) (c : Call) → Offers p what c → (keeps_account i c ≡ true) × (quiet q i c ≡ not (eqb p q))
offers_keeps p q i what c (Offers.by_offer password) = (refl, refl)
offers_keeps p q i what c (Offers.by_renewal number count seed new password) = (refl, refl)

pub login_keeps : (p i : ℕ) (what : Offered) (c : Call) → Offers p what c → renews what ≡ false → keeps_algorithm i c ≡ true
login_keeps p i what c (Offers.by_offer password) e = refl
login_keeps p i what c (Offers.by_renewal number count seed new password) e = absurd (true≢false e)

-- The whole account, over a reply or a renewal by a port that hasn't the turn for it; on any table.
pub other_port_keeps : (p i : ℕ) (what : Offered) (c : Call) (s : State) → Offers p what c → is_there i s ≡ true → has_turn_for p i s ≡ false
    → account_of i (after c s) ≡ account_of i s
other_port_keeps p i what c s own h f =
    account_after c s i h (λ (room : Room). room ≡ account_of i s) refl (λ id n k e. eqb-false id i (k i (offers_keeps p p i what c own).0) e)
    (λ port next n t e k x. absurd (none port n t)) (outcome c s)
  where
    none : (port : ℕ) → Outcome.NotBy c port → HasTurn port i s → ⊥
    none port n t =
        cases (eqb p port) (λ e. true≢false (sym t ∙ ap (λ (q : ℕ). has_turn_for q i s) (sym (eqb-true p port e)) ∙ f))
        (λ e. eqb-false port port (n port i ((offers_keeps p port i what c own).1 ∙ ap not e)) refl)

-- The whole account, over a quiet call in the turn.
pub call_keeps : (p i : ℕ) (s : State) → Made s → HasTurn p i s → (c : Call) → quiet p i c ≡ true → account_of i (after c s) ≡ account_of i s
call_keeps p i s m t c q =
    account_after c s i (turn_there p i s m t).0 (λ (room : Room). room ≡ account_of i s) refl
    (λ id n k e. eqb-false id i (n p i q) e)
    (λ port next n u e k x. absurd (eqb-false port p (n p i q) (turn_unique port p i s u t))) (outcome c s)

-- ---- the whole turn

-- After a quiet call the port has the turn still, or it is out of the account's line.
still_or_gone : (p i : ℕ) (c : Call) (w : Waiting) {w' : Waiting} → Moved c i w w' → quiet p i c ≡ true → Once w.ports → is_front p (front_of w) ≡ true
    → (is_front p (front_of w') ≡ true) ⊎ (stands_in p w' ≡ false)
unfolding Line.left others Line.ticked
still_or_gone p i c w (Moved.stood z) q o h = inl h
still_or_gone p i c w (Moved.gone z port spares) q o h = inl (by w.ports h)
  where
    by : (l : List ℕ) → is_front p (first l) ≡ true → is_front p (first (others (of_port port) l)) ≡ true
    by [] h = h
    by (x ∷ l) h = rw (ne_eqb x port (λ e. eqb-false port p (spares p i q) (sym e ∙ eqb-true x p h))) h
still_or_gone p i c w (Moved.come z port known absent b) q o h = inl (by w.ports h)
  where
    by : (l : List ℕ) → is_front p (first l) ≡ true → is_front p (first (l ++ port ∷ [])) ≡ true
    by [] h = absurd (true≢false (sym h))
    by (x ∷ l) h = h
still_or_gone p i c w (Moved.emptied z spares) q o h = absurd (eqb-false i i (spares p i q) refl)
still_or_gone p i c w (Moved.ticked z) q o h = by w.ports w.turn o h
  where
    by : (l : List ℕ) (turn : ℕ) → Once l → is_front p (first l) ≡ true
        → (is_front p (front_of (ticked_turn l turn)) ≡ true) ⊎ (stands_in p (ticked_turn l turn) ≡ false)
    by [] turn o h = inl h
    by (x ∷ l) turn o h =
        either (λ (v : Waiting). (is_front p (front_of v) ≡ true) ⊎ (stands_in p v ≡ false)) (eqb (turn - 1) 0)
        (λ e. inr (subst (λ (k : ℕ). some (of_port k) l ≡ false) (eqb-true x p h) o.0)) (λ e. inl h)

-- A port that is out of the account's line stays out while it does not join.
stays_out : (p i : ℕ) (c : Call) (w : Waiting) {w' : Waiting} → Moved c i w w' → quiet p i c ≡ true → stands_in p w ≡ false → stands_in p w' ≡ false
unfolding some
stays_out p i c w (Moved.stood z) q h = h
stays_out p i c w (Moved.gone z port spares) q h = none_fewer (of_port p) _ w.ports (fewer_left port w) h
stays_out p i c w (Moved.come z port known absent b) q h = none_joined (of_port p) w.ports port h (b p i q)
stays_out p i c w (Moved.emptied z spares) q h = refl
stays_out p i c w (Moved.ticked z) q h = none_fewer (of_port p) _ w.ports (fewer_ticked w) h

-- So over several calls.
out_run : (p i : ℕ) → (i ≡ 0 → ⊥) → (calls : List Call) (s : State) → Made s → every (quiet p i) calls ≡ true → stands_in p (line_of i s) ≡ false
    → stands_in p (line_of i (run calls s)) ≡ false
unfolding every run
out_run p i g [] s m q h = h
out_run p i g (c ∷ cs) s m q h =
    let halves = both (quiet p i c) (every (quiet p i) cs) q in
    out_run p i g cs (after c s) (made_after c s m) halves.1 (stays_out p i c (line_of i s) (moved c s m (outcome c s) i g) halves.0 h)

-- From a moment of the turn to a later one of the same turn the account is as it was.
pub turn_keeps : (p i : ℕ) (calls : List Call) (s : State) → Made s → HasTurn p i s → every (quiet p i) calls ≡ true → HasTurn p i (run calls s)
    → account_of i (run calls s) ≡ account_of i s
unfolding every run
turn_keeps p i [] s m t q u = refl
turn_keeps p i (c ∷ cs) s m t q u =
    by (still_or_gone p i c (line_of i s) (moved c s m (outcome c s) i given) halves.0 (standing_of s m i).once t) (turn_keeps p i cs (after c s) made')
  where
    halves : (quiet p i c ≡ true) × (every (quiet p i) cs ≡ true)
    halves = both (quiet p i c) (every (quiet p i) cs) q

    given : i ≡ 0 → ⊥
    given = (there_parts i s.rooms (turn_there p i s m t).0).0

    made' : Made (after c s)
    made' = made_after c s m

    by : (HasTurn p i (after c s)) ⊎ (stands_in p (line_of i (after c s)) ≡ false)
        → (HasTurn p i (after c s) → every (quiet p i) cs ≡ true → HasTurn p i (run cs (after c s))
        → account_of i (run cs (after c s)) ≡ account_of i (after c s))
        → account_of i (run cs (after c s)) ≡ account_of i s
    by (inl e) ih = ih e halves.1 u ∙ call_keeps p i s m t c halves.0
    by (inr e) ih =
        absurd (true≢false (sym (front_stands p (line_of i (run cs (after c s))) u) ∙ out_run p i given cs (after c s) made' halves.1 e))

-- So the challenge is as it was, too.
pub challenge_kept : (p i : ℕ) (calls : List Call) (s : State) → Made s → HasTurn p i s → every (quiet p i) calls ≡ true → HasTurn p i (run calls s)
    → challenge_for p (run calls s) ≡ challenge_for p s
challenge_kept p i calls s m t q u =
    ap (λ (room : Room). challenge_text true room.algorithm room.seed (room.count - 1))
    (turn_account p i (run calls s) (made_run calls s m) u ∙ turn_keeps p i calls s m t q u ∙ sym (turn_account p i s m t))
