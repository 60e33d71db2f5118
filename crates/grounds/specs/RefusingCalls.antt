-- The refusals of the table's calls go by their rows, in tables that calls make.
use Rattle.std.specs.Prelude.{ℕ, ◌+◌, ◌-◌, ◌≤◌, ◌≡◌, refl, Bool, true, false, cond, not, ◌&&◌, List, [], ◌++◌, eqb, leb, ltb, length, Ok, Err}
use Rattle.std.proofs.Common.{arith, sym, ap, ◌∙◌, subst, eq-eqb, ne_eqb, ltb-true, ltb-false, le-ltb, le-leb}
use Rattle.std.proofs.Math.Bool.{not-not}
use Rattle.std.proofs.lemmas.Bool.{lt-leb}
use Rattle.refusal.specs.declared.Refusal.{Refusal}
use Rattle.refusal.specs.Answers.{Checked}
use Rattle.refusal.specs.Checks.{unless}
use Rattle.refusal.specs.Each.{each_get}
use Rattle.refusal.specs.Laws.{must-true}
use Rattle.text.specs.Tests.{cases}
use Rattle.password.specs.PhraseAndSeed.{seed_checked}
use Rattle.password.specs.Algorithm.{numbered, algorithm_checked}
use Rattle.password.specs.Password.{bytes_of, hash}
use Rattle.challenge.specs.Challenges.{challenge_written_by}
use Rattle.port.specs.declared.Port.{Port}
use Rattle.accounts.specs.Rooms.{Room}
use Rattle.table.specs.Answers.{Replied}
use Rattle.table.specs.Table.{State, Held, fresh_port, holds, is_there, account_of, port_of, stands_at, waits, own_account, has_turn}
use Rattle.table.specs.TableChecks.{account_held}
use Rattle.table.specs.Steps as Steps
use Rattle.table.specs.Steps.{After, refused, reply_refused, enrol_checked, join_checked, leave_checked, turn_checked, challenge_for, compared}
use Rattle.reached.specs.Calls.{Call, checked_answer, replied_answer}
use Rattle.reached.specs.Offered.{Offered, new_values_checked, offer_checked, present_in, next_of, offers}
use Rattle.reached.specs.OfferedLaws.{offer-offers, renewal_offers}
use Rattle.reached.specs.Made.{Made, PortGood}
use Rattle.reached.specs.Equal.{times, accounts_in}
use Rattle.reached.specs.RoomsFound.{holds-times, accounts_free}
use Rattle.reached.specs.Outcome.{turn_good}
use Rattle.grounds.specs.Conditions.{Row, algorithm_rows, seed_rows, values_rows, turn_rows, is_third, wrong_rows, conditions_of}
use Rattle.grounds.specs.Exactly.{listed_as, Follows, no_rows, behind, behind_test, then_check, then_test}
use Rattle.grounds.specs.Refusing.{answer_checked, written_checked, algorithm_rows_lem, seed_rows_lem, values_rows_lem, not-leb, room_rows_lem}
use Rattle.grounds.specs.Keeps.{held_good, account_good, has_turn_lem}
use Rattle.grounds.specs.Answering.{seed_checked_lem}

-- ---- the paper's words, in such tables

-- "account used up: stored count 1"
used_up : (count : ℕ) → 1 ≤ count → not (ltb 1 count) ≡ eqb count 1
used_up count h =
    cases (ltb 1 count)
    (λ e. let more = ltb-true 1 count e in ap not e ∙ sym (ne_eqb count 1 (λ q. omega arith)))
    (λ e. let few = ltb-false 1 count e in ap not e ∙ sym (eq-eqb count 1 (omega arith)))

-- "53 is given exactly when 32 accounts are there"
full : (rooms : List Held) → length rooms ≡ 32 → not (holds 0 rooms) ≡ eqb (accounts_in rooms) 32
full rooms h =
    let all = accounts_free rooms in
    ap not (holds-times 0 rooms)
    ∙ cases (ltb 0 (times 0 rooms))
    (λ e. let some = ltb-true 0 (times 0 rooms) e in ap not e ∙ sym (ne_eqb (accounts_in rooms) 32 (λ q. omega arith)))
    (λ e. let none = ltb-false 0 (times 0 rooms) e in ap not e ∙ sym (eq-eqb (accounts_in rooms) 32 (omega arith)))

-- "third wrong in a row"
third : (p : Port) → PortGood p → leb 3 (p.wrong + 1) ≡ eqb p.wrong 2
third p h =
    let most = h.0 in
    cases (ltb p.wrong 2)
    (λ e.
    let few = ltb-true p.wrong 2 e in
    lt-leb 3 (p.wrong + 1) (omega arith) ∙ sym (ne_eqb p.wrong 2 (λ q. omega arith)))
    (λ e.
    let two = ltb-false p.wrong 2 e in
    le-leb 3 (p.wrong + 1) (omega arith) ∙ sym (eq-eqb p.wrong 2 (omega arith)))

-- ---- what a call refuses

abbrev settled_checked : After Checked → Checked
settled_checked a = answer_checked (checked_answer a.answer)

abbrev replied_checked : After Replied → Checked
replied_checked a = answer_checked (replied_answer a.answer)

-- ---- Enrol, Remove, Join, Leave

pub enrol_rows : (id number count : ℕ) (seed password : List ℕ) (s : State) → Made s
    → Follows (settled_checked (Steps.enrol id number count seed password s)) (conditions_of (Call.Enrol id number count seed password) s)
unfolding Steps.enrol enrol_checked
enrol_rows id number count seed password s m =
    behind settled_checked (refused s) (λ why. refl) _ _ (conditions_of (Call.Enrol id number count seed password) s) []
    (then_test (not (eqb id 0)) _ Refusal.IdZero _ _ (not-not (eqb id 0))
    (λ a. then_test (leb 2 count && leb count 9999) _ Refusal.CountOutside _ _ refl
    (λ b. then_check (algorithm_checked (numbered number)) _ (algorithm_rows number) _ (algorithm_rows_lem number)
    (λ c. then_check (seed_checked seed) _ (seed_rows seed) _ (seed_rows_lem seed)
    (λ d. then_test (not (is_there id s)) _ Refusal.IdTaken _ _ (not-not (is_there id s))
    (λ e. then_test (holds 0 s.rooms) _ Refusal.TableFull _ _ (full s.rooms m.room_count) (λ f. no_rows (Ok tt) refl)))))))
    (λ e. no_rows (Ok tt) refl)

pub remove_rows : (id : ℕ) (s : State) → Follows (settled_checked (Steps.remove id s)) (conditions_of (Call.Remove id) s)
unfolding Steps.remove
remove_rows id s =
    behind_test settled_checked (refused s) (λ why. refl) (is_there id s) _ Refusal.AccountMissing _ [] refl (λ e. no_rows (Ok tt) refl)

pub join_rows : (port id : ℕ) (s : State) → Made s → Follows (settled_checked (Steps.join port id s)) (conditions_of (Call.Join port id) s)
unfolding Steps.join join_checked
join_rows port id s m =
    behind settled_checked (refused s) (λ why. refl) _ _ (conditions_of (Call.Join port id) s) []
    (then_test (leb port 3) _ Refusal.PortUnknown _ _ (not-leb port 3)
    (λ a. then_test (is_there id s) _ Refusal.AccountMissing _ _ refl
    (λ b. then_test (not (waits port s)) _ Refusal.PortInLine _ _ (not-not (waits port s))
    (λ c. then_test (eqb (port_of port s).shut 0) _ Refusal.PortShut _ _ refl
    (λ d. then_test (ltb 1 (account_of id s).count) _ Refusal.AccountUsedUp _ _
    (used_up (account_of id s).count (account_good id s b m.good).count_from) (λ e. no_rows (Ok tt) refl))))))
    (λ e. no_rows (Ok tt) refl)

pub leave_rows : (port : ℕ) (s : State) → Follows (settled_checked (Steps.leave port s)) (conditions_of (Call.Leave port) s)
unfolding Steps.leave leave_checked
leave_rows port s =
    behind settled_checked (refused s) (λ why. refl) _ _ (conditions_of (Call.Leave port) s) []
    (then_test (leb port 3) _ Refusal.PortUnknown _ _ (not-leb port 3)
    (λ a. then_test (waits port s) _ Refusal.PortNotInLine _ _ refl (λ b. no_rows (Ok tt) refl)))
    (λ e. no_rows (Ok tt) refl)

-- ---- Challenge, and Offer, also of a renewal

-- No port in line meets 54.
turn_rows_lem : (port : ℕ) (s : State) → Made s → Follows (turn_checked port s) (turn_rows port s)
unfolding turn_checked
turn_rows_lem port s m =
    then_test (leb port 3) _ Refusal.PortUnknown _ _ (not-leb port 3)
    (λ a. then_test (waits port s) _ Refusal.PortNotInLine _ _ refl
    (λ b. then_test (has_turn port s) _ Refusal.PortNotInFront _ _ refl
    (λ c.
    let there = (has_turn_lem port s m c).1 in
    then_check (account_held (own_account port s)) _ [] _
    (no_rows _ (must-true Refusal.AccountMissing (ap not (ne_eqb (own_account port s).id 0 there))))
    (λ d. then_test (ltb 1 (own_account port s).count) _ Refusal.AccountUsedUp _ _
    (used_up (own_account port s).count (held_good (stands_at port s.rooms) s m.good there).count_from) (λ e. no_rows (Ok tt) refl)))))

-- The challenge writer's own checks, 23, 24 and 13, find nothing wrong with a good account.
pub challenge_rows_lem : (port room : ℕ) (s : State) → Made s
    → Follows (written_checked (Steps.challenge port room s)) (conditions_of (Call.Challenge port room) s)
unfolding Steps.challenge challenge_written_by
challenge_rows_lem port room s m =
    behind written_checked Err (λ why. refl) (turn_checked port s) _ (turn_rows port s) _ (turn_rows_lem port s m)
    (λ e.
    let seed = (own_account port s).seed in
    let count = (own_account port s).count - 1 in
    let good = held_good (stands_at port s.rooms) s m.good (turn_good port s e).there in
    let most = good.count_to in
    let low : count ≤ 9999 = omega arith in
    rw (seed_checked_lem seed good.seeds.0, le-ltb 9999 count low) (room_rows_lem room (challenge_for port s)))

compared_rows : (port password : ℕ) (next : Room) (s : State) → Made s → Follows (replied_checked (compared port password next s)) (wrong_rows port password s)
unfolding Follows compared
compared_rows port password next s m rest =
    go (eqb (hash (own_account port s).algorithm (bytes_of password)) (own_account port s).password) (is_third port s)
    (third (port_of port s) (each_get PortGood s.ports port fresh_port m.runs (omega arith, omega arith)))
  where
    go : (t u : Bool) → leb 3 ((port_of port s).wrong + 1) ≡ u
        → unless listed_as (replied_checked (cond t (Steps.accepted port next s) (Steps.rejected port s))) rest
        ≡ cond (not t && not u) 61 (cond (not t && u) 62 rest)
    go true u e = refl
    go false true e = ap (λ (b : Bool). listed_as (cond b Refusal.ReplyWrongThird Refusal.ReplyWrong)) e
    go false false e = ap (λ (b : Bool). listed_as (cond b Refusal.ReplyWrongThird Refusal.ReplyWrong)) e

-- What is offered: the turn's rows, those of new values, and of a wrong password.
offers-rows : (port : ℕ) (what : Offered) (rows : List Row) (s : State) → Made s → Follows (new_values_checked what (own_account port s)) rows
    → Follows (replied_checked (offers port what s)) (turn_rows port s ++ (rows ++ wrong_rows port (present_in what) s))
unfolding offers
offers-rows port what rows s m f =
    behind replied_checked (reply_refused s) (λ why. refl) (offer_checked port what s) _ (turn_rows port s ++ rows) _
    (then_check (turn_checked port s) _ (turn_rows port s) rows (turn_rows_lem port s m) (λ e. f))
    (λ e. compared_rows port (present_in what) (next_of what (own_account port s)) s m)

pub offer_rows : (port password : ℕ) (s : State) → Made s
    → Follows (replied_checked (Steps.offer port password s)) (conditions_of (Call.Offer port password) s)
offer_rows port password s m =
    subst (λ (a : After Replied). Follows (replied_checked a) (conditions_of (Call.Offer port password) s)) (sym (offer-offers port password s))
    (offers-rows port (Offered.Login password) [] s m (no_rows (Ok tt) refl))

pub renewal_rows : (port number count : ℕ) (seed : List ℕ) (new password : ℕ) (s : State) → Made s
    → Follows (replied_checked (Steps.offer_renewal port number count seed new password s))
    (conditions_of (Call.OfferRenewal port number count seed new password) s)
renewal_rows port number count seed new password s m =
    subst (λ (a : After Replied). Follows (replied_checked a) (conditions_of (Call.OfferRenewal port number count seed new password) s))
    (sym (renewal_offers port number count seed new password s))
    (offers-rows port (Offered.Renewal number count seed new password) (values_rows number count seed (own_account port s)) s m
    (values_rows_lem number count seed (own_account port s)))
