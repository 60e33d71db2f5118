-- Each call answers equal tables equally and leaves them equal: the room that an account stands in isn't seen.
use Rattle.std.specs.Prelude.{ℕ, ◌-◌, ◌≤◌, ◌<◌, ◌≡◌, false, cond, not, ◌&&◌, List, [], ◌∷◌, map, ltb, length, get_or, set, Ok, Err}
use Rattle.std.proofs.Math.Path.{refl, sym, ap, ap₂, subst}
use Rattle.std.proofs.Common.{◌∙◌, true≢false, arith, eq-eqb, ne_eqb, lt-ltb, ltb-true, ltb-false}
use Rattle.std.proofs.Math.Bool.{Bool, true, false≢true}
use Rattle.std.proofs.Math.Option
use Rattle.std.proofs.Math.Option.{Option, none, some}
use Rattle.std.proofs.Math.Decide.{ℕ_discrete}
use Rattle.std.proofs.lemmas.Bool.{eqb-false, not-true}
use Rattle.std.proofs.Math.Dec.{eqb}
use Rattle.std.proofs.Math.ListN.{get_or-eq_default}
use Rattle.refusal.specs.declared.Refusal.{Refusal}
use Rattle.refusal.specs.Answers.{Checked}
use Rattle.refusal.specs.Checks.{must, unless, in_order}
use Rattle.refusal.specs.Each.{each_get}
use Rattle.refusal.specs.Laws.{must_good, both_good}
use Rattle.text.specs.Tests.{both}
use Rattle.password.specs.PhraseAndSeed.{seed_checked}
use Rattle.password.specs.Algorithm.{numbered, algorithm_checked}
use Rattle.password.specs.Password.{hash, bytes_of}
use Rattle.challenge.specs.Challenges.{challenge_written_by}
use Rattle.line.specs.Line as Line
use Rattle.line.specs.Line.{Waiting, stands_in, front_of, joined, left, ticked}
use Rattle.port.specs.declared.Port.{Port}
use Rattle.port.specs.Port.{wrong_answer}
use Rattle.accounts.specs.Rooms.{Room}
use Rattle.accounts.specs.Accounts.{count_within, new_room}
use Rattle.table.specs.Table.{
  State,
  Held,
  free_room,
  place_of,
  holds,
  is_there,
  room_at,
  held_of,
  account_of,
  port_of,
  stands_at,
  waits,
  own_room,
  own_account,
  is_front,
  lined,
}
use Rattle.table.specs.TableChecks.{id_given, account_held, port_known, port_open, not_used_up}
use Rattle.table.specs.Steps as steps
use Rattle.table.specs.Steps.{enrol_checked, join_checked, leave_checked, turn_checked}
use Rattle.table.specs.StepLaws.{enrol_passed}
use Rattle.reached.specs.Made.{Idle}
use Rattle.reached.specs.Offered.{Offered, new_values_checked, offer_checked, present_in, next_of, offers}
use Rattle.reached.specs.OfferedLaws.{next_id, offer-offers, renewal_offers}
use Rattle.reached.specs.Equal.{account_by, SameAccounts, Equal, Alike, times, Housed}
use Rattle.reached.specs.RoomsFound.{
  holds-times,
  placed_id,
  account_by_lem,
  found_none,
  found_placed,
  found_is,
  set_other,
  set_here,
  times-set,
  accounts_free,
  same_count,
}
use Rattle.reached.specs.RoomsChanged.{there_parts}
use Rattle.reached.specs.LinesChanged.{stands_found, stands_once, placed_own, lined_by, joins_in}
use Rattle.reached.specs.Outcome.{TurnGood, join_good, turn_good}

-- ---- the room of a port

module _ (port : ℕ) (s : State) (h : Housed s) (w : waits port s ≡ true) where
  -- The port stands in its line.
  own_stands : stands_in port (own_room port s).line ≡ true
  own_stands = stands_found port s.rooms (ltb-true (stands_at port s.rooms) (length s.rooms) w)

  -- It isn't free, since nobody waits there.
  own_taken : (own_room port s).account.id ≡ 0 → ⊥
  unfolding Line.some
  own_taken z =
      let none-waits = each_get Idle s.rooms (stands_at port s.rooms) free_room h.idle (λ e. refl) z in
      false≢true (sym (ap (stands_in port) none-waits) ∙ own_stands)

  -- So its account is the one that its id finds.
  own_placed : place_of (own_room port s).account.id s.rooms ≡ stands_at port s.rooms
  own_placed = placed_own s.rooms (stands_at port s.rooms) h.once own_taken

  -- And by that id what is found is what its room holds.
  own_by : account_by (own_room port s).account.id s.rooms ≡ some (own_room port s)
  own_by =
      account_by_lem (own_room port s).account.id s.rooms
      ∙ ap (λ (k : ℕ). cond (ltb k (length s.rooms)) (some (get_or s.rooms k free_room)) none) own_placed
      ∙ ap (λ (b : Bool). cond b (some (own_room port s)) none) w

  -- In a table with the same accounts it is found by that id, and there the port stands.
  own_found : (t : State) → Housed t → SameAccounts s.rooms t.rooms → (waits port t ≡ true) × (own_room port s ≡ own_room port t)
  own_found t k same =
      let id = (own_room port s).account.id in
      let found = sym (same id own_taken) ∙ own_by in
      let is-own = found_is id t.rooms (own_room port s) found in
      let stands : stands_in port (get_or t.rooms (place_of id t.rooms) free_room).line ≡ true =
      ap (λ (x : Held). stands_in port x.line) is-own ∙ own_stands in
      let here = stands_once port (place_of id t.rooms) t.rooms k.single stands in (
        ap (λ (n : ℕ). ltb n (length t.rooms)) here ∙ lt-ltb (place_of id t.rooms) (length t.rooms) (found_placed id t.rooms (own_room port s) found),
        sym (ap (λ (n : ℕ). get_or t.rooms n free_room) here ∙ is-own),
      )

-- A port that isn't in line has no room.
own_none : (port : ℕ) (s : State) → waits port s ≡ false → own_room port s ≡ free_room
own_none port s w = get_or-eq_default s.rooms free_room (ltb-false (stands_at port s.rooms) (length s.rooms) w)

-- Whether it is in line or not, tables with the same accounts say the same of it.
pub own_same : (port : ℕ) (s t : State) → Housed s → Housed t → SameAccounts s.rooms t.rooms
    → (waits port s ≡ waits port t) × (own_room port s ≡ own_room port t)
own_same port s t h k same = by (waits port s) (waits port t) refl refl
  where
    by : (b c : Bool) → waits port s ≡ b → waits port t ≡ c → (waits port s ≡ waits port t) × (own_room port s ≡ own_room port t)
    by true c w v = let found = own_found port s h w t k same in (w ∙ sym found.0, found.1)
    by false true w v = absurd (true≢false (sym (own_found port t k v s h (λ id g. sym (same id g))).0 ∙ w))
    by false false w v = (w ∙ sym v, own_none port s w ∙ sym (own_none port t v))

-- ---- two tables

-- An account was found.
is_some : Option Held → Bool
is_some none = false
is_some (some held) = true

some_is : (b : Bool) (held : Held) → is_some (cond b (some held) none) ≡ b
unfolding is_some
some_is true held = refl
some_is false held = refl

-- Two tables whose ports are the same, with other rooms.
abbrev pub table : List Port → List Held → State
table ports rooms = record { rooms = rooms; ports = ports }

-- Alike, where the rooms are alike.
alike : {A : Type 0} (a : A) (P : List Port) (l m : List Held) → SameAccounts l m
    → Alike (record { answer = a; state = table P l }) (record { answer = a; state = table P m })
alike a P l m h = record { answer = refl; state = record { accounts = h; ports = refl } }

-- Every line changes.
lined_same : (change : Waiting → Waiting) (l m : List Held) → SameAccounts l m → SameAccounts (map (lined change) l) (map (lined change) m)
lined_same change l m h id g = lined_by change id l ∙ ap (Option.map (lined change)) (h id g) ∙ sym (lined_by change id m)

module _ (P : List Port) (l m : List Held) (h : SameAccounts l m) (a : Housed (table P l)) (b : Housed (table P m)) where
  abbrev s : State
  s = table P l

  abbrev t : State
  t = table P m

  -- ---- what is looked up

  -- An account, with its line, is there in both or in neither, and the same.
  holds_same : (id : ℕ) → (id ≡ 0 → ⊥) → holds id l ≡ holds id m
  holds_same id g =
      sym (some_is (holds id l) (get_or l (place_of id l) free_room)) ∙ ap is_some (sym (account_by_lem id l) ∙ h id g ∙ account_by_lem id m)
      ∙ some_is (holds id m) (get_or m (place_of id m) free_room)

  there_same : (id : ℕ) → is_there id s ≡ is_there id t
  there_same id = by (ℕ_discrete id 0)
    where
      by : Dec (id ≡ 0) → is_there id s ≡ is_there id t
      by (yes e) = rw (eq-eqb id 0 e)
      by (no g) = ap (λ (b : Bool). not (eqb id 0) && b) (holds_same id g)

  held_same : (id : ℕ) → is_there id s ≡ true → held_of id s ≡ held_of id t
  held_same id e =
      let given = both (not (eqb id 0)) (holds id l) e in
      let nonzero : id ≡ 0 → ⊥ = λ z. eqb-false id 0 (not-true (eqb id 0) given.0) z in
      sym (found_is id m (held_of id s)
      (sym (h id nonzero) ∙ account_by_lem id l ∙ ap (λ (b : Bool). cond b (some (held_of id s)) none) given.1))

  -- A port is in line in both or in neither, and its room holds the same.
  waits_same : (port : ℕ) → waits port s ≡ waits port t
  waits_same port = (own_same port s t a b h).0

  room_same : (port : ℕ) → own_room port s ≡ own_room port t
  room_same port = (own_same port s t a b h).1

  -- ---- the checks

  -- "53 is given exactly when 32 accounts are there", so in both or in neither.
  free_same : holds 0 l ≡ holds 0 m
  free_same =
      let free : times 0 l ≡ times 0 m = omega (arith, accounts_free l, accounts_free m, a.all, b.all, same_count l m a.once b.once h) in
      holds-times 0 l ∙ ap (ltb 0) free ∙ sym (holds-times 0 m)

  -- So each call's checks say the same of both.
  enrol_check : (id number count : ℕ) (seed : List ℕ) → enrol_checked id number count seed s ≡ enrol_checked id number count seed t
  unfolding enrol_checked
  enrol_check id number count seed =
      ap₂ (λ (a b : Bool). in_order (id_given id ∷ count_within count ∷ algorithm_checked (numbered number) ∷ seed_checked seed
      ∷ must (not a) Refusal.IdTaken ∷ must b Refusal.TableFull ∷ []))
      (there_same id) free_same

  -- A check that looks at an account, where it is there, and at its count.
  count-check : (check : Bool → ℕ → Checked) → ((n k : ℕ) → check false n ≡ check false k) → (id : ℕ)
      → check (is_there id s) (account_of id s).count ≡ check (is_there id t) (account_of id t).count
  count-check check missing id = by (is_there id s) refl
    where
      by : (b : Bool) → is_there id s ≡ b → check (is_there id s) (account_of id s).count ≡ check (is_there id t) (account_of id t).count
      by true e = ap₂ check (there_same id) (ap (λ (x : Held). x.account.count) (held_same id e))
      by false e =
          ap (λ (b : Bool). check b (account_of id s).count) e ∙ missing _ _
          ∙ sym (ap (λ (b : Bool). check b (account_of id t).count) (sym (there_same id) ∙ e))

  join_check : (port id : ℕ) → join_checked port id s ≡ join_checked port id t
  unfolding join_checked
  join_check port id =
      count-check (λ there count. in_order (port_known port ∷ must there Refusal.AccountMissing ∷ must (not (waits port s)) Refusal.PortInLine
      ∷ port_open port s ∷ must (ltb 1 count) Refusal.AccountUsedUp ∷ []))
      (λ n k. refl) id
      ∙ ap (λ (w : Bool). in_order (port_known port ∷ must (is_there id t) Refusal.AccountMissing ∷ must (not w) Refusal.PortInLine
      ∷ port_open port t ∷ not_used_up (account_of id t) ∷ [])) (waits_same port)

  leave_check : (port : ℕ) → leave_checked port s ≡ leave_checked port t
  unfolding leave_checked
  leave_check port = ap (λ (w : Bool). in_order (port_known port ∷ must w Refusal.PortNotInLine ∷ [])) (waits_same port)

  turn_check : (port : ℕ) → turn_checked port s ≡ turn_checked port t
  unfolding turn_checked
  turn_check port =
      ap₂ (λ (w : Bool) (own : Held). in_order (port_known port ∷ must w Refusal.PortNotInLine
      ∷ must (is_front port (front_of own.line)) Refusal.PortNotInFront ∷ account_held own.account ∷ not_used_up own.account ∷ []))
      (waits_same port) (room_same port)

  offers_check : (port : ℕ) (what : Offered) → offer_checked port what s ≡ offer_checked port what t
  offers_check port what =
      ap₂ (λ (k : Checked) (own : Held). unless Err k (new_values_checked what own.account))
      (turn_check port) (room_same port)

  -- ---- what is set

  -- An account is put, in place of one with its id or of none.
  put_same : (held : Held) (k j : ℕ) → k < length l → j < length m → k ≤ place_of held.account.id l → j ≤ place_of held.account.id m
      → ((id : ℕ) → (id ≡ 0 → ⊥) → (held.account.id ≡ id → ⊥) → (get_or l k free_room).account.id ≡ id → ⊥)
      → ((id : ℕ) → (id ≡ 0 → ⊥) → (held.account.id ≡ id → ⊥) → (get_or m j free_room).account.id ≡ id → ⊥)
      → SameAccounts (set l k held) (set m j held)
  put_same held k j a b c d u v id g = by (ℕ_discrete held.account.id id)
    where
      by : Dec (held.account.id ≡ id) → account_by id (set l k held) ≡ account_by id (set m j held)
      by (yes e) =
          subst (λ (i : ℕ). account_by i (set l k held) ≡ account_by i (set m j held)) e
          (set_here held l k a c ∙ sym (set_here held m j b d))
      by (no n) = set_other held id l k (u id g n) n ∙ h id g ∙ sym (set_other held id m j (v id g n) n)

  -- In place of the one with its id.
  kept_same : (held : Held) (k j : ℕ) → (held.account.id ≡ 0 → ⊥) → k < length l → j < length m
      → (get_or l k free_room).account.id ≡ held.account.id → (get_or m j free_room).account.id ≡ held.account.id
      → SameAccounts (set l k held) (set m j held)
  kept_same held k j g at to e d =
      put_same held k j at to
      (omega (arith, placed_own l k a.once (λ z. g (sym e ∙ z)), ap (λ (i : ℕ). place_of i l) e))
      (omega (arith, placed_own m j b.once (λ z. g (sym d ∙ z)), ap (λ (i : ℕ). place_of i m) d))
      (λ i f o w. o (sym e ∙ w)) (λ i f o w. o (sym d ∙ w))

  -- An account is taken away.
  taken_same : (id k j : ℕ) → (id ≡ 0 → ⊥) → k < length l → j < length m → (get_or l k free_room).account.id ≡ id → (get_or m j free_room).account.id ≡ id
      → SameAccounts (set l k free_room) (set m j free_room)
  taken_same id k j g at to c d i n = by (ℕ_discrete id i)
    where
      gone : (r : List Held) (p : ℕ) → p < length r → (get_or r p free_room).account.id ≡ id → times id r ≤ 1 → account_by id (set r p free_room) ≡ none
      gone r p q e o =
          let was : ◌≡◌ {A = ℕ} (cond (eqb (get_or r p free_room).account.id id) 1 0) 1 = ap (λ (b : Bool). cond b 1 0) (eq-eqb _ id e) in
          let none' : ◌≡◌ {A = ℕ} (cond (eqb 0 id) 1 0) 0 = ap (λ (b : Bool). cond b 1 0) (ne_eqb 0 id (λ z. g (sym z))) in
          found_none id (set r p free_room) (omega (arith, times-set free_room id r p q))

      by : Dec (id ≡ i) → account_by i (set l k free_room) ≡ account_by i (set m j free_room)
      by (yes e) =
          subst (λ (x : ℕ). account_by x (set l k free_room) ≡ account_by x (set m j free_room)) e
          (gone l k at c (a.once id g) ∙ sym (gone m j to d (b.once id g)))
      by (no o) =
          set_other free_room i l k (λ e. o (sym c ∙ e)) (λ e. n (sym e)) ∙ h i n
          ∙ sym (set_other free_room i m j (λ e. o (sym d ∙ e)) (λ e. n (sym e)))

  -- ---- the calls

  -- Behind checks that say the same of both tables, whatever kind the answer is.
  checked_alike : {A : Type 0} (refuse : Refusal → A) (j k : Checked) → j ≡ k → (next other : steps.After A) → (j ≡ Ok tt → Alike next other)
      → Alike (unless (λ why. record { answer = refuse why; state = s }) j next) (unless (λ why. record { answer = refuse why; state = t }) k other)
  checked_alike refuse (Ok _) k e next other f =
      subst (λ (c : Checked). Alike next (unless (λ why. record { answer = refuse why; state = t }) c other)) e (f refl)
  checked_alike refuse (Err why) k e next other f =
      subst (λ (c : Checked). Alike (record { answer = refuse why; state = s }) (unless (λ why. record { answer = refuse why; state = t }) c other)) e
      (alike (refuse why) P l m h)

  -- A port that joins finds room in both, and its account's line is the same.
  joins_equal : (port id : ℕ) → join_checked port id s ≡ Ok tt → Equal (steps.joins port id s) (steps.joins port id t)
  joins_equal port id e =
      let good = join_good port id s e in
      let there = there_parts id l good.1 in
      let other = there_parts id m (sym (there_same id) ∙ good.1) in
      let own = placed_id id l there.1 in
      let put : SameAccounts (set l (place_of id l) (lined (joined port) (held_of id s))) (set m (place_of id m) (lined (joined port) (held_of id t))) =
      subst (λ (x : Held). SameAccounts (set l (place_of id l) (lined (joined port) (held_of id s))) (set m (place_of id m) (lined (joined port) x)))
      (held_same id good.1)
      (kept_same (lined (joined port) (held_of id s)) (place_of id l) (place_of id m) (λ z. there.0 (sym own ∙ z)) there.1 other.1 refl
      (placed_id id m other.1 ∙ sym own)) in
      rw (
        joins_in port id s good.0 good.2 a.known a.single,
        joins_in port id t good.0 (sym (waits_same port) ∙ good.2) b.known b.single,
      ) (record { accounts = put; ports = refl })

  pub join_alike : (port id : ℕ) → Alike (steps.join port id s) (steps.join port id t)
  unfolding steps.join
  join_alike port id =
      checked_alike Err _ _ (join_check port id) _ _ (λ e. record { answer = refl; state = joins_equal port id e })

  pub leave_alike : (port : ℕ) → Alike (steps.leave port s) (steps.leave port t)
  unfolding steps.leave
  leave_alike port =
      checked_alike Err _ _ (leave_check port) _ _ (λ e. alike (Ok tt) P _ _ (lined_same (left port) l m h))

  pub challenge_same : (port room : ℕ) → steps.challenge port room s ≡ steps.challenge port room t
  unfolding steps.challenge
  challenge_same port room =
      ap₂ (λ (k : Checked) (own : Held). unless Err k
      (challenge_written_by true own.account.algorithm own.account.seed (own.account.count - 1) room))
      (turn_check port) (room_same port)

  pub tick_equal : Equal (steps.tick s) (steps.tick t)
  unfolding steps.tick
  tick_equal = record { accounts = lined_same ticked l m h; ports = refl }

  -- What is compared for the account whose turn it is.
  compared_alike : (port password : ℕ) (next : Room) → TurnGood port s → next.id ≡ (own_account port s).id
      → Alike (steps.compared port password next s) (steps.compared port password next t)
  unfolding steps.compared
  compared_alike port password next g n =
      subst (λ (b : Bool). Alike (cond right (steps.accepted port next s) (steps.rejected port s))
      (cond b (steps.accepted port next t) (steps.rejected port t)))
      (ap (λ (x : Held). eqb (hash x.account.algorithm (bytes_of password)) x.account.password) (room_same port)) (by right)
    where
      right : Bool
      right = eqb (hash (own_account port s).algorithm (bytes_of password)) (own_account port s).password

      at : stands_at port l < length l
      at = ltb-true (stands_at port l) (length l) g.inside

      to : stands_at port m < length m
      to = ltb-true (stands_at port m) (length m) (sym (waits_same port) ∙ g.inside)

      same_id : (own_account port t).id ≡ next.id
      same_id = ap (λ (x : Held). x.account.id) (sym (room_same port)) ∙ sym n

      put : SameAccounts (set l (stands_at port l) (record { account = next; line = (own_room port s).line }))
          (set m (stands_at port m) (record { account = next; line = (own_room port t).line }))
      put =
          subst (λ (x : Held). SameAccounts (set l (stands_at port l) (record { account = next; line = (own_room port s).line }))
          (set m (stands_at port m) (record { account = next; line = x.line })))
          (room_same port)
          (kept_same (record { account = next; line = (own_room port s).line }) (stands_at port l) (stands_at port m) (λ z. g.there (sym n ∙ z)) at to
          (sym n) same_id)

      by : (b : Bool) → Alike (cond b (steps.accepted port next s) (steps.rejected port s)) (cond b (steps.accepted port next t) (steps.rejected port t))
      by true = alike (Ok next.count) _ _ _ (lined_same (left port) _ _ put)
      by false = alike (Err (wrong_answer (port_of port s))) _ _ _ (lined_same (left port) l m h)

  -- What is offered: the account that comes of it is made from the present one.
  offers_alike : (port : ℕ) (what : Offered) → Alike (offers port what s) (offers port what t)
  unfolding offers
  offers_alike port what =
      checked_alike Err _ _ (offers_check port what) _ _
      (λ e.
      let g = turn_good port s (both_good (turn_checked port s) (new_values_checked what (own_account port s)) e).0 in
      subst (λ (x : Held). Alike (steps.compared port (present_in what) (next_of what (own_account port s)) s)
      (steps.compared port (present_in what) (next_of what x.account) t))
      (room_same port) (compared_alike port (present_in what) (next_of what (own_account port s)) g (next_id what (own_account port s))))

  pub offer_alike : (port password : ℕ) → Alike (steps.offer port password s) (steps.offer port password t)
  offer_alike port password = rw (offer-offers port password s, offer-offers port password t) (offers_alike port (Offered.Login password))

  pub renewal_alike : (port number count : ℕ) (seed : List ℕ) (new password : ℕ)
      → Alike (steps.offer_renewal port number count seed new password s) (steps.offer_renewal port number count seed new password t)
  renewal_alike port number count seed new password =
      rw (renewal_offers port number count seed new password s, renewal_offers port number count seed new password t)
      (offers_alike port (Offered.Renewal number count seed new password))

  pub remove_alike : (id : ℕ) → Alike (steps.remove id s) (steps.remove id t)
  unfolding steps.remove
  remove_alike id =
      checked_alike Err _ _ (ap (λ (b : Bool). must b Refusal.AccountMissing) (there_same id)) _ _
      (λ e.
      let at = there_parts id l (must_good _ _ e) in
      let to = there_parts id m (sym (there_same id) ∙ must_good _ _ e) in
      alike (Ok tt) P (set l (place_of id l) free_room) (set m (place_of id m) free_room)
      (taken_same id (place_of id l) (place_of id m) at.0 at.1 to.1 (placed_id id l at.1) (placed_id id m to.1)))

  pub enrol_alike : (id number count : ℕ) (seed password : List ℕ)
      → Alike (steps.enrol id number count seed password s) (steps.enrol id number count seed password t)
  unfolding steps.enrol
  enrol_alike id number count seed password =
      checked_alike Err _ _ (enrol_check id number count seed) _ _
      (λ e.
      let here = before l a e in
      let there = before m b (sym (enrol_check id number count seed) ∙ e) in
      alike (Ok tt) P _ _
      (subst (λ (w : Waiting). SameAccounts (set l (place_of 0 l) (new (room_at (place_of 0 l) s).line)) (set m (place_of 0 m) (new w)))
      (here.3 ∙ sym there.3)
      (put_same (new (room_at (place_of 0 l) s).line) (place_of 0 l) (place_of 0 m) here.0 there.0 here.1 there.1
      (λ i g o w. g (sym w ∙ here.2)) (λ i g o w. g (sym w ∙ there.2)))))
    where
      new : Waiting → Held
      new w = record { account = new_room id number count seed password; line = w }

      -- The first free room comes before any room that has the id, since none has it, and nobody waits there.
      before : (r : List Held) → Housed (table P r) → enrol_checked id number count seed (table P r) ≡ Ok tt
          → (place_of 0 r < length r) × (place_of 0 r ≤ place_of id r) × ((get_or r (place_of 0 r) free_room).account.id ≡ 0)
          × ((get_or r (place_of 0 r) free_room).line ≡ Line.empty)
      before r k e =
          let passed = enrol_passed id number count seed (table P r) e in
          let at : place_of 0 r < length r = ltb-true (place_of 0 r) (length r) passed.room in
          let none-held : holds id r ≡ false =
          sym (ap (λ (b : Bool). b && holds id r) passed.given) ∙ not-true (is_there id (table P r)) passed.new in (
            at,
            omega (arith, ltb-false (place_of id r) (length r) none-held),
            placed_id 0 r at,
            each_get Idle r (place_of 0 r) free_room k.idle (λ z. refl) (placed_id 0 r at),
          )
