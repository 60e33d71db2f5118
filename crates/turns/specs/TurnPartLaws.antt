-- What is put back is what is written of the table: nothing where nothing was done, and what Offer does, also of a renewal.
use Rattle.std.specs.Prelude.{ℕ, ◌<◌, ◌≡◌, Bool, eqb, List, length, Ok, Err}
use Rattle.std.proofs.Math.Path.{refl}
use Rattle.std.proofs.Common.{ap, ◌∙◌}
use Rattle.std.proofs.Math.Bool.{true, false, cond}
use Rattle.std.proofs.lemmas.List.{set-get_or}
use Rattle.refusal.specs.declared.Refusal.{Refusal}
use Rattle.refusal.specs.Answers.{Checked}
use Rattle.refusal.specs.Checks.{unless}
use Rattle.password.specs.Password.{hash, bytes_of}
use Rattle.port.specs.Port.{wrongly, wrong_answer}
use Rattle.accounts.specs.declared.Account.{Account}
use Rattle.accounts.specs.Rooms.{Room, part_of}
use Rattle.accounts.specs.Accounts.{renewed_room, lowered, values_checked}
use Rattle.accounts.specs.OlderBytes.{remembering}
use Rattle.accounts.specs.Laws.{part_elsewhere}
use Rattle.table.specs.declared.Table.{Table}
use Rattle.table.specs.Answers.{Replied}
use Rattle.table.specs.Table.{State, view, free_room, fresh_port, stands_at, own_account, port_of, with_account, with_port}
use Rattle.table.specs.ViewLaws.{older_elsewhere}
use Rattle.table.specs.Steps as steps
use Rattle.table.specs.Steps.{After, turn_checked}
use Rattle.turns.specs.TurnPart.{
  Seen,
  Said,
  seen_by,
  older_after,
  after,
  refused,
  accepted,
  rejected,
  compared,
  logged_in,
  renew_values,
  renewed,
}

-- Where the older seeds of all other rooms are the same, it doesn't matter beside which the account is put back.
pub after_elsewhere : (port : ℕ) (t : Table) (older older' : List ℕ) (o : Said)
    → ((room : ℕ) → (room ≡ o.place → ⊥) → part_of older' room ≡ part_of older room)
    → after port (view t older') o ≡ after port (view t older) o
after_elsewhere port t older older' o f =
    ap (λ (s : State). record {
      answer = o.answer;
      state = cond o.leaves (steps.leaves port (with_port port o.own s)) (with_port port o.own s);
    }) (older_elsewhere t older older' o.place o.account f)

-- Where the older seeds are the same either way.
pub same_older : (r : Replied) (older : List ℕ) → older_after r older older ≡ older
same_older (Ok count) older = refl
same_older (Err why) older = refl

-- Only those of the turn's own room may be others.
pub older_after_lem : (r : Replied) (place : ℕ) (account : Account) (older : List ℕ) → place < 32 → length older ≡ 3808 → length account.seed ≡ 16
    → (room : ℕ) → (room ≡ place → ⊥) → part_of (older_after r older (remembering place account older)) room ≡ part_of older room
older_after_lem (Ok count) place account older h all e room d = part_elsewhere place account older h all e room d
older_after_lem (Err why) place account older h all e room d = refl

-- What is compared stays in the turn's room.
compared-place : (password : ℕ) (next : Room) (t : Seen) → (compared password next t).place ≡ t.place
unfolding compared
compared-place password next t = by (eqb (hash t.account.algorithm (bytes_of password)) t.account.password)
  where
    by : (b : Bool) → (cond b (accepted next t) (rejected t)).place ≡ t.place
    by true = refl
    by false = refl

-- So does a renewal.
pub renewed_place : (number count : ℕ) (seed : List ℕ) (new password : ℕ) (t : Seen) → (renew_values number count seed new password t).place ≡ t.place
unfolding renew_values
renewed_place number count seed new password t = by (values_checked number count seed t.account)
  where
    by : (k : Checked) → (unless (refused t) k (compared password (renewed_room t.account number count seed new) t)).place ≡ t.place
    by (Err why) = refl
    by (Ok _) = compared-place password (renewed_room t.account number count seed new) t

module _ (port : ℕ) (s : State) where
  -- The account where it was found.
  account_same : with_account (stands_at port s.rooms) (own_account port s) s ≡ s
  account_same = λ i. record { rooms = set-get_or s.rooms (stands_at port s.rooms) free_room i; ports = s.ports }

  -- A refusal changes no table.
  after-refused : (why : Refusal) → after port s (refused (seen_by port s) why) ≡ steps.reply_refused s why
  after-refused why =
      λ i. record { answer = Err why; state = record { rooms = (account_same i).rooms; ports = set-get_or s.ports port fresh_port i } }

  after-rejected : after port s (rejected (seen_by port s)) ≡ steps.rejected port s
  after-rejected =
      ap (λ (s' : State). record {
        answer = Err (wrong_answer (port_of port s));
        state = steps.leaves port (with_port port (wrongly (port_of port s)) s');
      }) account_same

  -- What is compared with the stored password.
  after-compared : (password : ℕ) (next : Room)
      → after port s (compared password next (seen_by port s)) ≡ steps.compared port password next s
  unfolding compared steps.compared
  after-compared password next = by (eqb (hash (own_account port s).algorithm (bytes_of password)) (own_account port s).password)
    where
      by : (b : Bool) → after port s (cond b (accepted next (seen_by port s)) (rejected (seen_by port s)))
          ≡ cond b (steps.accepted port next s) (steps.rejected port s)
      by true = refl
      by false = after-rejected

  -- A check, and what is done behind it.
  after-unless : (k : Checked) (o : Said) (a : After Replied) → after port s o ≡ a
      → after port s (unless (refused (seen_by port s)) k o) ≡ unless (steps.reply_refused s) k a
  after-unless (Ok _) o a e = e
  after-unless (Err why) o a e = after-refused why

  pub after-offer : (password : ℕ) → after port s (logged_in password (seen_by port s)) ≡ steps.offer port password s
  unfolding logged_in steps.offer
  after-offer password =
      let next = lowered (own_account port s) password in
      after-unless (turn_checked port s) (compared password next (seen_by port s)) (steps.compared port password next s) (after-compared password next)

  -- A renewal's checks: the turn's, and then those of the values.
  both_checked : (turn values : Checked) (a : After Replied)
      → unless (steps.reply_refused s) turn (unless (steps.reply_refused s) values a) ≡ unless (steps.reply_refused s) (unless Err turn values) a
  both_checked (Ok _) values a = refl
  both_checked (Err why) values a = refl

  pub after_renewal : (number count : ℕ) (seed : List ℕ) (new password : ℕ)
      → after port s (renewed number count seed new password (seen_by port s)) ≡ steps.offer_renewal port number count seed new password s
  unfolding renewed renew_values steps.offer_renewal steps.renew_checked values_checked
  after_renewal number count seed new password =
      let next = renewed_room (own_account port s) number count seed new in
      let values = values_checked number count seed (own_account port s) in
      let done = steps.compared port password next s in
      after-unless (turn_checked port s) (renew_values number count seed new password (seen_by port s)) (unless (steps.reply_refused s) values done)
      (after-unless values (compared password next (seen_by port s)) done (after-compared password next))
      ∙ both_checked (turn_checked port s) values done
