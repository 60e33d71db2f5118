-- What a call of a turn looks at, and what becomes of it: TurnPartLaws ties it to the written steps, on the whole table.
use Rattle.std.specs.Prelude.{ℕ, Bool, true, false, cond, List, eqb, Ok, Err}
use Rattle.refusal.specs.declared.Refusal.{Refusal}
use Rattle.refusal.specs.Answers.{Checked}
use Rattle.refusal.specs.Checks.{unless}
use Rattle.password.specs.Password.{hash, bytes_of}
use Rattle.port.specs.declared.Port.{Port}
use Rattle.port.specs.Port.{wrongly, wrong_answer, rightly}
use Rattle.accounts.specs.Rooms.{Room, part_of, room_of}
use Rattle.accounts.specs.Accounts.{renewed_room, lowered, values_checked}
use Rattle.table.specs.Answers.{Replied}
use Rattle.table.specs.Table.{State, port_of, stands_at, own_account, with_account, with_port}
use Rattle.table.specs.Steps.{After, turn_checked, leaves}
use Rattle.turns.specs.declared.offering.TurnPart.{TurnPart}
use Rattle.turns.specs.declared.offering.Outcome.{Outcome}

-- The room in whose line the port stands, the account in that room, the port's own record, and what the turn's checks say.
pub record Seen : Type 0 where
  pub place : ℕ
  pub account : Room
  pub own : Port
  pub checked : Checked

-- What a turn's bytes mean, with those of the older seeds.
abbrev pub seen : TurnPart → List ℕ → Seen
seen t older = record { place = t.place; account = room_of t.account (part_of older t.place); own = t.own; checked = t.checked }

-- What a port's call sees of a table.
abbrev pub seen_by : ℕ → State → Seen
seen_by port s = record { place = stands_at port s.rooms; account = own_account port s; own = port_of port s; checked = turn_checked port s }

-- An answer, with what becomes of the account in that room and of the port's own record, and whether the port leaves its line.
pub record Said : Type 0 where
  pub place : ℕ
  pub account : Room
  pub own : Port
  pub leaves : Bool
  pub answer : Replied

abbrev pub outcome : Outcome → List ℕ → Said
outcome o older = record {
  place = o.place;
  account = room_of o.account (part_of older o.place);
  own = o.own;
  leaves = o.leaves;
  answer = o.answer;
}

-- The older seeds after an answer: others where it is accepted, and as they were where it isn't.
abbrev pub older_after : Replied → List ℕ → List ℕ → List ℕ
older_after (Ok count) older next = next
older_after (Err why) older next = older

-- The table with what became of the account and of the port.
abbrev pub put_back : ℕ → State → Said → State
put_back port s o =
    let changed = with_port port o.own (with_account o.place o.account s) in
    cond o.leaves (leaves port changed) changed

abbrev pub after : ℕ → State → Said → After Replied
after port s o = record { answer = o.answer; state = put_back port s o }

-- An answer that changes nothing, as a refusal.
abbrev pub stays : Replied → Seen → Said
stays answer t = record { place = t.place; account = t.account; own = t.own; leaves = false; answer = answer }

abbrev pub refused : Seen → Refusal → Said
refused t why = stays (Err why) t

-- What is offered is right, or it isn't.
abbrev pub accepted : Room → Seen → Said
accepted next t = record { place = t.place; account = next; own = rightly t.own; leaves = true; answer = Ok next.count }

abbrev pub rejected : Seen → Said
rejected t = record { place = t.place; account = t.account; own = wrongly t.own; leaves = true; answer = Err (wrong_answer t.own) }

unfoldable pub compared : ℕ → Room → Seen → Said
compared password next t =
    cond (eqb (hash t.account.algorithm (bytes_of password)) t.account.password) (accepted next t) (rejected t)

-- Offer, and Offer of a renewal: the checks, and then the comparison.
unfoldable pub logged_in : ℕ → Seen → Said
logged_in password t = unless (refused t) t.checked (compared password (lowered t.account password) t)

unfoldable pub renew_values : ℕ → ℕ → List ℕ → ℕ → ℕ → Seen → Said
renew_values number count seed new password t =
    unless (refused t) (values_checked number count seed t.account) (compared password (renewed_room t.account number count seed new) t)

unfoldable pub renewed : ℕ → ℕ → List ℕ → ℕ → ℕ → Seen → Said
renewed number count seed new password t = unless (refused t) t.checked (renew_values number count seed new password t)
