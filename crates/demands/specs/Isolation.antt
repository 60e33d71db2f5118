-- R-4, a line for each account: what calls in other lines leave alone, and what each call does to an account's line. `line_of i` is the line of
-- the account i, its ports, front first, and its turn.
use Rattle.std.specs.Prelude.{ℕ, ◌≡◌, true, false, List, [], Ok}
use Rattle.refusal.specs.declared.Refusal.{Refusal}
use Rattle.line.specs.Line.{empty, stands_in, joined, left, ticked}
use Rattle.accounts.specs.Accounts.{new_room}
use Rattle.table.specs.Table.{State, is_there, held_of, account_of, line_of, waits}
use Rattle.table.specs.Steps.{enrol, remove, join, leave, tick}
use Rattle.reached.specs.Calls.{Call, Answer, answer, after}
use Rattle.reached.specs.InTurn.{Reached, made_by, joins_for, elsewhere}
use Rattle.reached.specs.Offered.{Offered, Offers}
use Rattle.reached.specs.Day.{WrongReply}
use Rattle.grounds.specs.Keeps.{made}
use Rattle.grounds.specs.Isolated as Isolated

-- "Calls of ports in other lines change neither a line, its turn, nor its account": on any table, whatever a port calls that waits, and not in
-- this account's line. What the account's room holds is the account, its line and turn.
pub other_lines_stay : (s : State) (i port : ℕ) → is_there i s ≡ true → waits port s ≡ true → stands_in port (line_of i s) ≡ false
    → (c : Call) → made_by port c ≡ true → held_of i (after c s) ≡ held_of i s
other_lines_stay s i port there stands out c own = Isolated.waiting_stays s i port there stands out c own

-- So with a port that is in no line, unless it joins this account's.
pub out_of_line_stays : (s : State) (i port : ℕ) → is_there i s ≡ true → stands_in port (line_of i s) ≡ false
    → (c : Call) → made_by port c ≡ true → joins_for i c ≡ false → held_of i (after c s) ≡ held_of i s
out_of_line_stays s i port there out c own other = Isolated.call_elsewhere s i there c (Isolated.out_elsewhere s i port out c own other)

-- And with Enrol, Remove of another account and Join for another one, whoever makes them: all that is elsewhere.
pub elsewhere_stays : (s : State) (i : ℕ) → is_there i s ≡ true → (c : Call) → elsewhere i s c ≡ true → held_of i (after c s) ≡ held_of i s
elsewhere_stays s i there c e = Isolated.call_elsewhere s i there c e

-- Join for this account, when it is done: a port of no line comes to the back. The turn is 60 then if nobody waited, and goes on otherwise.
pub join_goes_to_the_back : (s : State) → Reached s → (p i : ℕ) → (join p i s).answer ≡ Ok tt
    → (held_of i (join p i s).state ≡ record { account = account_of i s; line = joined p (line_of i s) })
    × ((line_of i s).ports ≡ [] → (line_of i (join p i s).state).turn ≡ 60)
    × (((line_of i s).ports ≡ [] → ⊥) → (line_of i (join p i s).state).turn ≡ (line_of i s).turn)
join_goes_to_the_back s r p i e =
    let turn = Isolated.joined_turn p i s (made s r) e in
    ((Isolated.joined_held p i s (made s r) e).0, turn.0, turn.1)

pub join_is_from_no_line : (s : State) (p i : ℕ) → (join p i s).answer ≡ Ok tt → (j : ℕ) → stands_in p (line_of j s) ≡ false
join_is_from_no_line s p i e j = Isolated.joined_from_none p i s e j

-- Leave, when it is done: the port is out of its line, and no account changes.
pub leave_leaves : (s : State) (p i : ℕ) → (leave p s).answer ≡ Ok tt
    → held_of i (leave p s).state ≡ record { account = account_of i s; line = left p (line_of i s) }
leave_leaves s p i e = Isolated.leave_held p i s e

-- So is a port whose password or renewal is accepted,
pub accepted_leaves : (s : State) (port n : ℕ) (what : Offered) (c : Call) → Offers port what c → answer c s ≡ Answer.Count n → (i : ℕ)
    → line_of i (after c s) ≡ left port (line_of i s)
accepted_leaves s port n what c own e i = Isolated.accepted_left port n what c s own e i

-- or wrong (61 and 62: `wrong_reply_changes`).
pub wrong_leaves : (s : State) (why : Refusal) (c : Call) (w : WrongReply why c s) (i : ℕ)
    → held_of i (after c s) ≡ record { account = account_of i s; line = left w.port (line_of i s) }
wrong_leaves s why c w i = Isolated.wrong_held why c s w i

-- "A tick lowers the turn of every line that isn't empty": of every account's, on any table; the account stays.
pub tick_lowers : (s : State) (i : ℕ) → held_of i (tick s) ≡ record { account = account_of i s; line = ticked (line_of i s) }
tick_lowers s i = Isolated.tick_held i s

-- "Remove empties that account's line"; "Every port in line for that account, the front one too, leaves it": the account isn't there then, and
-- each of them is in no line.
pub remove_empties : (s : State) → Reached s → (i : ℕ) → (remove i s).answer ≡ Ok tt
    → (is_there i (remove i s).state ≡ false)
    × ((port : ℕ) → stands_in port (line_of i s) ≡ true → waits port (remove i s).state ≡ false)
remove_empties s r i e = (
  (Isolated.removed_gone i s (made s r) e).0,
  λ port stood. Isolated.removed_out port i s (made s r) stood e,
)

-- Enrol: the account is the new one, and nobody waits for it yet.
pub enrol_begins_empty : (s : State) → Reached s → (i number count : ℕ) (seed password : List ℕ) → (enrol i number count seed password s).answer ≡ Ok tt
    → held_of i (enrol i number count seed password s).state ≡ record { account = new_room i number count seed password; line = empty }
enrol_begins_empty s r i number count seed password e = Isolated.enrolled_new i number count seed password s (made s r) e
