-- The written steps, one for each call: document 01, 'Table, ports and turns', in its order and words; document 02, R-1, R-4, R-5, R-6 and R-7.
use Rattle.std.specs.Prelude.{ℕ, ◌-◌, true, cond, List, [], ◌∷◌, map, eqb, ltb, length, Ok, Err}
use Rattle.refusal.specs.declared.Refusal.{Refusal}
use Rattle.refusal.specs.declared.Listing.{Listing}
use Rattle.refusal.specs.Answers.{Checked, Written}
use Rattle.refusal.specs.Numbers.{listing_of, unrefused}
use Rattle.refusal.specs.Checks.{unless, in_order}
use Rattle.password.specs.PhraseAndSeed.{seed_checked}
use Rattle.password.specs.Algorithm.{numbered, algorithm_checked}
use Rattle.password.specs.Password.{hash, bytes_of}
use Rattle.challenge.specs.Challenges.{challenge_text, challenge_written_by}
use Rattle.line.specs.Line.{joined, left, ticked}
use Rattle.port.specs.Port.{wrongly, wrong_answer, rightly, cooled}
use Rattle.table.specs.Answers.{Replied}
use Rattle.table.specs.declared.Settled.{Settled}
use Rattle.table.specs.declared.Answered.{Answered}
use Rattle.accounts.specs.Rooms.{Room}
use Rattle.accounts.specs.Accounts.{count_within, new_room, renewed_room, lowered, seed_other}
use Rattle.table.specs.Table.{
  State,
  view,
  free_room,
  place_of,
  account_of,
  line_of,
  port_of,
  in_lines,
  stands_at,
  own_account,
  with_room,
  with_account,
  with_line,
  with_port,
  each_line,
}
use Rattle.table.specs.TableChecks.{
  id_given,
  id_new,
  room_left,
  account_there,
  account_held,
  port_known,
  not_in_line,
  port_open,
  not_used_up,
  in_line,
  in_front,
}

-- What a call answers, and the table after it.
pub record After (A : Type 0) : Type 0 where
  pub answer : A
  pub state : State

-- What the results' bytes mean.
abbrev pub settled : Settled → List ℕ → After Checked
settled r older = record { answer = r.answer; state = view r.table older }

abbrev pub answered : Answered → List ℕ → After Replied
answered r older = record { answer = r.answer; state = view r.table older }

-- The number and value of what an offer is answered: the new count.
abbrev pub replied_numbers : Replied → Listing × ℕ
replied_numbers (Ok count) = (unrefused, count)
replied_numbers (Err why) = (listing_of why, 0)

-- "A refusal .. changes no buffer and no table."
abbrev pub refused : State → Refusal → After Checked
refused s why = record { answer = Err why; state = s }

abbrev pub reply_refused : State → Refusal → After Replied
reply_refused s why = record { answer = Err why; state = s }

abbrev pub done : State → After Checked
done s = record { answer = Ok tt; state = s }

-- Enrol: 50, 51, then R-1's 21 "after 51", 23, 24, 52, 53. The first free room is taken. The algorithm is given by its number. The
-- account remembers the one seed.
unfoldable pub enrol_checked : ℕ → ℕ → ℕ → List ℕ → State → Checked
enrol_checked id number count seed s =
    in_order (id_given id ∷ count_within count ∷ algorithm_checked (numbered number) ∷ seed_checked seed ∷ id_new id s ∷ room_left s ∷ [])

unfoldable pub enrol : ℕ → ℕ → ℕ → List ℕ → List ℕ → State → After Checked
enrol id number count seed password s =
    unless (refused s) (enrol_checked id number count seed s)
    (done (with_account (place_of 0 s.rooms) (new_room id number count seed password) s))

-- Remove: 54. "Every port in line for that account, the front one too, leaves it"; R-4: "Remove empties that account's line." R-5:
-- "Remove forgets" its seeds.
unfoldable pub remove : ℕ → State → After Checked
remove id s = unless (refused s) (account_there id s) (done (with_room (place_of id s.rooms) free_room s))

-- Join: 55, 54, 56, 57, 58. "The port goes to the back" of the account's line. No call finds four in line without the port; in a
-- table that no calls make nobody more would come.
unfoldable pub join_checked : ℕ → ℕ → State → Checked
join_checked port id s =
    in_order (port_known port ∷ account_there id s ∷ not_in_line port s ∷ port_open port s ∷ not_used_up (account_of id s) ∷ [])

unfoldable pub joins : ℕ → ℕ → State → State
joins port id s = cond (ltb (length (in_lines s.rooms)) 4) (with_line (place_of id s.rooms) (joined port (line_of id s)) s) s

unfoldable pub join : ℕ → ℕ → State → After Checked
join port id s = unless (refused s) (join_checked port id s) (done (joins port id s))

-- "the port leaves": of all lines, since it is in one at most, only its own changes.
abbrev pub leaves : ℕ → State → State
leaves port s = each_line (left port) s

-- Leave: 55, 59.
unfoldable pub leave_checked : ℕ → State → Checked
leave_checked port s = in_order (port_known port ∷ in_line port s ∷ [])

unfoldable pub leave : ℕ → State → After Checked
leave port s = unless (refused s) (leave_checked port s) (done (leaves port s))

-- What Challenge and Offer, also of a renewal, check first: 55, 59, 60, 58, of the account in whose line the port stands. No call leaves a port in
-- line whose account isn't there; in such a table it is 54 before 58.
unfoldable pub turn_checked : ℕ → State → Checked
turn_checked port s =
    in_order (port_known port ∷ in_line port s ∷ in_front port s ∷ account_held (own_account port s) ∷ not_used_up (own_account port s) ∷ [])

-- Challenge: 55, 59, 60, 58, 40. "Writes stored count less 1 and the seed", for the account's algorithm; R-6: "writes ` ext` before
-- its newline". The text, and the answer on a buffer with so much room. The writer's own checks, 23, 24 and 13, fail in no table that calls make.
abbrev pub challenge_for : ℕ → State → List ℕ
challenge_for port s = challenge_text true (own_account port s).algorithm (own_account port s).seed ((own_account port s).count - 1)

unfoldable pub challenge : ℕ → ℕ → State → Written
challenge port room s =
    unless Err (turn_checked port s)
    (challenge_written_by true (own_account port s).algorithm (own_account port s).seed ((own_account port s).count - 1) room)

-- "Hash the password once", by the account's present algorithm. "If it equals the stored one" the account becomes `next`, the
-- port's wrong run is cleared and "the port leaves; the answer has the new count. If not: the port leaves and its wrong run
-- grows by 1, answer 61 [or] 62".
abbrev pub accepted : ℕ → Room → State → After Replied
accepted port next s = record {
  answer = Ok next.count;
  state = leaves port (with_port port (rightly (port_of port s)) (with_account (stands_at port s.rooms) next s));
}

abbrev pub rejected : ℕ → State → After Replied
rejected port s = record {
  answer = Err (wrong_answer (port_of port s));
  state = leaves port (with_port port (wrongly (port_of port s)) s);
}

unfoldable pub compared : ℕ → ℕ → Room → State → After Replied
compared port password next s =
    cond (eqb (hash (own_account port s).algorithm (bytes_of password)) (own_account port s).password)
    (accepted port next s) (rejected port s)

-- R-7, "offering a password to the table": "Offer checks 55, 59, 60, 58 .. and compares." On a match "store the reply, lower the count by 1".
unfoldable pub offer : ℕ → ℕ → State → After Replied
offer port password s = unless (reply_refused s) (turn_checked port s) (compared port password (lowered (own_account port s) password) s)

-- "for renewal the new values as before": 51, 21, 23, 24, 63, behind the turn's checks.
unfoldable pub renew_checked : ℕ → ℕ → ℕ → List ℕ → State → Checked
renew_checked port number count seed s =
    in_order (turn_checked port s ∷ count_within count ∷ algorithm_checked (numbered number) ∷ seed_checked seed ∷ seed_other seed (own_account port s) ∷ [])

-- "then as Reply, but on a match the account takes the new count, seed and password"; R-1: "renewal may change" the algorithm; R-5: the seeds before the
-- new one are remembered, eight in all.
unfoldable pub offer_renewal : ℕ → ℕ → ℕ → List ℕ → ℕ → ℕ → State → After Replied
offer_renewal port number count seed new password s =
    unless (reply_refused s) (renew_checked port number count seed s)
    (compared port password (renewed_room (own_account port s) number count seed new) s)

-- Tick: "each shut count above 0 falls by 1; then", R-4, "the turn of every line that isn't empty", and "at 0 the front port leaves".
unfoldable pub tick : State → State
tick s = record { rooms = (each_line ticked s).rooms; ports = map cooled s.ports }
