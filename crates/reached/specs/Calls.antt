-- All calls as data, and what a run of them does to a table.
use Rattle.std.specs.Prelude.{ℕ, List, [], ◌∷◌, Ok, Err}
use Rattle.refusal.specs.declared.Refusal.{Refusal}
use Rattle.refusal.specs.Answers.{Checked, Written}
use Rattle.refusal.specs.declared.Listing.{Listing}
use Rattle.refusal.specs.Numbers.{listing_of, checked_numbers, written_numbers}
use Rattle.table.specs.Answers.{Replied}
use Rattle.table.specs.Table.{State}
use Rattle.table.specs.Steps.{enrol, remove, join, leave, challenge, offer, offer_renewal, tick, replied_numbers}

-- A call with its arguments. Challenge is lent a buffer, of which only the room counts.
pub data Call : Type 0 where
  Enrol : (id number count : ℕ) (seed password : List ℕ) → Call
  Remove : (id : ℕ) → Call
  Join : (port id : ℕ) → Call
  Leave : (port : ℕ) → Call
  Challenge : (port room : ℕ) → Call
  Offer : (port password : ℕ) → Call
  OfferRenewal : (port number count : ℕ) (seed : List ℕ) (new password : ℕ) → Call
  Tick : Call

-- The table after a call. Challenge only looks.
abbrev pub after : Call → State → State
after (Call.Enrol id number count seed password) s = (enrol id number count seed password s).state
after (Call.Remove id) s = (remove id s).state
after (Call.Join port id) s = (join port id s).state
after (Call.Leave port) s = (leave port s).state
after (Call.Challenge port room) s = s
after (Call.Offer port password) s = (offer port password s).state
after (Call.OfferRenewal port number count seed new password) s = (offer_renewal port number count seed new password s).state
after Call.Tick s = tick s

-- What a call answers: nothing to report, a new count, bytes written, or a refusal.
pub data Answer : Type 0 where
  Done : Answer
  Count : ℕ → Answer
  Wrote : ℕ → Answer
  Refused : Refusal → Answer

abbrev pub checked_answer : Checked → Answer
checked_answer (Ok _) = Answer.Done
checked_answer (Err why) = Answer.Refused why

abbrev pub replied_answer : Replied → Answer
replied_answer (Ok count) = Answer.Count count
replied_answer (Err why) = Answer.Refused why

abbrev pub written_answer : Written → Answer
written_answer (Ok n) = Answer.Wrote n
written_answer (Err why) = Answer.Refused why

abbrev pub answer : Call → State → Answer
answer (Call.Enrol id number count seed password) s = checked_answer (enrol id number count seed password s).answer
answer (Call.Remove id) s = checked_answer (remove id s).answer
answer (Call.Join port id) s = checked_answer (join port id s).answer
answer (Call.Leave port) s = checked_answer (leave port s).answer
answer (Call.Challenge port room) s = written_answer (challenge port room s)
answer (Call.Offer port password) s = replied_answer (offer port password s).answer
answer (Call.OfferRenewal port number count seed new password) s = replied_answer (offer_renewal port number count seed new password s).answer
answer Call.Tick s = Answer.Done

-- The number and value of a call's answer: those of the enum that it answers with.
abbrev pub numbers : Answer → Listing × ℕ
numbers Answer.Done = (checked_numbers (Ok tt), 0)
numbers (Answer.Count count) = replied_numbers (Ok count)
numbers (Answer.Wrote n) = written_numbers (Ok n)
numbers (Answer.Refused why) = (listing_of why, 0)

-- The table after several, the first first.
unfoldable pub run : List Call → State → State
run [] s = s
run (call ∷ calls) s = run calls (after call s)

-- The answers of several, in order.
unfoldable pub answers : List Call → State → List Answer
answers [] s = []
answers (call ∷ calls) s = answer call s ∷ answers calls (after call s)
