-- The promises of `line`, `port`, `accounts`, `table`, `login` and `turns` determine their results: lines, accounts and tables as far as their
-- bytes mean something.
use Rattle.std.specs.Prelude.{ℕ, List, []}
use Rattle.std.proofs.Common.{sym, ◌∙◌}
use Rattle.line.proofs.Lines.fresh.Reads as line_fresh
use Rattle.line.proofs.Lines.join.Reads as line_join
use Rattle.line.proofs.Lines.leave.Reads as line_leave
use Rattle.line.proofs.Lines.remove.Reads as line_remove
use Rattle.line.proofs.Lines.tick.Reads as line_tick
use Rattle.line.proofs.Lines.room_of.Reads as room_reads
use Rattle.line.proofs.Lines.has.Reads as has
use Rattle.line.proofs.Lines.front_of.Reads as front_of
use Rattle.port.specs.contracts.Port.tick as lent_tick
use Rattle.port.specs.contracts.Port.right as lent_right
use Rattle.port.specs.contracts.Port.wrong as lent_wrong
use Rattle.port.proofs.Port.after_wrong.Reads as after_wrong
use Rattle.port.proofs.Port.wrong_answer.Reads as wrong_answer
use Rattle.port.proofs.Port.after_right.Reads as after_right
use Rattle.port.proofs.Port.after_tick.Reads as after_tick
use Rattle.port.specs.Port.{cooled, rightly, wrongly}
use Rattle.table.proofs.held.place_of.Reads as place_of
use Rattle.table.proofs.held.account_at.Reads as account_at
use Rattle.table.proofs.held.put.Reads as put
use Rattle.accounts.proofs.values.enrolment.Reads as enrolment
use Rattle.accounts.proofs.values.renewal.Reads as renewal
use Rattle.accounts.proofs.values.check_new.Reads as check_new
use Rattle.accounts.proofs.older.remember.Reads as remember
use Rattle.accounts.proofs.lowered.write_challenge.Reads as write_challenge
use Rattle.accounts.proofs.lowered.lower.Reads as lower
use Rattle.table.proofs.fresh.Reads as table_fresh
use Rattle.login.proofs.enrolling.enrol.Reads as enrol
use Rattle.login.proofs.enrolling.remove.Reads as remove
use Rattle.login.proofs.joining.join.Reads as join
use Rattle.login.proofs.leaving.leave.Reads as leave
use Rattle.login.proofs.ticking.tick.Reads as tick
use Rattle.turns.proofs.challenge.Reads as challenge
use Rattle.turns.proofs.offer.Reads as offer
use Rattle.turns.proofs.offer_renewal.Reads as offer_renewal
use Rattle.line.specs.Line.{waiting}
use Rattle.accounts.specs.Rooms.{part_of, room_of}
use Rattle.accounts.specs.Accounts.{proposal}
use Rattle.accounts.specs.OlderBytes.{remembering}
use Rattle.table.specs.Table.{view}
use Rattle.table.specs.Steps.{settled, answered}
use Rattle.determined.specs.Determined.{Answers, AsSeen, AnswersSeen, Lent, AnswersAndLent, LentByHand, left, one_fact}

-- Lines are seen as the ports that wait for each room's account, front first, and the turn.
pub line_fresh_determined : AnswersSeen line_fresh.Learnt (λ k y. waiting y)
line_fresh_determined k a y z e f p q = p ∙ sym q

pub line_join_determined : AnswersSeen line_join.Learnt (λ k y. waiting y)
line_join_determined k a y z e f p q = p ∙ sym q

pub line_leave_determined : AnswersSeen line_leave.Learnt (λ k y. waiting y)
line_leave_determined k a y z e f p q = p ∙ sym q

pub line_remove_determined : AnswersSeen line_remove.Learnt (λ k y. waiting y)
line_remove_determined k a y z e f p q = p ∙ sym q

pub line_tick_determined : AnswersSeen line_tick.Learnt (λ k y. waiting y)
line_tick_determined k a y z e f p q = p ∙ sym q

pub room_of_determined : Answers room_reads.Learnt
room_of_determined k a y z e f p q = p ∙ sym q

pub has_determined : Answers has.Learnt
has_determined k a y z e f p q = p ∙ sym q

pub front_of_determined : Answers front_of.Learnt
front_of_determined k a y z e f p q = p ∙ sym q

-- A port's record, given back.
pub after_wrong_determined : Answers after_wrong.Learnt
after_wrong_determined k a y z e f p q = p ∙ sym q

pub wrong_answer_determined : Answers wrong_answer.Learnt
wrong_answer_determined k a y z e f p q = p ∙ sym q

pub after_right_determined : Answers after_right.Learnt
after_right_determined k a y z e f p q = p ∙ sym q

pub after_tick_determined : Answers after_tick.Learnt
after_tick_determined k a y z e f p q = p ∙ sym q

-- A port's record, lent: the promises of these three as the prover has them.
pub lent_tick_determined : LentByHand lent_tick.ended (λ M 𝓤. lent_tick.clauses) (λ k e. e.0.now)
lent_tick_determined M 𝓤 𝓛 mem run k a g y z e f = one_fact 𝓤 (cooled a.0.now) e.0.now f.0.now

pub lent_right_determined : LentByHand lent_right.ended (λ M 𝓤. lent_right.clauses) (λ k e. e.0.now)
lent_right_determined M 𝓤 𝓛 mem run k a g y z e f = one_fact 𝓤 (rightly a.0.now) e.0.now f.0.now

pub lent_wrong_determined : LentByHand lent_wrong.ended (λ M 𝓤. lent_wrong.clauses) (λ k e. e.0.now)
lent_wrong_determined M 𝓤 𝓛 mem run k a g y z e f = one_fact 𝓤 (wrongly a.0.now) e.0.now f.0.now

-- The older seeds stand apart: the promises of functions that are not lent them speak of any bytes for them.
pub place_of_determined : Answers place_of.Learnt
place_of_determined k a y z e f p q = (p []).0 ∙ sym (q []).0

-- An account is seen as what it means, without the zeros after its seed.
pub account_at_determined : (older : List ℕ) → AsSeen account_at.Learnt (λ k a y e. room_of y (part_of older a.1.0))
account_at_determined older k a y z e f p q = p older ∙ sym (q older)

pub put_determined : (older : List ℕ) → AnswersSeen put.Learnt (λ k y. view y older)
put_determined older k a y z e f p q = p older ∙ sym (q older)

pub check_new_determined : Answers check_new.Learnt
check_new_determined k a y z e f p q = p ∙ sym q

pub enrolment_determined : (part : List ℕ) → AnswersSeen enrolment.Learnt (λ k y. proposal y part)
enrolment_determined part k a y z e f p q = p part ∙ sym (q part)

pub renewal_determined : AsSeen renewal.Learnt (λ k a y e. proposal y (part_of (remembering a.1.1.0 a.0 a.1.0.now) a.1.1.0))
renewal_determined k a y z e f p q = p ∙ sym q

pub remember_determined : Lent remember.Learnt (λ k e. e.0.now)
remember_determined k a y z e f p q = p ∙ sym q

pub write_challenge_determined : AnswersAndLent write_challenge.Learnt (λ k e. e.1.0.now)
write_challenge_determined k a y z e f p q = left _ _ p q

pub lower_determined : (part : List ℕ) → AnswersSeen lower.Learnt (λ k y. room_of y part)
lower_determined part k a y z e f p q = p part ∙ sym (q part)

-- A table is seen by its view, beside the answer, and with the older seeds: those that the offer of a renewal leaves, any beside the others.
pub table_fresh_determined : (older : List ℕ) → AnswersSeen table_fresh.Learnt (λ k y. view y older)
table_fresh_determined older k a y z e f p q = p older ∙ sym (q older)

pub enrol_determined : (older : List ℕ) → AnswersSeen enrol.Learnt (λ k y. settled y older)
enrol_determined older k a y z e f p q = p older ∙ sym (q older)

pub remove_determined : (older : List ℕ) → AnswersSeen remove.Learnt (λ k y. settled y older)
remove_determined older k a y z e f p q = p older ∙ sym (q older)

pub join_determined : (older : List ℕ) → AnswersSeen join.Learnt (λ k y. settled y older)
join_determined older k a y z e f p q = p older ∙ sym (q older)

pub leave_determined : (older : List ℕ) → AnswersSeen leave.Learnt (λ k y. settled y older)
leave_determined older k a y z e f p q = p older ∙ sym (q older)

pub tick_determined : (older : List ℕ) → AnswersSeen tick.Learnt (λ k y. view y older)
tick_determined older k a y z e f p q = p older ∙ sym (q older)

pub challenge_determined : AnswersAndLent challenge.Learnt (λ k e. e.1.1.0.now)
challenge_determined k a y z e f p q = left _ _ (p.0 [], p.1 []) (q.0 [], q.1 [])

pub offer_determined : (older : List ℕ) → AnswersSeen offer.Learnt (λ k y. answered y older)
offer_determined older k a y z e f p q = p older ∙ sym (q older)

pub offer_renewal_determined : AsSeen offer_renewal.Learnt (λ k a y e. answered y e.1.0.now)
offer_renewal_determined k a y z e f p q = p.0 ∙ sym q.0
