-- The promises of `challenge` and `cards` determine their results.
use Rattle.std.proofs.Common.{sym, ◌∙◌}
use Rattle.challenge.proofs.reading.read.Reads as read
use Rattle.challenge.proofs.reading.seed_of.Reads as seed_of
use Rattle.challenge.proofs.writing.write.Reads as write
use Rattle.challenge.proofs.writing.write_by.Reads as write_by
use Rattle.cards.proofs.write_card.Reads as write_card
use Rattle.cards.proofs.printed.answer.Reads as answer
use Rattle.determined.specs.Determined.{Answers, AnswersSeen, AnswersAndLent, both, left}

pub read_determined : Answers read.Learnt
read_determined k a y z e f p q = p ∙ sym q

-- a part of the bytes lent: what is in it, in which bytes, and where it starts
pub seed_of_determined : AnswersSeen seed_of.Learnt (λ k y. y.now)
seed_of_determined k a y z e f p q = p.0 ∙ sym q.0

pub seed_of_bytes_determined : AnswersSeen seed_of.Learnt (λ k y. y.ref_ptr.0)
seed_of_bytes_determined k a y z e f p q = p.1 ∙ sym q.1

pub seed_of_start_determined : AnswersSeen seed_of.Learnt (λ k y. y.ref_ptr.1)
seed_of_start_determined k a y z e f p q = p.2 ∙ sym q.2

pub write_determined : AnswersAndLent write.Learnt (λ k e. e.1.1.1.0.now)
write_determined k a y z e f p q = left _ _ p q

pub write_by_determined : AnswersAndLent write_by.Learnt (λ k e. e.1.1.1.1.0.now)
write_by_determined k a y z e f p q = left _ _ p q

pub write_card_determined : AnswersAndLent write_card.Learnt (λ k e. e.1.1.1.0.now)
write_card_determined k a y z e f p q = left _ _ p q

pub answer_determined : AnswersAndLent answer.Learnt (λ k e. e.1.0.now)
answer_determined k a y z e f p q = both p q
