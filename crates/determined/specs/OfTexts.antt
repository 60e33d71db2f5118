-- The promises of `refusal` and `text` determine their results.
use Rattle.std.proofs.Common.{sym, ◌∙◌}
use Rattle.refusal.proofs.listing_of.Reads as listing_of
use Rattle.text.proofs.kinds.is_letter.Reads as is_letter
use Rattle.text.proofs.kinds.is_white.Reads as is_white
use Rattle.text.proofs.kinds.lower.Reads as lower
use Rattle.text.proofs.scan.run.Reads as run
use Rattle.text.proofs.scan.stretch_at.Reads as stretch_at
use Rattle.text.proofs.scan.find.Reads as find
use Rattle.text.proofs.scan.same.Reads as same
use Rattle.text.proofs.scan.digit_value.Reads as digit_value
use Rattle.text.proofs.put.copy.Reads as copy
use Rattle.text.proofs.put.copy_and.Reads as copy_and
use Rattle.text.proofs.put.spell.Reads as spell
use Rattle.text.proofs.counts.read_count.Reads as read_count
use Rattle.text.proofs.counts.width.Reads as width
use Rattle.text.proofs.counts.put_count_and.Reads as put_count_and
use Rattle.determined.specs.Determined.{Answers, AnswersSeen, AnswersAndLent, both}

pub listing_of_determined : Answers listing_of.Learnt
listing_of_determined k a y z e f p q = p ∙ sym q

pub is_letter_determined : Answers is_letter.Learnt
is_letter_determined k a y z e f p q = p ∙ sym q

pub is_white_determined : Answers is_white.Learnt
is_white_determined k a y z e f p q = p ∙ sym q

pub lower_determined : Answers lower.Learnt
lower_determined k a y z e f p q = p ∙ sym q

pub run_determined : Answers run.Learnt
run_determined k a y z e f p q = p ∙ sym q

-- a part of the bytes lent: what is in it, in which bytes, and where it starts
pub stretch_at_determined : AnswersSeen stretch_at.Learnt (λ k y. y.now)
stretch_at_determined k a y z e f p q = p.0 ∙ sym q.0

pub stretch_at_bytes_determined : AnswersSeen stretch_at.Learnt (λ k y. y.ref_ptr.0)
stretch_at_bytes_determined k a y z e f p q = p.1 ∙ sym q.1

pub stretch_at_start_determined : AnswersSeen stretch_at.Learnt (λ k y. y.ref_ptr.1)
stretch_at_start_determined k a y z e f p q = p.2 ∙ sym q.2

pub find_determined : Answers find.Learnt
find_determined k a y z e f p q = p.0 ∙ sym q.0

pub same_determined : Answers same.Learnt
same_determined k a y z e f p q = p ∙ sym q

pub digit_value_determined : Answers digit_value.Learnt
digit_value_determined k a y z e f p q = p ∙ sym q

pub copy_determined : AnswersAndLent copy.Learnt (λ k e. e.0.now)
copy_determined k a y z e f p q = both p q

pub copy_and_determined : AnswersAndLent copy_and.Learnt (λ k e. e.0.now)
copy_and_determined k a y z e f p q = both p q

pub spell_determined : AnswersAndLent spell.Learnt (λ k e. e.0.now)
spell_determined k a y z e f p q = both p q

pub read_count_determined : Answers read_count.Learnt
read_count_determined k a y z e f p q = p ∙ sym q

pub width_determined : Answers width.Learnt
width_determined k a y z e f p q = p ∙ sym q

pub put_count_and_determined : AnswersAndLent put_count_and.Learnt (λ k e. e.0.now)
put_count_and_determined k a y z e f p q = both p q
