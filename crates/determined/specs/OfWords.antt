-- The promises of `wordlist`, `hex`, `sixwords`, `reply` and `extended` determine their results.
use Rattle.std.proofs.Common.{sym, ◌∙◌}
use Rattle.wordlist.proofs.word_at.Reads as word_at
use Rattle.wordlist.proofs.place_of.Reads as place_of
use Rattle.sixwords.proofs.number_of.Reads as number_of
use Rattle.hex_text.proofs.read_hex.Reads as read_hex
use Rattle.hex_text.proofs.write_hex.Reads as write_hex
use Rattle.sixwords.proofs.spelling.words_length.Reads as words_length
use Rattle.sixwords.proofs.spelling.write_words.Reads as write_words
use Rattle.reply.proofs.read.Reads as read
use Rattle.reply.proofs.read_six.Reads as read_six
use Rattle.extended.proofs.reply_writer.type_number.Reads as type_number
use Rattle.extended.proofs.reply_texts.read.Reads as read_text
use Rattle.extended.proofs.reply_texts.seed_part.Reads as seed_part
use Rattle.extended.proofs.reply_writer.write.Reads as write_extended
use Rattle.determined.specs.Determined.{Answers, AnswersSeen, AnswersAndLent, left}

pub word_at_determined : Answers word_at.Learnt
word_at_determined k a y z e f p q = p ∙ sym q

pub place_of_determined : Answers place_of.Learnt
place_of_determined k a y z e f p q = p ∙ sym q

pub number_of_determined : Answers number_of.Learnt
number_of_determined k a y z e f p q = p ∙ sym q

pub read_hex_determined : Answers read_hex.Learnt
read_hex_determined k a y z e f p q = p ∙ sym q

pub write_hex_determined : AnswersAndLent write_hex.Learnt (λ k e. e.1.0.now)
write_hex_determined k a y z e f p q = left _ _ p q

pub words_length_determined : Answers words_length.Learnt
words_length_determined k a y z e f p q = p.0 ∙ sym q.0

pub write_words_determined : AnswersAndLent write_words.Learnt (λ k e. e.1.0.now)
write_words_determined k a y z e f p q = left _ _ p q

pub read_determined : Answers read.Learnt
read_determined k a y z e f p q = p ∙ sym q

pub read_six_determined : Answers read_six.Learnt
read_six_determined k a y z e f p q = p ∙ sym q

pub type_number_determined : Answers type_number.Learnt
type_number_determined k a y z e f p q = p ∙ sym q

pub read_text_determined : Answers read_text.Learnt
read_text_determined k a y z e f p q = p ∙ sym q

-- a part of the bytes lent: what is in it, in which bytes, and where it starts
pub seed_part_determined : AnswersSeen seed_part.Learnt (λ k y. y.now)
seed_part_determined k a y z e f p q = p.0 ∙ sym q.0

pub seed_part_bytes_determined : AnswersSeen seed_part.Learnt (λ k y. y.ref_ptr.0)
seed_part_bytes_determined k a y z e f p q = p.1 ∙ sym q.1

pub seed_part_start_determined : AnswersSeen seed_part.Learnt (λ k y. y.ref_ptr.1)
seed_part_start_determined k a y z e f p q = p.2 ∙ sym q.2

pub write_extended_determined : AnswersAndLent write_extended.Learnt (λ k e. e.1.1.1.1.1.1.0.now)
write_extended_determined k a y z e f p q = left _ _ p q
