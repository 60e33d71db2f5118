-- The promises of `panel`, the functions that C calls, determine their results.
use Rattle.std.proofs.Common.{sym, ◌∙◌}
use Rattle.panel.proofs.lift_md5.Reads as lift_md5
use Rattle.panel.proofs.lift_sha1.Reads as lift_sha1
use Rattle.panel.proofs.lift_password.Reads as lift_password
use Rattle.panel.proofs.lift_read_plain.Reads as lift_read_plain
use Rattle.panel.proofs.lift_read_reply.Reads as lift_read_reply
use Rattle.panel.proofs.lift_write_hex.Reads as lift_write_hex
use Rattle.panel.proofs.lift_write_words.Reads as lift_write_words
use Rattle.panel.proofs.lift_write_extended.Reads as lift_write_extended
use Rattle.panel.proofs.lift_read_challenge.Reads as lift_read_challenge
use Rattle.panel.proofs.lift_write_challenge.Reads as lift_write_challenge
use Rattle.panel.proofs.lift_write_card.Reads as lift_write_card
use Rattle.panel.proofs.lift_password_of.Reads as lift_password_of
use Rattle.panel.proofs.lift_bytes_of.Reads as lift_bytes_of
use Rattle.determined.specs.Determined.{Answers, AnswersAndLent, Lent, both}

pub lift_md5_determined : AnswersAndLent lift_md5.Learnt (λ k e. e.1.0.now)
lift_md5_determined k a y z e f p q = both p q

pub lift_sha1_determined : AnswersAndLent lift_sha1.Learnt (λ k e. e.1.0.now)
lift_sha1_determined k a y z e f p q = both p q

pub lift_password_determined : Answers lift_password.Learnt
lift_password_determined k a y z e f p q = p ∙ sym q

pub lift_read_plain_determined : Answers lift_read_plain.Learnt
lift_read_plain_determined k a y z e f p q = p ∙ sym q

pub lift_read_reply_determined : Answers lift_read_reply.Learnt
lift_read_reply_determined k a y z e f p q = p ∙ sym q

pub lift_write_hex_determined : AnswersAndLent lift_write_hex.Learnt (λ k e. e.1.0.now)
lift_write_hex_determined k a y z e f p q = both p q

pub lift_write_words_determined : AnswersAndLent lift_write_words.Learnt (λ k e. e.1.0.now)
lift_write_words_determined k a y z e f p q = both p q

pub lift_write_extended_determined : AnswersAndLent lift_write_extended.Learnt (λ k e. e.1.1.1.1.1.1.0.now)
lift_write_extended_determined k a y z e f p q = both p q

pub lift_read_challenge_determined : Answers lift_read_challenge.Learnt
lift_read_challenge_determined k a y z e f p q = p ∙ sym q

pub lift_write_challenge_determined : AnswersAndLent lift_write_challenge.Learnt (λ k e. e.1.1.1.0.now)
lift_write_challenge_determined k a y z e f p q = both p q

pub lift_write_card_determined : AnswersAndLent lift_write_card.Learnt (λ k e. e.1.1.1.0.now)
lift_write_card_determined k a y z e f p q = both p q

pub lift_password_of_determined : Answers lift_password_of.Learnt
lift_password_of_determined k a y z e f p q = p ∙ sym q

pub lift_bytes_of_determined : Lent lift_bytes_of.Learnt (λ k e. e.1.0.now)
lift_bytes_of_determined k a y z e f p q = p ∙ sym q
