-- The promises of `block`, `md5`, `sha1`, `password` and `generator` determine their results.
use Rattle.std.proofs.Common.{sym, ◌∙◌}
use Rattle.block.proofs.count.Reads as count
use Rattle.block.proofs.from_high.Reads as from_high
use Rattle.block.proofs.block.Reads as block
use Rattle.block.proofs.arithmetic.add.Reads as add
use Rattle.block.proofs.arithmetic.rotated.Reads as rotated
use Rattle.block.proofs.bitwise.choice.Reads as choice
use Rattle.block.proofs.bitwise.parity.Reads as parity
use Rattle.block.proofs.by_four.part.Reads as part
use Rattle.block.proofs.as_bytes.word.Reads as put_word
use Rattle.block.proofs.as_bytes.two_words.Reads as put_two_words
use Rattle.block.proofs.hashing.Words.order.Reads as order
use Rattle.block.proofs.hashing.Words.initial.Reads as initial
use Rattle.block.proofs.hashing.Words.summed.Reads as summed
use Rattle.block.proofs.hashing.Words.put.Reads as put_digest
use Rattle.block.proofs.hashing.HashFunction.lent.Reads as lent
use Rattle.block.proofs.hashing.HashFunction.compress.Reads as compress
use Rattle.block.proofs.hashing.hash.Reads as hash
use Rattle.block.proofs.hashing.hash_eight.Reads as hash_eight
use Rattle.block.proofs.hashing.digest.Reads as hash_digest
use Rattle.md5_hash.proofs.compress.compress_eight.Reads as compress_eight
use Rattle.md5_hash.proofs.compress.registers.Reads as registers
use Rattle.md5_hash.proofs.digest.digest.Reads as digest
use Rattle.sha1_hash.proofs.compress.compress_eight.Reads as sha1_compress_eight
use Rattle.sha1_hash.proofs.compress.hash_value.Reads as hash_value
use Rattle.sha1_hash.proofs.digest.digest.Reads as sha1_digest
use Rattle.password.proofs.phrase_and_seed.check_phrase.Reads as check_phrase
use Rattle.password.proofs.phrase_and_seed.check_seed.Reads as check_seed
use Rattle.password.proofs.phrase_and_seed.put_lower.Reads as put_lower
use Rattle.generator.proofs.chain.step.Reads as step
use Rattle.generator.proofs.generate.Reads as generate
use Rattle.generator.proofs.generate_by.Reads as generate_by
use Rattle.password.proofs.algorithm.numbered.Reads as numbered
use Rattle.password.proofs.algorithm.algorithm_in.Reads as algorithm_in
use Rattle.password.proofs.algorithm.number_of.Reads as algorithm_number_of
use Rattle.password.proofs.algorithm_names.read_name.Reads as read_name
use Rattle.password.proofs.algorithm_names.name_length.Reads as name_length
use Rattle.password.proofs.algorithm_names.put_name.Reads as put_name
use Rattle.password.proofs.eight_bytes.number_of.Reads as number_of
use Rattle.password.proofs.eight_bytes.bytes_of.Reads as bytes_of
use Rattle.determined.specs.Determined.{Answers, AnswersAndLent, both, left}

pub count_determined : Answers count.Learnt
count_determined k a y z e f p q = p ∙ sym q

pub from_high_determined : Answers from_high.Learnt
from_high_determined k a y z e f p q = p ∙ sym q

pub block_determined : Answers block.Learnt
block_determined k a y z e f p q = p ∙ sym q

pub add_determined : Answers add.Learnt
add_determined k a y z e f p q = p ∙ sym q

pub rotated_determined : Answers rotated.Learnt
rotated_determined k a y z e f p q = p ∙ sym q

pub choice_determined : Answers choice.Learnt
choice_determined k a y z e f p q = p.0 ∙ sym q.0

pub parity_determined : Answers parity.Learnt
parity_determined k a y z e f p q = p ∙ sym q

pub part_determined : Answers part.Learnt
part_determined k a y z e f p q = p ∙ sym q

pub put_word_determined : AnswersAndLent put_word.Learnt (λ k e. e.1.0.now)
put_word_determined k a y z e f p q = both p q

pub put_two_words_determined : AnswersAndLent put_two_words.Learnt (λ k e. e.1.0.now)
put_two_words_determined k a y z e f p q = both p q

-- Of what is kept of a message, whatever its words: the type, its laws, and what its bounds give.
pub order_determined : (T L C W D E F : _) → Answers (order.Learnt T L C W D E F)
order_determined T L C W D E F k a y z e f p q = p ∙ sym q

pub initial_determined : (T L C W D E F : _) → Answers (initial.Learnt T L C W D E F)
initial_determined T L C W D E F k a y z e f p q = p ∙ sym q

pub summed_determined : (T L C W D E F : _) → Answers (summed.Learnt T L C W D E F)
summed_determined T L C W D E F k a y z e f p q = p ∙ sym q

pub put_digest_determined : (T L C W D E F : _) → AnswersAndLent (put_digest.Learnt T L C W D E F) (λ k e. e.1.0.now)
put_digest_determined T L C W D E F k a y z e f p q = both p q

-- Of every hash function: the three types of the trait, their laws, and what its two bounds give.
pub lent_determined : (T₁ T₂ T₃ : _) (L₁ L₂ L₃ C H B W D E F G : _) → Answers (lent.Learnt T₁ T₂ T₃ L₁ L₂ L₃ C H B W D E F G)
lent_determined T₁ T₂ T₃ L₁ L₂ L₃ C H B W D E F G k a y z e f p q = p ∙ sym q

pub compress_determined : (T₁ T₂ T₃ : _) (L₁ L₂ L₃ C H B W D E F G : _) → Answers (compress.Learnt T₁ T₂ T₃ L₁ L₂ L₃ C H B W D E F G)
compress_determined T₁ T₂ T₃ L₁ L₂ L₃ C H B W D E F G k a y z e f p q = p ∙ sym q

pub hash_determined : (T₁ T₂ T₃ : _) (L₁ L₂ L₃ C H B W D E F G : _) → Answers (hash.Learnt T₁ T₂ T₃ L₁ L₂ L₃ C H B W D E F G)
hash_determined T₁ T₂ T₃ L₁ L₂ L₃ C H B W D E F G k a y z e f p q = p ∙ sym q

pub hash_eight_determined : (T₁ T₂ T₃ : _) (L₁ L₂ L₃ C H B W D E F G : _) → Answers (hash_eight.Learnt T₁ T₂ T₃ L₁ L₂ L₃ C H B W D E F G)
hash_eight_determined T₁ T₂ T₃ L₁ L₂ L₃ C H B W D E F G k a y z e f p q = p ∙ sym q

pub hash_digest_determined : (T₁ T₂ T₃ : _) (L₁ L₂ L₃ C H B W D E F G : _)
    → AnswersAndLent (hash_digest.Learnt T₁ T₂ T₃ L₁ L₂ L₃ C H B W D E F G) (λ k e. e.1.0.now)
hash_digest_determined T₁ T₂ T₃ L₁ L₂ L₃ C H B W D E F G k a y z e f p q = left _ _ p q

pub compress_eight_determined : Answers compress_eight.Learnt
compress_eight_determined k a y z e f p q = p ∙ sym q

pub registers_determined : Answers registers.Learnt
registers_determined k a y z e f p q = p ∙ sym q

pub digest_determined : AnswersAndLent digest.Learnt (λ k e. e.1.0.now)
digest_determined k a y z e f p q = left _ _ p q

pub sha1_compress_eight_determined : Answers sha1_compress_eight.Learnt
sha1_compress_eight_determined k a y z e f p q = p ∙ sym q

pub hash_value_determined : Answers hash_value.Learnt
hash_value_determined k a y z e f p q = p ∙ sym q

pub sha1_digest_determined : AnswersAndLent sha1_digest.Learnt (λ k e. e.1.0.now)
sha1_digest_determined k a y z e f p q = left _ _ p q

pub check_phrase_determined : Answers check_phrase.Learnt
check_phrase_determined k a y z e f p q = p ∙ sym q

pub check_seed_determined : Answers check_seed.Learnt
check_seed_determined k a y z e f p q = p ∙ sym q

pub put_lower_determined : AnswersAndLent put_lower.Learnt (λ k e. e.0.now)
put_lower_determined k a y z e f p q = both p q

pub step_determined : Answers step.Learnt
step_determined k a y z e f p q = p ∙ sym q

pub generate_determined : Answers generate.Learnt
generate_determined k a y z e f p q = p ∙ sym q

pub generate_by_determined : Answers generate_by.Learnt
generate_by_determined k a y z e f p q = p ∙ sym q

pub numbered_determined : Answers numbered.Learnt
numbered_determined k a y z e f p q = p ∙ sym q

pub algorithm_in_determined : Answers algorithm_in.Learnt
algorithm_in_determined k a y z e f p q = p ∙ sym q

pub algorithm_number_of_determined : Answers algorithm_number_of.Learnt
algorithm_number_of_determined k a y z e f p q = p ∙ sym q

pub read_name_determined : Answers read_name.Learnt
read_name_determined k a y z e f p q = p ∙ sym q

pub name_length_determined : Answers name_length.Learnt
name_length_determined k a y z e f p q = p.0 ∙ sym q.0

pub put_name_determined : AnswersAndLent put_name.Learnt (λ k e. e.0.now)
put_name_determined k a y z e f p q = both p q

pub number_of_determined : Answers number_of.Learnt
number_of_determined k a y z e f p q = p ∙ sym q

pub bytes_of_determined : Answers bytes_of.Learnt
bytes_of_determined k a y z e f p q = p ∙ sym q
