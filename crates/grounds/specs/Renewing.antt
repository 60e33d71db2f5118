-- A renewal that changes the algorithm, offered as numbers and read from an `init` text, computed from the definitions.
use Rattle.std.specs.Prelude.{ℕ, ◌≡◌, refl, List, [], ◌∷◌, ◌++◌}
use Rattle.text.specs.Tests.{every, same}
use Rattle.text.specs.Scan.{run_of, parted, unspaced}
use Rattle.text.specs.Counts.{is_count}
use Rattle.text.specs.Digits as Digits
use Rattle.text.specs.Digits.{digits_of}
use Rattle.text.specs.Quoted.{codes}
use Rattle.digests.specs.Lists.{up_to}
use Rattle.digests.specs.Padding.{padded_byte, padded_word, block_at, absorbed}
use Rattle.digests.specs.Md5.{md5, registers}
use Rattle.digests.specs.Rounds.{compressed, rounds, performed, operation, round1, round2, round3, round4}
use Rattle.digests.specs.Sha1 as Sha1
use Rattle.password.specs.declared.algorithm.Algorithm.{Algorithm}
use Rattle.password.specs.Algorithm.{algorithm_name}
use Rattle.password.specs.PhraseAndSeed.{plain}
use Rattle.password.specs.Password.{fold, fold_words, number_after, bytes_of, hash}
use Rattle.hex_text.specs.Hex.{hex_of, sixteen_digits, hex_reading}
use Rattle.extended.specs.ReplyTypes.{type_name}
use Rattle.extended.specs.Parameters.{word_at, word_after, trimmed, parameters_of}
use Rattle.extended.specs.ReplyTexts.{part_at, present_at, parameters_at, new_at, colons, password_by, renewal_in}
use Rattle.extended.specs.ReplyTexts.{typed_in, layout_checked, extended_of, said_in, reply_text_of, seed_part, a_renewal}
use Rattle.line.specs.Line.{some, others, turn_without, left}
use Rattle.accounts.specs.Accounts.{is_one_of}
use Rattle.table.specs.Table.{fresh, place_of, account_of, in_lines, stands_at}
use Rattle.table.specs.Steps.{
  enrol_checked,
  enrol,
  join_checked,
  joins,
  join,
  turn_checked,
  compared,
  offer,
  renew_checked,
  offer_renewal,
}
use Rattle.reached.specs.Calls.{Call, Answer, run, answers}

-- To SHA-1, with the count 3 and another seed.
abbrev pub renewing : Call
renewing = Call.OfferRenewal 0 2 3 (codes "lift2") (hash Algorithm.Sha1 (bytes_of 6)) 5

-- Account 1, by MD5, whose next password is 5, is renewed to SHA-1 with the count 3, and then logs in with 6.
abbrev pub changing : List Call
changing =
    Call.Enrol 1 1 2 (codes "lift1") (bytes_of (hash Algorithm.Md5 (bytes_of 5))) ∷ Call.Join 0 1 ∷ renewing ∷ Call.Join 0 1 ∷ Call.Offer 0 6 ∷ []

-- Each accepted answer is the new count, and the account has SHA-1 and the last password then, and remembers both seeds.
pub algorithm_changes :
    (answers changing fresh ≡ Answer.Done ∷ Answer.Done ∷ Answer.Count 3 ∷ Answer.Done ∷ Answer.Count 2 ∷ [])
    × (account_of 1 (run changing fresh) ≡ record {
      id = 1;
      algorithm = Algorithm.Sha1;
      seed = codes "lift2";
      older = codes "lift1" ∷ [];
      count = 2;
      password = 6;
    })
unfolding answers run enrol_checked enrol join_checked joins join turn_checked compared offer renew_checked offer_renewal is_one_of place_of in_lines stands_at
    some others turn_without left plain every same codes hash fold fold_words number_after md5 registers absorbed compressed rounds
    performed operation round1 round2 round3 round4 Sha1.hash_value Sha1.compressed Sha1.schedule Sha1.longer Sha1.steps Sha1.step Sha1.step_with
    Sha1.f Sha1.K block_at padded_word padded_byte up_to
algorithm_changes = (refl, refl)

-- R-6: an `init` text, as the RFC lays it out, that is read to that renewal. The seed's five bytes stand at place 36.
abbrev pub renewing_text : List ℕ
renewing_text = codes "init-hex:0000 0000 0000 0005:sha1 3 lift2:" ++ hex_of (hash Algorithm.Sha1 (bytes_of 6))

pub init_reads :
    (reply_text_of renewing_text ≡ a_renewal 2 3 36 5 (hash Algorithm.Sha1 (bytes_of 6)) 5) × (seed_part renewing_text 36 5 ≡ codes "lift2")
unfolding reply_text_of said_in colons part_at present_at parameters_at new_at password_by renewal_in typed_in layout_checked extended_of word_at word_after
    trimmed
    parameters_of type_name algorithm_name is_count run_of every same codes sixteen_digits hex_reading parted unspaced digits_of Digits.number_after hash fold
    fold_words number_after absorbed Sha1.hash_value Sha1.compressed Sha1.schedule Sha1.longer Sha1.steps Sha1.step Sha1.step_with Sha1.f Sha1.K block_at
    padded_word padded_byte up_to
init_reads = (refl, refl)
