-- Each number of the list is the answer of some call, by computing the definitions.
use Rattle.std.specs.Prelude.{ℕ, suc, refl, replicate}
use mathlib.Core.List.{List, [], ◌∷◌, ◌++◌, map, flatten}
use Rattle.text.specs.Tests.{every}
use Rattle.text.specs.Scan.{run_of, parted, unspaced}
use Rattle.text.specs.Digits as Digits
use Rattle.text.specs.Digits.{digits_of}
use Rattle.text.specs.Quoted.{codes}
use Rattle.digests.specs.Lists.{up_to}
use Rattle.digests.specs.Padding.{padded_byte, padded_word, block_at, absorbed}
use Rattle.digests.specs.Md5.{md5, registers}
use Rattle.digests.specs.Rounds.{compressed, rounds, performed, operation, round1, round2, round3, round4}
use Rattle.password.specs.declared.algorithm.Algorithm.{Algorithm}
use Rattle.password.specs.Algorithm.{algorithm_name}
use Rattle.password.specs.PhraseAndSeed.{plain}
use Rattle.password.specs.Password.{fold, number_after, bytes_of, hash, generated_by, generated}
use Rattle.dictionary.specs.Words.{words_in, lines, words}
use Rattle.dictionary.specs.Dictionary as Dictionary
use Rattle.sixwords.specs.Places.{pairs, pair_sum, all_places, number_of}
use Rattle.sixwords.specs.Places as Places
use Rattle.text.specs.Counts.{is_count}
use Rattle.challenge.specs.Challenges.{opening, token_at, next_at, count_at, seed_at, challenge_of}
use Rattle.text.specs.Tests.{same}
use Rattle.hex_text.specs.Hex.{sixteen_digits, hex_reading}
use Rattle.reply.specs.Reply.{is_word, six_words, marks_of, found_reading, reading_of}
use Rattle.extended.specs.ReplyTypes.{type_name}
use Rattle.extended.specs.ReplyTexts.{part_at, colons, layout_checked, extended_of, said_in, reply_text_of}
use Rattle.cards.specs.CardChecks.{card_checked}
use Rattle.cards.specs.Cards.{card_written}
use Rattle.line.specs.Line.{some, others, turn_without, left}
use Rattle.accounts.specs.Accounts.{is_one_of}
use Rattle.table.specs.Table.{place_of, in_lines, stands_at}
use Rattle.table.specs.Steps as Steps
use Rattle.table.specs.Steps.{
  enrol_checked,
  enrol,
  remove,
  join_checked,
  join,
  leave_checked,
  leave,
  turn_checked,
  challenge,
  compared,
  offer,
  renew_checked,
  offer_renewal,
}
use Rattle.reached.specs.Calls.{Call, run}
use Rattle.grounds.specs.Listed.{listed, call_number, Given}
use Rattle.refusal.specs.Each.{Each, each_append}

-- 10 and 11, 13: the generator; 12: the digest
generator_given : Each Given (10 ∷ 11 ∷ 12 ∷ 13 ∷ [])
unfolding generated generated_by plain every codes
generator_given = (
  Given.generator 1 (replicate 9 97) (codes "a") 0 refl,
  (
    Given.generator 1 (replicate 64 97) (codes "a") 0 refl,
    (
      Given.digest Algorithm.Md5 (replicate 4097 97) 16 refl,
      (Given.generator 1 (replicate 10 97) (codes "a") 10000 refl, tt),
    ),
  ),
)

-- 20 to 25: the challenge reader
challenge_given : Each Given (20 ∷ 21 ∷ 22 ∷ 23 ∷ 24 ∷ 25 ∷ [])
unfolding codes run_of Digits.number_after every plain is_count opening algorithm_name same token_at next_at count_at seed_at challenge_of
challenge_given = (
  Given.challenge (codes "OTP-md5 1 a ") refl,
  (
    Given.challenge (codes "otp-md4 1 a ") refl,
    (
      Given.challenge (codes "otp-md5 01 a ") refl,
      (
        Given.challenge (codes "otp-md5 1 ") refl,
        (
          Given.challenge (codes "otp-md5 1 a_ ") refl,
          (Given.challenge (codes "otp-md5 1 a") refl, tt),
        ),
      ),
    ),
  ),
)

-- 30 to 33: the reader of replies, of plain ones
reply_given : Each Given (30 ∷ 31 ∷ 32 ∷ 33 ∷ [])
unfolding reply_text_of said_in colons reading_of six_words is_word marks_of found_reading sixteen_digits hex_reading every parted unspaced
    Digits.number_after codes
    words_in lines words flatten same Dictionary.stands_from Dictionary.place_of pairs pair_sum Places.joined all_places number_of
reply_given = (
  Given.reply (replicate 129 97) refl,
  (
    Given.reply (codes "FOWL KIDS MASH DEAD DUAL OAF") refl,
    (
      Given.reply (codes "FOWL KID MASH DEAD DUAL OAK") refl,
      (Given.reply [] refl, tt),
    ),
  ),
)

-- 40: the hex writer, with 15 bytes
writer_given : Each Given (40 ∷ [])
unfolding digits_of
writer_given = (Given.hex 0 15 refl, tt)

-- A password of eight bytes.
abbrev pub eight : List ℕ
eight = 0 ∷ 1 ∷ 2 ∷ 3 ∷ 4 ∷ 5 ∷ 6 ∷ 7 ∷ []

-- Account 1, by MD5, with the count 2, whose next password is 0.
abbrev pub enrolled : Call
enrolled = Call.Enrol 1 1 2 (codes "a") (bytes_of (hash Algorithm.Md5 (bytes_of 0)))

-- Port 0 joins for it, and then offers a password.
abbrev pub joins : Call
joins = Call.Join 0 1

abbrev pub right : Call
right = Call.Offer 0 0

abbrev pub wrong : Call
wrong = Call.Offer 0 1

-- 34 and 35: an extended reply of another type, and one without its parts
extended_given : Each Given (34 ∷ 35 ∷ [])
unfolding codes same reply_text_of said_in extended_of layout_checked part_at colons type_name run_of
extended_given = (Given.reply (codes "HEX:") refl, (Given.reply (codes "init-hex:") refl, tt))

abbrev pub thirty_two : List Call
thirty_two = map (λ id. Call.Enrol id 1 2 (codes "a") eight) (up_to 32 (λ k. suc k))

-- 50 to 63: the table
table_given : Each Given (50 ∷ 51 ∷ 52 ∷ 53 ∷ 54 ∷ 55 ∷ 56 ∷ 57 ∷ 58 ∷ 59 ∷ 60 ∷ 61 ∷ 62 ∷ 63 ∷ [])
unfolding call_number codes plain same is_one_of run enrol enrol_checked remove join_checked Steps.joins join leave_checked leave turn_checked challenge
    compared offer renew_checked offer_renewal some others turn_without left place_of in_lines stands_at every hash fold number_after md5 registers absorbed
    compressed rounds performed operation round1 round2 round3 round4 block_at padded_word padded_byte up_to
table_given = (
  Given.call [] (Call.Enrol 0 1 2 (codes "a") eight) refl,
  (
    Given.call [] (Call.Enrol 1 1 1 (codes "a") eight) refl,
    (
      Given.call (enrolled ∷ []) enrolled refl,
      (
        Given.call thirty_two (Call.Enrol 33 1 2 (codes "a") eight) refl,
        (
          Given.call [] (Call.Remove 1) refl,
          (
            Given.call [] (Call.Join 4 1) refl,
            (
              Given.call (enrolled ∷ joins ∷ []) joins refl,
              (
                Given.call (enrolled ∷ joins ∷ wrong ∷ joins ∷ wrong ∷ joins ∷ wrong ∷ []) joins refl,
                (
                  Given.call (enrolled ∷ joins ∷ right ∷ []) joins refl,
                  (
                    Given.call [] (Call.Leave 0) refl,
                    (
                      Given.call (enrolled ∷ joins ∷ Call.Join 1 1 ∷ []) (Call.Challenge 1 30) refl,
                      (
                        Given.call (enrolled ∷ joins ∷ []) wrong refl,
                        (
                          Given.call (enrolled ∷ joins ∷ wrong ∷ joins ∷ wrong ∷ joins ∷ []) wrong refl,
                          (Given.call (enrolled ∷ joins ∷ []) (Call.OfferRenewal 0 1 9 (codes "A") 7 0) refl, tt),
                        ),
                      ),
                    ),
                  ),
                ),
              ),
            ),
          ),
        ),
      ),
    ),
  ),
)

-- 70: the card writer, for no lines
card_given : Each Given (70 ∷ [])
unfolding card_written card_checked codes run_of Digits.number_after every plain is_count opening algorithm_name same token_at next_at count_at seed_at
    challenge_of
card_given = (Given.card (replicate 10 97) (codes "otp-md5 9 a ") 0 0 refl, tt)

-- All of them, in the order of the list.
abbrev twenties : List ℕ
twenties = 20 ∷ 21 ∷ 22 ∷ 23 ∷ 24 ∷ 25 ∷ []

abbrev pub thirties : List ℕ
thirties = 30 ∷ 31 ∷ 32 ∷ 33 ∷ 34 ∷ 35 ∷ []

abbrev fifties : List ℕ
fifties = 50 ∷ 51 ∷ 52 ∷ 53 ∷ 54 ∷ 55 ∷ 56 ∷ 57 ∷ 58 ∷ 59 ∷ 60 ∷ 61 ∷ 62 ∷ 63 ∷ []

pub numbers_given : Each Given listed
numbers_given =
    each_append Given (10 ∷ 11 ∷ 12 ∷ 13 ∷ []) (twenties ++ (thirties ++ (40 ∷ fifties ++ 70 ∷ []))) generator_given
    (each_append Given twenties (thirties ++ (40 ∷ fifties ++ 70 ∷ [])) challenge_given
    (each_append Given thirties (40 ∷ fifties ++ 70 ∷ []) (each_append Given (30 ∷ 31 ∷ 32 ∷ 33 ∷ []) (34 ∷ 35 ∷ []) reply_given extended_given)
    (writer_given.0, each_append Given fifties (70 ∷ []) table_given card_given)))
