-- What the program prints for some inputs, as one theorem: a row of RFC 2289, Appendix C, for each algorithm, and refusals in their order.
use Rattle.std.specs.Prelude.{◌≡◌, refl, ℕ}
use mathlib.Core.List.{List, [], ◌∷◌, ◌++◌, map, flatten}
use Rattle.text.specs.Scan.{run_of}
use Rattle.text.specs.Digits.{digits_of, number_after}
use Rattle.text.specs.Quoted.{codes}
use Rattle.text.specs.Tests.{every, same}
use Rattle.digests.specs.Lists.{up_to}
use Rattle.digests.specs.Padding.{padded_byte, padded_word, block_at, absorbed}
use Rattle.digests.specs.Md5.{md5, registers}
use Rattle.digests.specs.Rounds.{compressed, rounds, performed, operation, round1, round2, round3, round4}
use Rattle.digests.specs.Sha1 as Sha1
use Rattle.password.specs.Algorithm.{algorithm_name}
use Rattle.password.specs.PhraseAndSeed.{plain}
use Rattle.password.specs.Password.{fold, fold_words, number_after as bytes_after, hash, password}
use Rattle.dictionary.specs.Words.{words_in, lines, words}
use Rattle.sixwords.specs.Places.{pairs, pair_sum, whole, cut, places_of}
use Rattle.sixwords.specs.Spelling.{spaced_from}
use Rattle.text.specs.Counts.{is_count}
use Rattle.challenge.specs.Challenges.{opening, token_at, next_at, count_at, seed_at, challenge_of}
use Rattle.cards.specs.CardLines.{line_of, card_text}
use Rattle.cards.specs.CardChecks.{card_checked}
use Rattle.cards.specs.Cards.{card_of}
use Rattle.cards.specs.Printed.{lines_asked, refused_text, printed_card, answer_of}

-- lines with a newline after each
unfoldable pub typed : List (List ℕ) → List ℕ
typed [] = []
typed (line ∷ lines) = line ++ 10 ∷ [] ++ typed lines

pub refusals : map answer_of (
    []
    ∷ typed (codes "too short" ∷ codes "otp-md5 1 TeSt" ∷ codes "0" ∷ [])
    ∷ typed (codes "This is a test." ∷ [])
    ∷ typed (codes "This is a test." ∷ codes "otp-md4 1 Te_St" ∷ codes "x" ∷ [])
    ∷ typed (codes "This is a test." ∷ codes "otp-md5 1 Te_St" ∷ codes "x" ∷ [])
    ∷ (codes "This is a test." ++ 10 ∷ [] ++ codes "otp-md5 1 TeSt")
    ∷ typed (codes "This is a test." ∷ codes "otp-md5 1 TeSt" ∷ [])
    ∷ typed (codes "This is a test." ∷ codes "otp-md5 1 TeSt" ∷ codes "01" ∷ [])
    ∷ typed (codes "This is a test." ∷ codes "otp-md5 1 TeSt" ∷ codes "2" ∷ [])
    ∷ [])
    ≡ map (λ number. codes "refused " ++ number ++ 10 ∷ [])
    (codes "10" ∷ codes "10" ∷ codes "20" ∷ codes "21" ∷ codes "24" ∷ codes "25" ∷ codes "70" ∷ codes "70" ∷ codes "70" ∷ [])
unfolding typed answer_of printed_card lines_asked refused_text card_checked run_of digits_of number_after codes every
    plain is_count opening algorithm_name same token_at next_at count_at seed_at challenge_of
refusals = refl

-- the rows of the pass-phrase `This is a test.` and the seed `TeSt` at count 1, by the challenge's algorithm
pub rows : map answer_of (
    typed (codes "This is a test." ∷ codes "otp-md5 1 TeSt" ∷ codes "1" ∷ [])
    ∷ typed (codes "This is a test." ∷ codes "otp-sha1 1 TeSt" ∷ codes "1" ∷ [])
    ∷ [])
    ≡ (codes "1 7965e05436f5029f EASE OIL FUM CURE AWRY AVIS" ++ 10 ∷ [])
    ∷ (codes "1 63d936639734385b CART OTTO HIVE ODE VAT NUT" ++ 10 ∷ [])
    ∷ []
unfolding typed answer_of printed_card lines_asked card_checked card_of card_text line_of run_of digits_of number_after
    codes every plain is_count opening algorithm_name same token_at next_at count_at seed_at challenge_of password hash fold fold_words bytes_after md5
    registers absorbed compressed rounds performed operation round1 round2 round3 round4
    Sha1.hash_value Sha1.compressed Sha1.schedule Sha1.longer Sha1.steps Sha1.step Sha1.step_with Sha1.f Sha1.K
    block_at padded_word padded_byte up_to
    spaced_from places_of cut whole pairs pair_sum words_in lines words flatten
rows = refl
