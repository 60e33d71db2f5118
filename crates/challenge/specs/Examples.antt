-- 01, Checked examples: those on challenges and seeds, R-1's names and R-6's mark, as one theorem.
use Rattle.std.specs.Prelude.{◌≡◌, refl, true, false, List, [], ◌∷◌, ◌++◌, map, ℕ, Result, Err}
use Rattle.refusal.specs.declared.Refusal.{Refusal}
use Rattle.text.specs.Scan.{run_of}
use Rattle.text.specs.Digits.{number_after}
use Rattle.text.specs.Quoted.{codes}
use Rattle.text.specs.Tests.{every, same}
use Rattle.password.specs.declared.algorithm.Algorithm.{Algorithm}
use Rattle.password.specs.Algorithm.{algorithm_name}
use Rattle.password.specs.PhraseAndSeed.{plain}
use Rattle.challenge.specs.declared.reading.Challenge.{Challenge}
use Rattle.text.specs.Counts.{is_count}
use Rattle.challenge.specs.Challenges.{opening, token_at, next_at, count_at, seed_at, is_mark, has_mark, used_by, challenge_of, seed_of, a_challenge}

-- what a challenge says, and its seed
unfoldable pub said : List ℕ → Result Challenge Refusal × List ℕ
said text = (challenge_of text, seed_of text)

abbrev newline : List ℕ
newline = 10 ∷ []

pub examples : map said (
    (codes "otp-md5 487 dog2" ++ newline)
    ∷ codes "otp-md5 487 dog2"
    ∷ (codes "otp-md5 0487 dog2" ++ newline)
    ∷ (codes "otp-md5 1 SixteenLettersAA" ++ newline)
    ∷ (codes "otp-md5 1 SeventeenLettersA" ++ newline)
    ∷ (codes "otp-md5 1 _eventeenLettersA" ++ newline)
    ∷ (codes "otp-md5 1 Length_Okay" ++ newline)
    ∷ codes "otp-md5 99 A Seed"
    ∷ (codes "otp-sha1 487 dog2" ++ newline)
    ∷ (codes "otp-SHA1 487 dog2" ++ newline)
    ∷ (codes "otp-sha 487 dog2" ++ newline)
    ∷ (codes "otp-sha1x 487 dog2" ++ newline)
    ∷ codes "otp-"
    -- R-6: the mark, alone and with a list; without its terminator, in capitals, another token first or on the next line it is none
    ∷ (codes "otp-md5 487 dog2 ext" ++ newline)
    ∷ codes "otp-md5 487 dog2  ext,sha1, more"
    ∷ codes "otp-md5 487 dog2 ext"
    ∷ (codes "otp-md5 487 dog2 EXT" ++ newline)
    ∷ (codes "otp-md5 487 dog2 extra" ++ newline)
    ∷ (codes "otp-md5 487 dog2 a ext" ++ newline)
    ∷ (codes "otp-md5 487 dog2" ++ newline ++ codes "ext" ++ newline)
    ∷ [])
    ≡ (a_challenge Algorithm.Md5 487 12 4 17 false, codes "dog2")
    ∷ (Err Refusal.SeedUnended, [])
    ∷ (Err Refusal.CountUnread, [])
    ∷ (a_challenge Algorithm.Md5 1 10 16 27 false, codes "SixteenLettersAA")
    ∷ (Err Refusal.SeedLength, [])
    ∷ (Err Refusal.SeedLength, [])
    ∷ (Err Refusal.SeedCharacter, [])
    ∷ (a_challenge Algorithm.Md5 99 11 1 13 false, codes "A")
    ∷ (a_challenge Algorithm.Sha1 487 13 4 18 false, codes "dog2")
    ∷ (Err Refusal.AlgorithmUnknown, [])
    ∷ (Err Refusal.AlgorithmUnknown, [])
    ∷ (Err Refusal.AlgorithmUnknown, [])
    ∷ (Err Refusal.AlgorithmUnknown, [])
    ∷ (a_challenge Algorithm.Md5 487 12 4 21 true, codes "dog2")
    ∷ (a_challenge Algorithm.Md5 487 12 4 28 true, codes "dog2")
    ∷ (a_challenge Algorithm.Md5 487 12 4 17 false, codes "dog2")
    ∷ (a_challenge Algorithm.Md5 487 12 4 17 false, codes "dog2")
    ∷ (a_challenge Algorithm.Md5 487 12 4 17 false, codes "dog2")
    ∷ (a_challenge Algorithm.Md5 487 12 4 17 false, codes "dog2")
    ∷ (a_challenge Algorithm.Md5 487 12 4 17 false, codes "dog2")
    ∷ []
unfolding said codes run_of number_after every plain is_count opening algorithm_name same token_at next_at count_at seed_at is_mark has_mark used_by
    challenge_of
examples = refl
