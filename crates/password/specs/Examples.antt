-- A row of RFC 2289, Appendix C, for each algorithm, at counts 0 and 1, as one theorem; the program `vectors` runs them all.
use Rattle.std.specs.Prelude.{ℕ, ◌≡◌, refl, [], ◌∷◌, ◌++◌, map, Ok}
use Rattle.refusal.specs.Answers.{Reading}
use Rattle.digests.specs.Lists.{up_to}
use Rattle.digests.specs.Padding.{padded_byte, padded_word, block_at, absorbed}
use Rattle.digests.specs.Md5.{md5, registers}
use Rattle.digests.specs.Rounds.{compressed, rounds, performed, operation, round1, round2, round3, round4}
use Rattle.digests.specs.Sha1 as Sha1
use Rattle.text.specs.Quoted.{codes}
use Rattle.text.specs.Tests.{every}
use Rattle.password.specs.PhraseAndSeed.{plain}
use Rattle.password.specs.Password.{fold, fold_words, number_after, hash, password, generated_by, generated}

-- The pass-phrase `This is a test.` and the seed `TeSt`, with an algorithm by its number and at a count.
unfoldable pub row : ℕ → ℕ → Reading
row algorithm count = generated algorithm (codes "This is a test.") (codes "TeSt") count

pub examples : map (row 1) (0 ∷ 1 ∷ []) ++ map (row 2) (0 ∷ 1 ∷ [])
    ≡ Ok 0x9e876134d90499dd ∷ Ok 0x7965e05436f5029f
    ∷ Ok 0xbb9e6ae1979d8ff4 ∷ Ok 0x63d936639734385b ∷ []
unfolding row codes generated generated_by plain every password hash fold fold_words number_after md5 registers
    absorbed compressed rounds performed operation round1 round2 round3 round4
    Sha1.hash_value Sha1.compressed Sha1.schedule Sha1.longer Sha1.steps Sha1.step Sha1.step_with Sha1.f Sha1.K
    block_at padded_word padded_byte up_to
examples = refl
