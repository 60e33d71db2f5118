-- Worked examples as one theorem: the digests of "" and "abc". MD5's are from RFC 1321, A.5. Of SHA-1's, that of "abc"
-- is NIST's example for FIPS 180-4, and that of the empty text one of NIST's test vectors.
use Rattle.std.specs.Prelude.{ℕ, ◌≡◌, refl, List, [], ◌∷◌, ◌++◌, map}
use Rattle.digests.specs.Lists.{up_to}
use Rattle.digests.specs.Padding.{padded_byte, padded_word, block_at, absorbed}
use Rattle.digests.specs.Rounds.{compressed, rounds, performed, operation, round1, round2, round3, round4}
use Rattle.digests.specs.Md5.{md5, registers}
use Rattle.digests.specs.Sha1 as Sha1

unfoldable pub texts : List (List ℕ)
texts = [] ∷ (97 ∷ 98 ∷ 99 ∷ []) ∷ []

unfoldable pub digests : List (List ℕ)
digests =
    (0xd4 ∷ 0x1d ∷ 0x8c ∷ 0xd9 ∷ 0x8f ∷ 0x00 ∷ 0xb2 ∷ 0x04 ∷ 0xe9 ∷ 0x80 ∷ 0x09 ∷ 0x98 ∷ 0xec ∷ 0xf8 ∷ 0x42 ∷ 0x7e ∷ [])
    ∷ (0x90 ∷ 0x01 ∷ 0x50 ∷ 0x98 ∷ 0x3c ∷ 0xd2 ∷ 0x4f ∷ 0xb0 ∷ 0xd6 ∷ 0x96 ∷ 0x3f ∷ 0x7d ∷ 0x28 ∷ 0xe1 ∷ 0x7f ∷ 0x72 ∷ [])
    ∷ (0xda ∷ 0x39 ∷ 0xa3 ∷ 0xee ∷ 0x5e ∷ 0x6b ∷ 0x4b ∷ 0x0d ∷ 0x32 ∷ 0x55
    ∷ 0xbf ∷ 0xef ∷ 0x95 ∷ 0x60 ∷ 0x18 ∷ 0x90 ∷ 0xaf ∷ 0xd8 ∷ 0x07 ∷ 0x09 ∷ [])
    ∷ (0xa9 ∷ 0x99 ∷ 0x3e ∷ 0x36 ∷ 0x47 ∷ 0x06 ∷ 0x81 ∷ 0x6a ∷ 0xba ∷ 0x3e
    ∷ 0x25 ∷ 0x71 ∷ 0x78 ∷ 0x50 ∷ 0xc2 ∷ 0x6c ∷ 0x9c ∷ 0xd0 ∷ 0xd8 ∷ 0x9d ∷ [])
    ∷ []

pub examples : map md5 texts ++ map Sha1.sha1 texts ≡ digests
unfolding texts digests md5 registers absorbed compressed rounds performed operation round1 round2 round3 round4
    Sha1.sha1 Sha1.hash_value Sha1.compressed Sha1.schedule Sha1.longer Sha1.steps Sha1.step Sha1.step_with Sha1.f Sha1.K
    block_at padded_word padded_byte up_to
examples = refl
