-- From pass-phrase to password: document 01, the section of that name, in its order.
use Rattle.std.specs.Prelude.{ℕ, zero, suc, ◌+◌, cond, List, ◌++◌, map, ltb, get_or, Ok, Err}
use Rattle.std.specs.Int.Bits.{bit_xor}
use Rattle.digests.specs.Lists.{up_to}
use Rattle.refusal.specs.declared.Refusal.{Refusal}
use Rattle.refusal.specs.Answers.{Reading}
use Rattle.refusal.specs.Checks.{unless}
use Rattle.text.specs.Kinds.{lower_of}
use Rattle.digests.specs.declared.Order.{Order}
use Rattle.digests.specs.declared.FiveWords.{FiveWords}
use Rattle.digests.specs.Words32.{bytes4}
use Rattle.digests.specs.Md5.{md5}
use Rattle.digests.specs.Sha1.{hash_value, sha1}
use Rattle.password.specs.PhraseAndSeed.{phrase_checked, seed_checked}
use Rattle.password.specs.Algorithm.{numbered, algorithm_checked, algorithm_in}
use Rattle.password.specs.declared.algorithm.Algorithm.{Algorithm}
-- "The 8 bytes are one 64-bit number, first byte most significant"
unfoldable pub use Rattle.password.specs.EightBytes.{number_after}
pub use Rattle.password.specs.EightBytes.{number_of, bytes_of}

-- An algorithm's digest of a message: RFC 1321's, or FIPS 180's.
abbrev pub digest_by : Algorithm → List ℕ → List ℕ
digest_by Algorithm.Md5 = md5
digest_by Algorithm.Sha1 = sha1

-- "byte i of the 16-byte digest is xored with byte i+8, giving 8 bytes"
unfoldable pub fold : List ℕ → List ℕ
fold digest = up_to 8 (λ i. bit_xor (get_or digest i 0) (get_or digest (i + 8) 0))

-- R-1: "RFC 2289 Appendix A folds the five 32-bit words to two: word 0 xor word 2 xor word 4, and word 1 xor word 3; each
-- is then written least significant byte first"
unfoldable pub fold_words : FiveWords → List ℕ
fold_words h = bytes4 Order.Little (bit_xor (bit_xor h.a h.c) h.e) ++ bytes4 Order.Little (bit_xor h.b h.d)

-- The hash that an algorithm's passwords are made with: its digest, folded.
unfoldable pub hash : Algorithm → List ℕ → ℕ
hash Algorithm.Md5 m = number_of (fold (md5 m))
hash Algorithm.Sha1 m = number_of (fold_words (hash_value m))

-- "Password at count 0: fold of MD5 of seed followed by pass-phrase", the seed "turned to lower case
-- first"; "at count n+1: fold of MD5 of the 8 bytes at count n". With SHA-1 likewise.
unfoldable pub password : Algorithm → List ℕ → List ℕ → ℕ → ℕ
password algorithm phrase seed zero = hash algorithm (map lower_of seed ++ phrase)
password algorithm phrase seed (suc n) = hash algorithm (bytes_of (password algorithm phrase seed n))

-- "Counts are 0 to 9,999." "The generator checks 10, 11, 23, 24, 13 in that order."
unfoldable pub generated_by : Algorithm → List ℕ → List ℕ → ℕ → Reading
generated_by algorithm phrase seed count =
    unless Err (phrase_checked phrase)
    (unless Err (seed_checked seed)
    (cond (ltb 9999 count) (Err Refusal.CountHigh)
    (Ok (password algorithm phrase seed count))))

-- R-1: "an unknown algorithm gives 21 .. at the generator .. first". The algorithm is given by its number.
unfoldable pub generated : ℕ → List ℕ → List ℕ → ℕ → Reading
generated number phrase seed count =
    unless Err (algorithm_checked (numbered number))
    (generated_by (algorithm_in (numbered number)) phrase seed count)
