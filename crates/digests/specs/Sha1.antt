-- SHA-1 as FIPS 180-4 gives it, in its order and with its names.
use Rattle.std.specs.Prelude.{ℕ, zero, suc, ◌-◌, cond, List, [], ◌∷◌, ◌++◌, ltb, length, get_or}
use Rattle.std.specs.Int.Bits.{bit_and, bit_xor}
use Rattle.digests.specs.declared.Order.{Order}
use Rattle.digests.specs.declared.FiveWords.{FiveWords}
use Rattle.digests.specs.Words32.{add, rotated, complement, bytes4}
use Rattle.digests.specs.Padding.{blocks, absorbed}
use Rattle.digests.specs.Hash.{Kept}

-- 4.1.1: the functions, and the one of step t
abbrev pub Ch : ℕ → ℕ → ℕ → ℕ
Ch x y z = bit_xor (bit_and x y) (bit_and (complement x) z)

abbrev pub Parity : ℕ → ℕ → ℕ → ℕ
Parity x y z = bit_xor (bit_xor x y) z

abbrev pub Maj : ℕ → ℕ → ℕ → ℕ
Maj x y z = bit_xor (bit_xor (bit_and x y) (bit_and x z)) (bit_and y z)

unfoldable pub f : ℕ → ℕ → ℕ → ℕ → ℕ
f t = cond (ltb t 20) Ch (cond (ltb t 40) Parity (cond (ltb t 60) Maj Parity))

-- 4.2.1: the constant of step t
unfoldable pub K : ℕ → ℕ
K t = cond (ltb t 20) 0x5a827999 (cond (ltb t 40) 0x6ed9eba1 (cond (ltb t 60) 0x8f1bbcdc 0xca62c1d6))

-- 5.1.1 pads a message, and 5.2.1 parses it, as RFC 1321 does but for the byte order: Padding.antt.

-- 5.3.1: the initial hash value
abbrev pub initial : FiveWords
initial = record { a = 0x67452301; b = 0xefcdab89; c = 0x98badcfe; d = 0x10325476; e = 0xc3d2e1f0 }

-- 6.1.2, 1: word t of the message schedule of the block M, from the words W before it; and the first n words.
abbrev pub word_at : List ℕ → ℕ → List ℕ → ℕ
word_at M t W =
    cond (ltb t 16) (get_or M t 0)
    (rotated (bit_xor (bit_xor (bit_xor (get_or W (t - 3) 0) (get_or W (t - 8) 0)) (get_or W (t - 14) 0)) (get_or W (t - 16) 0)) 1)

unfoldable pub longer : List ℕ → ℕ → List ℕ → List ℕ
longer M t W = W ++ word_at M t W ∷ []

unfoldable pub schedule : List ℕ → ℕ → List ℕ
schedule M zero = []
schedule M (suc t) = longer M t (schedule M t)

-- 6.1.2, 3: a step on the working variables v, with x for f_t(b, c, d), k for K_t and w for W_t; step t; and the first
-- n steps.
unfoldable pub step_with : ℕ → ℕ → ℕ → FiveWords → FiveWords
step_with x k w v =
    record {
      a = add (add (add (add (rotated v.a 5) x) v.e) k) w;
      b = v.a;
      c = rotated v.b 30;
      d = v.c;
      e = v.d;
    }

unfoldable pub step : ℕ → ℕ → FiveWords → FiveWords
step t w v = step_with (f t v.b v.c v.d) (K t) w v

unfoldable pub steps : List ℕ → ℕ → FiveWords → FiveWords
steps W zero v = v
steps W (suc t) v = step t (get_or W t 0) (steps W t v)

-- 6.1.2, 2 to 4: the hash value after the block M, where it was H before.
abbrev pub summed : FiveWords → FiveWords → FiveWords
summed v H =
    record {
      a = add v.a H.a;
      b = add v.b H.b;
      c = add v.c H.c;
      d = add v.d H.d;
      e = add v.e H.e;
    }

unfoldable pub compressed : List ℕ → FiveWords → FiveWords
compressed M H = summed (steps (schedule M 80) 80 H) H

-- 6.1.2: the hash value after all blocks of the padded message, and the digest: its five words
unfoldable pub hash_value : List ℕ → FiveWords
hash_value m = absorbed Order.Big compressed initial m (blocks (length m))

unfoldable pub sha1 : List ℕ → List ℕ
sha1 m =
    bytes4 Order.Big (hash_value m).a ++ bytes4 Order.Big (hash_value m).b ++ bytes4 Order.Big (hash_value m).c
    ++ bytes4 Order.Big (hash_value m).d ++ bytes4 Order.Big (hash_value m).e

-- The five words as the digest's bytes; what SHA-1 keeps of a message, and the steps of a block.
abbrev pub output : FiveWords → List ℕ
output H = bytes4 Order.Big H.a ++ bytes4 Order.Big H.b ++ bytes4 Order.Big H.c ++ bytes4 Order.Big H.d ++ bytes4 Order.Big H.e

abbrev pub kept : Kept FiveWords
kept = record { order = Order.Big; initial = initial; summed = summed; output = output }

abbrev pub eighty : List ℕ → FiveWords → FiveWords
eighty M = steps (schedule M 80) 80
