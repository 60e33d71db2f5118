-- The four rounds of RFC 1321, 3.4: the four functions, the operations on the registers.
use Rattle.std.specs.Prelude.{ℕ, zero, suc, List, [], ◌∷◌, get_or}
use Rattle.std.specs.Int.Bits.{bit_and, bit_or, bit_xor}
use Rattle.digests.specs.declared.State.{State}
use Rattle.digests.specs.Words32.{add, rotated, complement}

-- 3.4: the four functions
abbrev pub F : ℕ → ℕ → ℕ → ℕ
F x y z = bit_or (bit_and x y) (bit_and (complement x) z)

abbrev pub G : ℕ → ℕ → ℕ → ℕ
G x y z = bit_or (bit_and x z) (bit_and y (complement z))

abbrev pub H : ℕ → ℕ → ℕ → ℕ
H x y z = bit_xor (bit_xor x y) z

abbrev pub I : ℕ → ℕ → ℕ → ℕ
I x y z = bit_xor y (bit_or x (complement z))

-- 3.4: what tells a round from another. Its function; and for each of its sixteen operations
-- [abcd k s i] the message word k, the shift s and the constant T[i].
pub record Round : Type 0 where
  pub function : ℕ → ℕ → ℕ → ℕ
  pub order : List ℕ
  pub shifts : List ℕ
  pub constants : List ℕ

unfoldable pub round1 : Round
round1 =
    record {
      function = F;
      order = 0 ∷ 1 ∷ 2 ∷ 3 ∷ 4 ∷ 5 ∷ 6 ∷ 7 ∷ 8 ∷ 9 ∷ 10 ∷ 11 ∷ 12 ∷ 13 ∷ 14 ∷ 15 ∷ [];
      shifts = 7 ∷ 12 ∷ 17 ∷ 22 ∷ 7 ∷ 12 ∷ 17 ∷ 22 ∷ 7 ∷ 12 ∷ 17 ∷ 22 ∷ 7 ∷ 12 ∷ 17 ∷ 22 ∷ [];
      constants =
          0xd76aa478 ∷ 0xe8c7b756 ∷ 0x242070db ∷ 0xc1bdceee
          ∷ 0xf57c0faf ∷ 0x4787c62a ∷ 0xa8304613 ∷ 0xfd469501
          ∷ 0x698098d8 ∷ 0x8b44f7af ∷ 0xffff5bb1 ∷ 0x895cd7be
          ∷ 0x6b901122 ∷ 0xfd987193 ∷ 0xa679438e ∷ 0x49b40821 ∷ [];
    }

unfoldable pub round2 : Round
round2 =
    record {
      function = G;
      order = 1 ∷ 6 ∷ 11 ∷ 0 ∷ 5 ∷ 10 ∷ 15 ∷ 4 ∷ 9 ∷ 14 ∷ 3 ∷ 8 ∷ 13 ∷ 2 ∷ 7 ∷ 12 ∷ [];
      shifts = 5 ∷ 9 ∷ 14 ∷ 20 ∷ 5 ∷ 9 ∷ 14 ∷ 20 ∷ 5 ∷ 9 ∷ 14 ∷ 20 ∷ 5 ∷ 9 ∷ 14 ∷ 20 ∷ [];
      constants =
          0xf61e2562 ∷ 0xc040b340 ∷ 0x265e5a51 ∷ 0xe9b6c7aa
          ∷ 0xd62f105d ∷ 0x02441453 ∷ 0xd8a1e681 ∷ 0xe7d3fbc8
          ∷ 0x21e1cde6 ∷ 0xc33707d6 ∷ 0xf4d50d87 ∷ 0x455a14ed
          ∷ 0xa9e3e905 ∷ 0xfcefa3f8 ∷ 0x676f02d9 ∷ 0x8d2a4c8a ∷ [];
    }

unfoldable pub round3 : Round
round3 =
    record {
      function = H;
      order = 5 ∷ 8 ∷ 11 ∷ 14 ∷ 1 ∷ 4 ∷ 7 ∷ 10 ∷ 13 ∷ 0 ∷ 3 ∷ 6 ∷ 9 ∷ 12 ∷ 15 ∷ 2 ∷ [];
      shifts = 4 ∷ 11 ∷ 16 ∷ 23 ∷ 4 ∷ 11 ∷ 16 ∷ 23 ∷ 4 ∷ 11 ∷ 16 ∷ 23 ∷ 4 ∷ 11 ∷ 16 ∷ 23 ∷ [];
      constants =
          0xfffa3942 ∷ 0x8771f681 ∷ 0x6d9d6122 ∷ 0xfde5380c
          ∷ 0xa4beea44 ∷ 0x4bdecfa9 ∷ 0xf6bb4b60 ∷ 0xbebfbc70
          ∷ 0x289b7ec6 ∷ 0xeaa127fa ∷ 0xd4ef3085 ∷ 0x04881d05
          ∷ 0xd9d4d039 ∷ 0xe6db99e5 ∷ 0x1fa27cf8 ∷ 0xc4ac5665 ∷ [];
    }

unfoldable pub round4 : Round
round4 =
    record {
      function = I;
      order = 0 ∷ 7 ∷ 14 ∷ 5 ∷ 12 ∷ 3 ∷ 10 ∷ 1 ∷ 8 ∷ 15 ∷ 6 ∷ 13 ∷ 4 ∷ 11 ∷ 2 ∷ 9 ∷ [];
      shifts = 6 ∷ 10 ∷ 15 ∷ 21 ∷ 6 ∷ 10 ∷ 15 ∷ 21 ∷ 6 ∷ 10 ∷ 15 ∷ 21 ∷ 6 ∷ 10 ∷ 15 ∷ 21 ∷ [];
      constants =
          0xf4292244 ∷ 0x432aff97 ∷ 0xab9423a7 ∷ 0xfc93a039
          ∷ 0x655b59c3 ∷ 0x8f0ccc92 ∷ 0xffeff47d ∷ 0x85845dd1
          ∷ 0x6fa87e4f ∷ 0xfe2ce6e0 ∷ 0xa3014314 ∷ 0x4e0811a1
          ∷ 0xf7537e82 ∷ 0xbd3af235 ∷ 0x2ad7d2bb ∷ 0xeb86d391 ∷ [];
    }

-- 3.4: one operation, a = b + ((a + f(b,c,d) + X[k] + T[i]) <<< s), with x for X[k] and t for T[i].
-- The registers then change places, as the RFC's ABCD, DABC, CDAB, BCDA do.
unfoldable pub operation : (ℕ → ℕ → ℕ → ℕ) → ℕ → ℕ → ℕ → State → State
operation f x s t q =
    record {
      a = q.d;
      b = add q.b (rotated (add (add (add q.a (f q.b q.c q.d)) x) t) s);
      c = q.b;
      d = q.c;
    }

-- 3.4: the first n operations of a round on the block X.
unfoldable pub performed : Round → List ℕ → ℕ → State → State
performed r X zero q = q
performed r X (suc n) q =
    operation r.function (get_or X (get_or r.order n 0) 0) (get_or r.shifts n 0)
    (get_or r.constants n 0) (performed r X n q)

-- 3.4: the four rounds, and the increment of each register by the value it had before.
unfoldable pub rounds : List ℕ → State → State
rounds X q = performed round4 X 16 (performed round3 X 16 (performed round2 X 16 (performed round1 X 16 q)))

abbrev pub increased : State → State → State
increased q p = record { a = add q.a p.a; b = add q.b p.b; c = add q.c p.c; d = add q.d p.d }

unfoldable pub compressed : List ℕ → State → State
compressed X q = increased (rounds X q) q
