-- MD5 as RFC 1321 gives it: the registers at the start, after all blocks, and the digest.
use Rattle.std.specs.Prelude.{ℕ, List, ◌++◌, length}
use Rattle.digests.specs.declared.Order.{Order}
use Rattle.digests.specs.declared.State.{State}
use Rattle.digests.specs.Words32.{bytes4}
use Rattle.digests.specs.Padding.{blocks, absorbed}
use Rattle.digests.specs.Hash.{Kept}
use Rattle.digests.specs.Rounds.{compressed, increased}

-- 3.3: the registers at the start
abbrev pub initial : State
initial = record { a = 0x67452301; b = 0xefcdab89; c = 0x98badcfe; d = 0x10325476 }

-- 3.4: the registers after all blocks of the padded message
unfoldable pub registers : List ℕ → State
registers m = absorbed Order.Little compressed initial m (blocks (length m))

-- 3.5: the output is A, B, C, D, each low-order byte first; and the digest of a message
abbrev pub output : State → List ℕ
output q =
    bytes4 Order.Little q.a ++ bytes4 Order.Little q.b ++ bytes4 Order.Little q.c ++ bytes4 Order.Little q.d

unfoldable pub md5 : List ℕ → List ℕ
md5 m = output (registers m)

-- What MD5 keeps of a message.
abbrev pub kept : Kept State
kept = record { order = Order.Little; initial = initial; summed = increased; output = output }
