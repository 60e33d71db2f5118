-- Helper definitions of private functions: nothing outside this crate rests on them.
use Rattle.std.specs.Prelude.{ℕ, ◌+◌, ◌*◌, cond, List, eqb, length, slice_index}
use Rattle.digests.specs.declared.Order.{Order}
use Rattle.digests.specs.Lists.{up_to}
use Rattle.digests.specs.Padding.{length_byte, padded_byte}

-- The 64 bytes of the message that block j has, if it lies in the message.
unfoldable pub message_bytes : List ℕ → ℕ → List ℕ
message_bytes m j = up_to 64 (λ i. slice_index m (64 * j + i))

-- A message of n bytes has its length in bits behind it, as eight bytes.
abbrev pub length_bytes : Order → ℕ → List ℕ
length_bytes order n = up_to 8 (length_byte order (8 * n))

-- Byte i of a message that the byte 128 ends, and zeros behind it.
abbrev pub marked_byte : List ℕ → ℕ → ℕ
marked_byte m i = cond (eqb i (length m)) 128 (slice_index m i)

-- The 64 bytes of block j without the length.
unfoldable pub marked_bytes : List ℕ → ℕ → List ℕ
marked_bytes m j = up_to 64 (λ i. marked_byte m (64 * j + i))

-- The 64 bytes of block j of the padded message.
unfoldable pub block_bytes : Order → List ℕ → ℕ → List ℕ
block_bytes order m j = up_to 64 (λ i. padded_byte order m (64 * j + i))
