-- A message padded to whole blocks and cut into words: RFC 1321, 3.1, 3.2 and 2; FIPS 180-4, 5.1.1 and 5.2.1.
-- The byte order is a parameter, since FIPS 180-4 pads alike and writes its numbers the other way round.
use Rattle.std.specs.Prelude.{ℕ, zero, suc, ◌+◌, ◌*◌, ◌-◌, ◌/◌, ◌%◌, ◌^◌, cond, List, ltb, eqb, length, get_or}
use Rattle.digests.specs.declared.Order.{Order}
use Rattle.digests.specs.Lists.{up_to}
use Rattle.digests.specs.Words32.{word}

-- RFC 1321, 3.1 and 3.2; FIPS 180-4, 5.1.1: how many blocks of 64 bytes a message of n bytes takes: the fewest that hold the message,
-- the byte that starts the padding, and the eight bytes of the length.
abbrev pub blocks : ℕ → ℕ
blocks n = (n + 8) / 64 + 1

-- RFC 1321, 3.2; FIPS 180-4, 5.1.1: byte k of a length in bits, written as eight bytes.
abbrev pub length_byte : Order → ℕ → ℕ → ℕ
length_byte Order.Little bits k = bits / 2 ^ (8 * k) % 256
length_byte Order.Big bits k = bits / 2 ^ (8 * (7 - k)) % 256

-- RFC 1321, 3.1 and 3.2; FIPS 180-4, 5.1.1: byte i of the padded message: the message; one bit 1 and then bits 0; in
-- the last eight bytes the message's length in bits.
unfoldable pub padded_byte : Order → List ℕ → ℕ → ℕ
padded_byte order m i =
    cond (ltb i (length m)) (get_or m i 0)
    (cond (eqb i (length m)) 128
    (cond (ltb i (64 * blocks (length m) - 8)) 0
    (length_byte order (8 * length m) (i - (64 * blocks (length m) - 8)))))

-- RFC 1321, 2; FIPS 180-4, 3.1: word i of the padded message.
unfoldable pub padded_word : Order → List ℕ → ℕ → ℕ
padded_word order m i =
    word order (padded_byte order m (4 * i)) (padded_byte order m (4 * i + 1))
    (padded_byte order m (4 * i + 2)) (padded_byte order m (4 * i + 3))

-- RFC 1321, 3.4; FIPS 180-4, 5.2.1: block j of the padded message, its sixteen words.
unfoldable pub block_at : Order → List ℕ → ℕ → List ℕ
block_at order m j = up_to 16 (λ k. padded_word order m (16 * j + k))

-- RFC 1321, 3.4, "Process Message in 16-Word Blocks"; FIPS 180-4, 6.1.2: a state after the first n blocks, each taken in by f.
unfoldable pub absorbed : {S : Type 0} → Order → (List ℕ → S → S) → S → List ℕ → ℕ → S
absorbed order f s m zero = s
absorbed order f s m (suc n) = f (block_at order m n) (absorbed order f s m n)
