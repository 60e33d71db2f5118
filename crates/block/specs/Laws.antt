-- Laws of the padded message: what its bytes are in each of its four parts, and a block by its bytes.
use Rattle.std.specs.Prelude.{◌≡◌, ℕ, ◌+◌, ◌-◌, ◌*◌, ◌<◌, ◌≤◌, List, length, slice_index, slice_index_or}
use Rattle.std.proofs.Math.Path.{ap}
use Rattle.std.proofs.Common.{sym, ◌∙◌, arith}
use borrow.Author.Tests.{lt-ltb, le-ltb, eq-eqb, ne_eqb}
use Rattle.digests.specs.declared.Order.{Order}
use Rattle.digests.specs.Lists.{up_to, length-up_to, get_d_up_to, Filling, filling_ends}
use Rattle.digests.specs.Words32.{word}
use Rattle.digests.specs.Padding.{blocks, length_byte, padded_byte, padded_word}
use Rattle.block.specs.Inside.{message_bytes, block_bytes}
use Rattle.block.specs.WordLaws.{first_word, four_bytes}

module _ (order : Order) (m : List ℕ) (i : ℕ) where
  pub byte_message : i < length m → padded_byte order m i ≡ slice_index m i
  unfolding padded_byte
  byte_message h = simp (lt-ltb _ _ h)

  pub byte_one : i ≡ length m → padded_byte order m i ≡ 128
  unfolding padded_byte
  byte_one e = simp (le-ltb i (length m) (omega arith), eq-eqb _ _ e)

  pub byte_zero : length m < i → i < 64 * blocks (length m) - 8 → padded_byte order m i ≡ 0
  unfolding padded_byte
  byte_zero h k = simp (le-ltb i (length m) (omega arith), ne_eqb i (length m) (omega arith), lt-ltb _ _ k)

  pub byte_length : length m < i → 64 * blocks (length m) - 8 ≤ i
      → padded_byte order m i ≡ length_byte order (8 * length m) (i - (64 * blocks (length m) - 8))
  unfolding padded_byte
  byte_length h k =
      simp (le-ltb i (length m) (omega arith), ne_eqb i (length m) (omega arith), le-ltb _ _ k)

-- A word that lies in the message is the message's own four bytes.
pub word_message : (order : Order) (m : List ℕ) (i : ℕ) → 4 * i + 4 ≤ length m → padded_word order m i
    ≡ word order (slice_index m (4 * i)) (slice_index m (4 * i + 1)) (slice_index m (4 * i + 2)) (slice_index m (4 * i + 3))
unfolding padded_word
word_message order m i h =
    rw (
      byte_message order m (4 * i) (omega arith),
      byte_message order m (4 * i + 1) (omega arith),
      byte_message order m (4 * i + 2) (omega arith),
      byte_message order m (4 * i + 3) (omega arith),
    )

-- The bytes of a block that lies in the message are the message's.
pub bytes_message : (order : Order) (m : List ℕ) (j : ℕ) → 64 * j + 64 ≤ length m → message_bytes m j ≡ block_bytes order m j
unfolding message_bytes block_bytes
bytes_message order m j h =
    let own : ℕ → ℕ = λ i. slice_index_or m (64 * j + i) 0 in
    let same : Filling (up_to 64 own) 64 64 (λ i. padded_byte order m (64 * j + i)) =
    record {
      within = omega arith;
      long = length-up_to 64 own;
      filled = λ i below. get_d_up_to 64 own i below ∙ sym (byte_message order m (64 * j + i) (omega arith));
    } in
    filling_ends same (omega arith)

-- Word k of a block's own bytes is word k of the block.
module _ (order : Order) (m : List ℕ) (j : ℕ) where
  byte_block : (i n : ℕ) → i < 64 → n ≡ 64 * j + i → padded_byte order (block_bytes order m j) i ≡ padded_byte order m n
  unfolding block_bytes
  byte_block i n h e =
      let f : ℕ → ℕ = λ i. padded_byte order m (64 * j + i) in
      byte_message order (up_to 64 f) i (omega (arith, length-up_to 64 f)) ∙ get_d_up_to 64 f i h ∙ ap (padded_byte order m) (sym e)

  pub word_block : (k : ℕ) → k < 16 → padded_word order (block_bytes order m j) k ≡ padded_word order m (16 * j + k)
  unfolding padded_word
  word_block k h =
      let n = 4 * (16 * j + k) in
      let at = 4 * k in
      rw (
        byte_block at n (omega arith) (omega arith),
        byte_block (at + 1) (n + 1) (omega arith) (omega arith),
        byte_block (at + 2) (n + 2) (omega arith) (omega arith),
        byte_block (at + 3) (n + 3) (omega arith) (omega arith),
      )

-- Word k of a block is what its own four bytes are.
pub word_of_block : (order : Order) (m b : List ℕ) (j k : ℕ) → b ≡ block_bytes order m j → k < 16
    → first_word order (four_bytes b (4 * k)) ≡ padded_word order m (16 * j + k)
unfolding block_bytes
word_of_block order m b j k e h =
    let long : length b ≡ 64 = ap length e ∙ length-up_to 64 (λ i. padded_byte order m (64 * j + i)) in
    sym (word_message order b k (omega arith)) ∙ ap (λ (l : List ℕ). padded_word order l k) e ∙ word_block order m j k h
