-- A hash function that takes in a message block by block, as RFC 1321, 3.3 to 3.5, and FIPS 180-4, 5.3.1 and 6.1.2, have it: over what
-- it keeps of a message, and over the steps that a block's words take.
use Rattle.std.specs.Prelude.{ℕ, List, length}
use Rattle.digests.specs.declared.Order.{Order}
use Rattle.digests.specs.Padding.{blocks, absorbed}

-- What is kept in words W: the byte order of words and lengths, the words before the first block, the words after a block's steps with
-- those before it added, and the digest.
pub record Kept (W : Type 0) : Type 0 where
  pub order : Order
  pub initial : W
  pub summed : W → W → W
  pub output : W → List ℕ

module _ {W : Type 0} (kept : Kept W) (steps : List ℕ → W → W) where
  -- The words h with the block X taken in.
  abbrev pub taken_in : List ℕ → W → W
  taken_in X h = kept.summed (steps X h) h

  -- The words after a message, and its digest.
  abbrev pub hashed : List ℕ → W
  hashed m = absorbed kept.order taken_in kept.initial m (blocks (length m))

  abbrev pub digest : List ℕ → List ℕ
  digest m = kept.output (hashed m)
