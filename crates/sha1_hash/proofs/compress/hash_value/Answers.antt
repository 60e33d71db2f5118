-- `hash_value` meets its promise: SHA-1 is the hash function over its eighty steps.
use Rattle.digests.specs.Sha1.{hash_value, compressed}
use Rattle.sha1_hash.proofs.compress.hash_value.Goals as goal

pub returns : goal.returns
unfolding hash_value compressed
returns c = c.hash.ensures
