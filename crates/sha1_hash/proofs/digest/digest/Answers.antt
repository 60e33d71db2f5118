-- `digest` meets its promise: SHA-1 is the hash function over its eighty steps.
use Rattle.digests.specs.Sha1.{sha1, hash_value, compressed}
use Rattle.sha1_hash.proofs.digest.digest.Goals as goal

pub returns : goal.returns
unfolding sha1 hash_value compressed
returns c = c.digest.ensures
