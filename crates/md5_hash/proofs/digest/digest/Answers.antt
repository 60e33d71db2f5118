-- `digest` meets its promise: MD5 is the hash function over its rounds.
use Rattle.digests.specs.Rounds.{compressed}
use Rattle.digests.specs.Md5.{registers, md5}
use Rattle.md5_hash.proofs.digest.digest.Goals as goal

pub returns : goal.returns
unfolding md5 registers compressed
returns c = c.digest.ensures
