-- `registers` meets its promise: MD5 is the hash function over its rounds.
use Rattle.digests.specs.Rounds.{compressed}
use Rattle.digests.specs.Md5.{registers}
use Rattle.md5_hash.proofs.compress.registers.Goals as goal

pub returns : goal.returns
unfolding registers compressed
returns c = c.hash.ensures
