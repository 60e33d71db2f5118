-- `step` meets its promise: either algorithm is its hash function, folded.
use Rattle.std.proofs.Common.{sym, ap, ◌∙◌}
use Rattle.digests.specs.Rounds as rounds
use Rattle.digests.specs.Md5.{md5, registers}
use Rattle.digests.specs.Sha1 as sha1
use Rattle.password.specs.declared.algorithm.Algorithm.{Algorithm}
use Rattle.password.specs.Password.{bytes_of, hash}
use Rattle.generator.proofs.chain.step.Goals as goal

pub returns-in-Md5 : goal.returns-in-Md5
unfolding hash md5 registers rounds.compressed
returns-in-Md5 c = c.hash_of.ensures ∙ sym (ap (λ (a : Algorithm). hash a (bytes_of c.args.p)) c.in-Md5.is)

pub returns-in-Sha1 : goal.returns-in-Sha1
unfolding hash sha1.hash_value sha1.compressed
returns-in-Sha1 c = c.hash_of-in-Sha1.ensures ∙ sym (ap (λ (a : Algorithm). hash a (bytes_of c.args.p)) c.in-Sha1.is)
