-- `Constants::new` has what the RFC prints.
use Rattle.std.proofs.Common.{refl}
use Rattle.digests.specs.Rounds.{round1, round2, round3, round4}
use Rattle.md5_hash.specs.Inside.{round_of}
use Rattle.md5_hash.proofs.constants.Constants.new.Goals as goal

pub invariant_of-result : goal.invariant_of-result
unfolding round_of round1 round2 round3 round4
invariant_of-result c = record { first = refl; second = refl; third = refl; fourth = refl }
