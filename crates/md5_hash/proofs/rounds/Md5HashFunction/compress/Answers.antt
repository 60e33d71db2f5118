-- `compress` meets its promise: the rows of a round are its sixteen operations, and each round goes on from the one before.
use Rattle.std.proofs.Common.{ap, ◌∙◌}
use Rattle.digests.specs.Rounds.{round1, round2, round3, round4, performed, rounds, increased}
use Rattle.md5_hash.specs.Inside.{round_of}
use Rattle.md5_hash.specs.OperationLaws.{sixteen_performed}
use Rattle.md5_hash.proofs.rounds.Md5HashFunction.compress.Goals as goal

pub returns : goal.returns
unfolding round_of rounds
returns c =
    let w = c.args.w.now in
    c.summed.ensures ∙ ap (λ q. increased q c.args.p)
    (sixteen_performed round4 w _ _ _ _ _
    c.four_of-q-13.ensures c.four_of-q-14.ensures c.four_of-q-15.ensures c.four_of.ensures
    ∙ ap (performed round4 w 16) (sixteen_performed round3 w _ _ _ _ _
    c.four_of-q-9.ensures c.four_of-q-10.ensures c.four_of-q-11.ensures c.four_of-q-12.ensures
    ∙ ap (performed round3 w 16) (sixteen_performed round2 w _ _ _ _ _
    c.four_of-q-5.ensures c.four_of-q-6.ensures c.four_of-q-7.ensures c.four_of-q-8.ensures
    ∙ ap (performed round2 w 16) (sixteen_performed round1 w _ _ _ _ _
    c.four_of-q.ensures c.four_of-q-2.ensures c.four_of-q-3.ensures c.four_of-q-4.ensures))))
