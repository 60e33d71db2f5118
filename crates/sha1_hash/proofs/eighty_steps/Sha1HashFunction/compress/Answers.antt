-- `compress` meets its promise: eighty steps, sixteen at a time, and the sum.
use Rattle.std.proofs.Common.{ap, ◌∙◌}
use Rattle.digests.specs.Sha1.{summed}
use Rattle.sha1_hash.proofs.BySixteen.{eighty_by_sixteen}
use Rattle.sha1_hash.proofs.eighty_steps.Quarters.{sixteen_steps}
use Rattle.sha1_hash.proofs.eighty_steps.Sha1HashFunction.compress.Goals as goal

pub returns : goal.returns
returns c =
    c.summed.ensures ∙ ap (λ v. summed v c.args.h)
    (eighty_by_sixteen c.args.w.now c.args.h _ _ _ _ _ _ _ _ _
    (sixteen_steps 0 _ _ _ _ _ _ _ _ _ _ c.part.ensures c.four_of-v.ensures c.part-2.ensures c.four_of-v-2.ensures
    c.part-3.ensures c.four_of-v-3.ensures c.part-4.ensures c.four_of-v-4.ensures)
    c.following-w.ensures
    (sixteen_steps 16 _ _ _ _ _ _ _ _ _ _ c.part-5.ensures c.four_of-v-5.ensures c.part-6.ensures c.four_of-v-6.ensures
    c.part-7.ensures c.four_of-v-7.ensures c.part-8.ensures c.four_of-v-8.ensures)
    c.following-w-2.ensures
    (sixteen_steps 32 _ _ _ _ _ _ _ _ _ _ c.part-9.ensures c.four_of-v-9.ensures c.part-10.ensures c.four_of-v-10.ensures
    c.part-11.ensures c.four_of-v-11.ensures c.part-12.ensures c.four_of-v-12.ensures)
    c.following-w-3.ensures
    (sixteen_steps 48 _ _ _ _ _ _ _ _ _ _ c.part-13.ensures c.four_of-v-13.ensures c.part-14.ensures c.four_of-v-14.ensures
    c.part-15.ensures c.four_of-v-15.ensures c.part-16.ensures c.four_of-v-16.ensures)
    c.following-w-4.ensures
    (sixteen_steps 64 _ _ _ _ _ _ _ _ _ _ c.part-17.ensures c.four_of-v-17.ensures c.part-18.ensures c.four_of-v-18.ensures
    c.part-19.ensures c.four_of-v-19.ensures c.part-20.ensures c.four_of.ensures))
