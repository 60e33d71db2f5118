-- `read_words` meets its promise.
use Rattle.std.proofs.Common.{◌≡◌, refl, sym, ◌∙◌, ap₂, length, arith, rules}
use lib.ListN.{length-set, replicate}
use Rattle.std.specs.Option.{ok_or}
use Rattle.reply.proofs.known_words.Looked.{none_looked, one_more, marks_few, all_looked}
use Rattle.reply.proofs.known_words.read_words.Goals as goal

pub loop-k-init : goal.loop-k-init
loop-k-init c =
    let six : length c.args.words ≡ 6 = search rules in
    (refl, none_looked c.args.words (replicate 6 0) 6 (omega (arith, six)) (omega arith))

pub marked-marks-requires : goal.marked-marks-requires
marked-marks-requires c =
    let six : length c.args.words ≡ 6 = search rules in
    marks_few c.args.words c.loop-k.places c.loop-k.marks c.loop-k.k (omega (arith, six)) c.loop-k.invariant.1

pub loop-k-preserved : goal.loop-k-preserved
loop-k-preserved c =
    let six : length c.args.words ≡ 6 = search rules in (
      simp length-set c.loop-k.invariant.0,
      one_more c.args.words c.loop-k.places c.loop-k.marks c.place_of-found.result c.place_in.result c.marked-marks.result
          (c.loop-k.invariant.0 ∙ sym six) c.loop-k.k c.loop-k-test.true (omega (arith, six))
          c.place_of-found.ensures c.place_in.ensures c.marked-marks.ensures c.loop-k.invariant.1,
    )

pub returns : goal.returns
returns c =
    c.ok_or.ensures.value
    ∙ ap₂ ok_or c.number_of.ensures c.why_not.ensures
    ∙ all_looked c.args.words c.loop-k.places c.loop-k.marks c.loop-k.k (omega arith) c.loop-k.invariant.1
