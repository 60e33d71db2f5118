-- `put_words` meets its promise.
use Rattle.std.proofs.Common.{◌≡◌, ◌<◌, ◌∙◌, ap, length, length-take-le, get_or, refl, arith, rules}
use Rattle.std.proofs.lemmas.List.{get_or-take}
use Rattle.dictionary.specs.Dictionary.{letters_of}
use Rattle.sixwords.specs.Inside.{ended}
use Rattle.sixwords.proofs.spelling.PackedLetters.{word_spelt}
use Rattle.sixwords.proofs.spelling.Spacing.{word_room, word_put, last_room, last_put}
use Rattle.sixwords.proofs.spelling.packed.put_words.Goals as goal
use Rattle.sixwords.proofs.spelling.packed.put_words.Goals.{After-letters, After-letters-2}

at_most : (c : After-letters) → c.loop-word.word-index < 5
at_most c =
    let six : length c.args.words ≡ 6 = search rules in
    omega (arith, length-take-le 5 c.args.words (omega arith))

spelt : (c : After-letters) → c.letters.result.now ≡ letters_of (get_or c.args.words c.loop-word.word-index 0)
spelt c =
    word_spelt _ _ _ (search rules) c.to_be_bytes.ensures c.letters.ensures
    ∙ ap letters_of (get_or-take 5 c.args.words c.loop-word.word-index 0 (at_most c))

last_spelt : (c : After-letters-2) → c.letters-2.result.now ≡ letters_of (get_or c.args.words 5 0)
last_spelt c = word_spelt _ _ _ (search rules) c.to_be_bytes-2.ensures c.letters-2.ensures

pub loop-word-init : goal.loop-word-init
unfolding ended
loop-word-init c = (refl, refl)

pub copy_and-at-requires : goal.copy_and-at-requires
copy_and-at-requires c =
    let at = c.loop-word in
    omega (
      arith,
      ap length (spelt (goal.at.copy_and-at-requires c).After-letters),
      word_room c.args.words c.args.buf.now at.buf at.word-index at.at (search rules) c.requires at.auto.buf at.invariant
          (at_most (goal.at.copy_and-at-requires c).After-letters),
    )

pub loop-word-preserved : goal.loop-word-preserved
loop-word-preserved c =
    let at = c.loop-word in
    let words = (goal.at.loop-word-preserved c).After-letters in
    (word_put c.args.words c.args.buf.now at.buf at.word-index at.at (search rules) c.requires at.auto.buf at.invariant
    c.copy_and-at.new.buf c.copy_and-at.result (at_most words) (rw (← spelt words) c.copy_and-at.ensures)).2

pub copy-requires : goal.copy-requires
copy-requires c =
    let at = c.loop-word in
    let six : length c.args.words ≡ 6 = search rules in
    let five : at.word-index ≡ 5 = omega (arith, length-take-le 5 c.args.words (omega arith)) in
    omega (
      arith,
      ap length (last_spelt (goal.at.copy-requires c).After-letters-2),
      last_room c.args.words c.args.buf.now at.buf at.word-index at.at six c.requires at.auto.buf at.invariant five,
    )

pub returns : goal.returns
returns c =
    let at = c.loop-word in
    let six : length c.args.words ≡ 6 = search rules in
    let five : at.word-index ≡ 5 = omega (arith, length-take-le 5 c.args.words (omega arith)) in
    last_put c.args.words c.args.buf.now at.buf at.word-index at.at six c.requires at.auto.buf at.invariant five
    c.copy.new.buf c.copy.result (rw (← last_spelt (goal.at.returns c).After-letters-2) c.copy.ensures)
