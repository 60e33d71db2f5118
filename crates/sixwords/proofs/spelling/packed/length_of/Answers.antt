-- `length_of` meets its promise.
use Rattle.std.proofs.Common.{◌≡◌, ◌+◌, map, length, refl, ap, ◌∙◌, ℕ, arith, rules, take, get_or}
use Rattle.dictionary.specs.Dictionary.{letters_of}
use Rattle.sixwords.specs.Spelling.{spaced}
use Rattle.sixwords.specs.Inside.{ended}
use Rattle.sixwords.proofs.spelling.PackedLetters.{few_letters, word_spelt}
use Rattle.sixwords.proofs.spelling.Spacing.{more_length, ended-length}
use Rattle.sixwords.proofs.spelling.packed.length_of.Goals as goal
use Rattle.sixwords.proofs.spelling.packed.length_of.Goals.{After-loop-word}

whole : (c : After-loop-word) → c.loop-word.n ≡ length (spaced (map letters_of c.args.words)) + 1
whole c =
    let six : c.loop-word.word-index ≡ 6 = omega arith in
    c.loop-word.invariant.1 ∙ ap (λ (m : ℕ). length (ended (take m (map letters_of c.args.words)))) six ∙ ended-length c.args.words 5 (search rules)

pub loop-word-init : goal.loop-word-init
unfolding ended
loop-word-init c = (omega arith, refl)

pub loop-word-preserved : goal.loop-word-preserved
loop-word-preserved c =
    let at = c.loop-word in
    let w = get_or c.args.words at.word-index 0 in
    let six : length c.args.words ≡ 6 = search rules in
    let spelt = word_spelt w _ _ c.loop-word-test.element_fits.fits c.to_be_bytes.ensures c.letters.ensures in
    (omega (arith, ap length spelt, few_letters w), omega (arith, ap length spelt, more_length c.args.words at.word-index (omega arith)))

pub overflow_sub-result : goal.overflow_sub-result
overflow_sub-result c = omega (arith, whole (goal.at.overflow_sub-result c).After-loop-word)

pub returns : goal.returns
returns c = omega (arith, whole (goal.at.returns c).After-loop-word)
