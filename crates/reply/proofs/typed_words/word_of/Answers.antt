-- `word_of` meets its promise. The loop's invariant: what is left decides whether all are letters, and makes the number with those passed.
use mathlib.Core.Path.{sym, ◌∙◌, ap}
use Prim.Native.Nat.{ℕ, ◌-◌, ◌+◌, ◌*◌}
use native.Mathlib.Omega.{arith}
use lib.ListN.{get_or, drop}
use Rattle.dictionary.specs.Dictionary.{number_from}
use Rattle.reply.specs.Reply.{upper_text}
use Rattle.reply.proofs.typed_words.TypedLetters.{none_left_every, none_left_number, letter_grows, other_byte, letter_byte, letter_number, letter_upper}
use Rattle.reply.proofs.typed_words.TypedLetters.{empty_other, long_other, mixed_other, letters_word}
use Rattle.reply.proofs.typed_words.word_of.Goals as goal

pub returns-then-n-eq0 : goal.returns-then-n-eq0
returns-then-n-eq0 c = empty_other c.args.t.now c.if-n-eq0.true

pub returns-then-n-gt4 : goal.returns-then-n-gt4
returns-then-n-gt4 c = long_other c.args.t.now c.if-n-gt4.true

pub returns-then-not-is_letter : goal.returns-then-not-is_letter
returns-then-not-is_letter c =
    let at = c.loop-b in
    let t = c.args.t.now in
    mixed_other t (at.invariant.1 ∙ other_byte t at.b-index c.loop-b-test.true
    (sym c.is_letter.ensures ∙ c.if-not-is_letter.true))

pub loop-b-preserved : goal.loop-b-preserved
loop-b-preserved c =
    let at = c.loop-b in
    let t = c.args.t.now in
    let within = c.loop-b-test.true in
    let letter = sym c.is_letter.ensures ∙ c.if-not-is_letter.false in (
      letter_grows at.letters ((c.lower.result - 32)) at.b-index at.invariant.0 (omega (arith, c.lower.type_inv)),
      at.invariant.1
          ∙ letter_byte t at.b-index within letter,
      at.invariant.2
          ∙ letter_number t at.b-index at.letters within
          ∙ ap (λ (u : ℕ). number_from (at.letters * 256 + u) (upper_text (drop (at.b-index + 1) t)))
          (sym (letter_upper (get_or t at.b-index 0) letter).1 ∙ ap (λ (u : ℕ). u - 32) (sym c.lower.ensures)),
    )

pub returns : goal.returns
returns c =
    let at = c.loop-b in
    let t = c.args.t.now in
    letters_word t at.letters c.filled.result (omega arith) (omega arith)
    (at.invariant.1 ∙ none_left_every t at.b-index (omega arith))
    (sym (at.invariant.2 ∙ none_left_number t at.b-index at.letters (omega arith)))
    c.filled.ensures
