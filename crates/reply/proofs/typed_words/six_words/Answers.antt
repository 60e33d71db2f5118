-- `six_words` meets its promise.
use Rattle.std.proofs.Common.{◌∙◌, arith}
use lib.ListN.{length-drop}
use Rattle.reply.proofs.typed_words.TokensRead.{scanned_none, white_within, token_within, turned, stopped, six_are, seventh, none_six, all_six}
use Rattle.reply.proofs.typed_words.six_words.Goals as goal

pub loop-word-init : goal.loop-word-init
loop-word-init c = scanned_none c.args.s.now

pub overflow_add-from : goal.overflow_add-from
overflow_add-from c =
    let at = c.loop-word in
    omega (
      arith,
      c,
      white_within c.args.s.now at.at c.run.result
          at.invariant.within c.run.ensures,
    )

pub overflow_add-at : goal.overflow_add-at
overflow_add-at c =
    let at = c.loop-word in
    omega (
      arith,
      token_within c.args.s.now at.word-index at.at at.word-items at.invariant
          c.run.result c.run-in-loop-word.result c.run.ensures c.run-in-loop-word.ensures,
    )

pub returns-in_err-word : goal.returns-in_err-word
returns-in_err-word c =
    let at = c.loop-word in
    let s = c.args.s.now in
    c.from_residual.ensures
    ∙ none_six s
    (stopped s at.word-index at.at at.word-items at.invariant c.run.result
    c.run-in-loop-word.result c.run.ensures
    c.run-in-loop-word.ensures
    c.word_of.result c.word_of.ensures c.loop-word-test.true
    c.in_err-word.was)

pub loop-word-preserved : goal.loop-word-preserved
loop-word-preserved c =
    let at = c.loop-word in
    let s = c.args.s.now in
    turned s at.word-index at.at at.word-items at.invariant c.run.result
    c.run-in-loop-word.result c.run.ensures
    c.run-in-loop-word.ensures
    c.word_of.result c.word_of.ensures
    c.loop-word-test.true c.in_ok-word.field-0 c.in_ok-word.was

pub overflow_add-at-2 : goal.overflow_add-at-2
overflow_add-at-2 c =
    let at = c.loop-word in
    omega (arith, white_within c.args.s.now at.at c.run-2.result at.invariant.within c.run-2.ensures)

pub returns-then-at-run : goal.returns-then-at-run
returns-then-at-run c =
    let at = c.loop-word in
    let s = c.args.s.now in
    none_six s (seventh s at.word-index at.at at.word-items at.invariant (omega arith)
    (omega (arith, length-drop at.at s, c.run-2.ensures, c.if-at-run.true, at.invariant.within)))

pub returns : goal.returns
returns c =
    let at = c.loop-word in
    let s = c.args.s.now in
    all_six s at.word-items (six_are s at.word-index at.at at.word-items at.invariant (omega arith)
    (omega (arith, length-drop at.at s, c.run-2.ensures, c.if-at-run.false, at.invariant.within)))

pub slice_bounds-word_of-end : goal.slice_bounds-word_of-end
slice_bounds-word_of-end c =
    let at = c.loop-word in
    token_within c.args.s.now at.word-index at.at at.word-items at.invariant c.run.result c.run-in-loop-word.result c.run.ensures c.run-in-loop-word.ensures
