-- `operation_of` meets its promise: each case is an operation with the function of its round.
use Rattle.std.proofs.Common.{ℕ, ◌+◌, ◌≡◌, get_or, ap, ap₂, sym, ◌∙◌}
use Rattle.digests.specs.Words32.{add}
use Rattle.digests.specs.Rounds.{round1, round2, round3, round4}
use Rattle.md5_hash.specs.declared.round.Round.{Round}
use Rattle.md5_hash.specs.Inside.{round_of, as_printed}
use Rattle.md5_hash.specs.OperationLaws.{g_halves, word_and_constant, operation_whole, operation_halves}
use Rattle.md5_hash.proofs.operations.operation_of.Goals as goal
use Rattle.md5_hash.proofs.operations.operation_of.Goals.{After-add-y}

summed : (c : After-add-y) →
    (let a = c.args in
    let r = as_printed a.lent.round in
    c.add-y.result ≡ add (get_or a.w.now (get_or r.order a.step 0) 0) (get_or r.constants a.step 0))
summed c =
    let a = c.args in
    word_and_constant (as_printed a.lent.round) a.w.now a.lent.t.now a.step _ _ a.lent.t_value c.word-at.ensures.0 c.add-y.ensures

-- The value of the round's function, where the round is r.
value : (c : After-add-y) (r : Round) → c.args.lent.round ≡ r
    → (let q = c.args.q in (as_printed c.args.lent.round).function q.b q.c q.d ≡ (as_printed r).function q.b q.c q.d)
value c r e = let q = c.args.q in ap (λ (n : Round). (as_printed n).function q.b q.c q.d) e

pub returns-in-First : goal.returns-in-First
unfolding round_of round1
returns-in-First c =
    let a = c.args in
    let at = (goal.at.returns-in-First c).After-add-y in
    operation_whole (as_printed a.lent.round) a.w.now a.step _ _ a.q (summed at) c.shift-s.ensures.0 _ _
    (c.choice.ensures.f ∙ sym (value at Round.First c.in-First.is))
    c.operation.ensures

pub returns-in-Second : goal.returns-in-Second
unfolding round_of round2
returns-in-Second c =
    let a = c.args in
    let at = (goal.at.returns-in-Second c).After-add-y in
    operation_halves (as_printed a.lent.round) a.w.now a.step _ _ a.q (summed at) c.shift-s.ensures.0 _ _ _ _
    (value at Round.Second c.in-Second.is ∙ g_halves a.q.b a.q.c a.q.d
    ∙ sym (ap₂ (λ (m n : ℕ). m + n) c.g_from_x.ensures c.g_from_y.ensures))
    c.add.ensures
    c.operation-in-Second.ensures

pub returns-in-Third : goal.returns-in-Third
unfolding round_of round3
returns-in-Third c =
    let a = c.args in
    let at = (goal.at.returns-in-Third c).After-add-y in
    operation_whole (as_printed a.lent.round) a.w.now a.step _ _ a.q (summed at) c.shift-s.ensures.0 _ _
    (c.parity.ensures ∙ sym (value at Round.Third c.in-Third.is))
    c.operation-in-Third.ensures

pub returns-in-Fourth : goal.returns-in-Fourth
unfolding round_of round4
returns-in-Fourth c =
    let a = c.args in
    let at = (goal.at.returns-in-Fourth c).After-add-y in
    operation_whole (as_printed a.lent.round) a.w.now a.step _ _ a.q (summed at) c.shift-s.ensures.0 _ _
    (c.i.ensures ∙ sym (value at Round.Fourth c.in-Fourth.is))
    c.operation-in-Fourth.ensures
