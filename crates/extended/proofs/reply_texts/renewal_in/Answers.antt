-- `renewal_in` meets its promise: the parts one after the other, and what each says.
use Prim.Native.Nat.{◌≤◌}
use mathlib.Core.Path.{◌≡◌, ◌∙◌, ap}
use native.Mathlib.Omega.{arith}
use Rattle.extended.specs.declared.parameters.Parameters.{Parameters}
use Rattle.extended.specs.Parameters.{parameters_of}
use Rattle.extended.specs.ReplyTexts.{part_at, part_after, present_at, parameters_at, new_at, password_by, renewal_said, renewal_in, read_to}
use Rattle.extended.specs.Laws.{part_short, present_near, parameters_near, parameters_within}
use Rattle.extended.proofs.reply_texts.renewal_in.Goals as goal
use Rattle.extended.proofs.reply_texts.renewal_in.Goals.{After-after-new_at, After-after-parameters_at, After-after-present_at, After-values_in-values}

present_at_lem : (c : After-after-present_at) → c.after-present_at.result ≡ present_at c.args.text.now
unfolding present_at
present_at_lem c = c.after-present_at.ensures

parameters_at_lem : (c : After-after-parameters_at) → c.after-parameters_at.result ≡ parameters_at c.args.text.now
unfolding parameters_at present_at
parameters_at_lem c = c.after-parameters_at.ensures
    ∙ ap (part_after c.args.text.now)
    (let present_at_lem : c.after-present_at.result ≡ present_at c.args.text.now = c.after-present_at.ensures in present_at_lem)

new_at_lem : (c : After-after-new_at) → c.after-new_at.result ≡ new_at c.args.text.now
unfolding new_at parameters_at present_at
new_at_lem c = c.after-new_at.ensures
    ∙ ap (part_after c.args.text.now)
    (let parameters_at_lem : c.after-parameters_at.result ≡ parameters_at c.args.text.now = c.after-parameters_at.ensures
    ∙ ap (part_after c.args.text.now)
    (let present_at_lem : c.after-present_at.result ≡ present_at c.args.text.now = c.after-present_at.ensures in present_at_lem) in parameters_at_lem)

values : (c : After-values_in-values)
    → c.values_in-values.result ≡ parameters_of (part_at c.args.text.now (parameters_at c.args.text.now))
unfolding parameters_at present_at
values c =
    c.values_in-values.ensures
    ∙ ap parameters_of (c.part.ensures
    ∙ ap (part_at c.args.text.now)
    (let parameters_at_lem : c.after-parameters_at.result ≡ parameters_at c.args.text.now = c.after-parameters_at.ensures
    ∙ ap (part_after c.args.text.now)
    (let present_at_lem : c.after-present_at.result ≡ present_at c.args.text.now = c.after-present_at.ensures in present_at_lem) in parameters_at_lem))

starts : (c : After-values_in-values) → c.values_in-values.result.start ≤ 256
starts c =
    let t = c.args.text.now in
    omega (
      arith,
      ap (λ (v : Parameters). v.start) (values c),
      parameters_within (part_at t (parameters_at t)),
      part_short t (parameters_at t),
      c.requires,
    )

pub after-parameters_at-requires : goal.after-parameters_at-requires
after-parameters_at-requires c =
    (c.requires, omega (arith, present_at_lem (goal.at.after-parameters_at-requires c).After-after-present_at, present_near c.args.text.now))

pub after-new_at-requires : goal.after-new_at-requires
after-new_at-requires c =
    (c.requires, omega (arith, parameters_at_lem (goal.at.after-new_at-requires c).After-after-parameters_at, parameters_near c.args.text.now))

pub renewal_of-requires : goal.renewal_of-requires
renewal_of-requires c = (
  omega (arith, parameters_at_lem (goal.at.renewal_of-requires c).After-after-parameters_at, parameters_near c.args.text.now, c.requires),
  starts (goal.at.renewal_of-requires c).After-values_in-values,
)

pub returns : goal.returns
unfolding renewal_in
returns c =
    let kind = c.args.kind in
    let t = c.args.text.now in
    let new_read : c.read_part-new.result ≡ password_by kind (part_at t (new_at t)) =
    c.read_part-new.ensures ∙ ap (password_by kind) (c.part-2.ensures ∙ ap (part_at t) (new_at_lem (goal.at.returns c).After-after-new_at)) in
    let present_read : c.read_part-present.result ≡ password_by kind (part_at t (present_at t)) =
    c.read_part-present.ensures ∙ ap (password_by kind) (c.part-3.ensures ∙ ap (part_at t) (present_at_lem (goal.at.returns c).After-after-present_at)) in
    c.renewal_of.ensures ∙
    (λ i. read_to (renewal_said (parameters_at_lem (goal.at.returns c).After-after-parameters_at i)
    (values (goal.at.returns c).After-values_in-values i) (new_read i) (present_read i)))
