-- `typed_in` meets its promise: by whether the type is a renewal's.
use Rattle.std.specs.Prelude.{Result}
use Prim.Native.Nat.{ℕ}
use mathlib.Core.Path.{sym, ◌∙◌, ap}
use mathlib.Core.Bool.{Bool, cond}
use mathlib.Core.List.{List}
use Rattle.refusal.specs.Answers.{Reading}
use Rattle.extended.specs.declared.reply_types.ReplyType.{ReplyType}
use Rattle.extended.specs.declared.reply_texts.ReplyText.{ReplyText}
use Rattle.extended.specs.ReplyTexts.{part_at, present_at, password_by, Said, renewal_in, typed_in, read_to}
use Rattle.extended.proofs.reply_texts.typed_in.Goals as goal
use Rattle.refusal.specs.declared.Refusal.{Refusal}

abbrev by : ReplyType → List ℕ → Bool → Result ReplyText Refusal
by kind t init = read_to (cond init (renewal_in kind t) (Said.Login (password_by kind (part_at t (present_at t)))))

pub returns-then-is_init : goal.returns-then-is_init
unfolding typed_in
returns-then-is_init c =
    let a = c.args in
    c.renewal_in.ensures ∙ sym (ap (by a.kind a.text.now) (sym c.is_init.ensures ∙ c.if-is_init.true))

pub returns : goal.returns
unfolding typed_in present_at
returns c =
    let a = c.args in
    let t = a.text.now in
    c.login_of.ensures
    ∙ ap (λ (r : Reading). read_to (Said.Login r))
    (c.read_part.ensures ∙ ap (password_by a.kind) (c.part.ensures ∙ ap (part_at t) c.after.ensures))
    ∙ sym (ap (by a.kind t) (sym c.is_init.ensures ∙ c.if-is_init.false))
