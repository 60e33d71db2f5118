-- `put_password` meets its promise: hex or words are written, as the type has it, and where there is room nothing is refused.
use Rattle.std.specs.Prelude.{Ok, Err}
use Prim.Native.Nat.{ℕ, ◌≤◌}
use mathlib.Core.Path.{◌≡◌, refl, sym, ◌∙◌, ap, subst}
use mathlib.Core.List.{List}
use native.Mathlib.Omega.{arith}
use lib.ListN.{length}
use Rattle.refusal.specs.Answers.{Written}
use Rattle.text.specs.Put.{Writes, leaves}
use Rattle.text.specs.PutLaws.{has_room, length_front, wrote_put}
use Rattle.extended.specs.ReplyWriting.{password_text}
use Rattle.extended.specs.ReplyWritingLaws.{password_hex, password_words, password_few}
use Rattle.extended.proofs.reply_writer.put_password.Goals as goal
use Rattle.extended.proofs.reply_writer.put_password.Goals.{Joined-is_hex, then-is_hex, else-is_hex}

arm : (t u b b₁ b' : List ℕ) (r r' : Written) → t ≡ u → Writes u b b₁ r → b' ≡ b₁ → r' ≡ r → Writes t b b' r'
arm t u b b₁ b' r r' e w same answer =
    let v = subst (λ (l : List ℕ). Writes l b b₁ r) (sym e) w in
    (answer ∙ v.0, same ∙ v.1 ∙ ap (λ (x : Written). leaves x t b) (sym answer))

written : (c : Joined-is_hex) →
    let a = c.args in
    Writes (password_text a.kind a.password) a.buf.now c.if-is_hex.buf c.if-is_hex.written
written c =
    let a = c.args in
    elim c.if-is_hex.branch [
      | then-is_hex w ↦ arm _ _ a.buf.now _ _ _ _ (password_hex a.kind a.password (sym c.is_hex.ensures ∙ w.if-is_hex.true)) w.write_hex-written.ensures
          w.buf-is w.written-is
      | else-is_hex w ↦ arm _ _ a.buf.now _ _ _ _
          (password_words a.kind a.password (sym c.is_hex.ensures ∙ w.if-is_hex.false)) w.write_words-written.ensures w.buf-is w.written-is
    ]

long : (r : Written) (t b : List ℕ) → length t ≤ length b → length (leaves r t b) ≡ length b
long (Ok n) t b h = length_front t b h
long (Err why) t b h = refl

as_long : (c : Joined-is_hex) → length c.if-is_hex.buf ≡ length c.args.buf.now
as_long c =
    let a = c.args in
    ap length (written c).1 ∙ long c.if-is_hex.written _ a.buf.now (omega (arith, password_few a.kind a.password, c.requires))

pub returns-in_default : goal.returns-in_default
returns-in_default c =
    let a = c.args in
    let text = password_text a.kind a.password in
    absurd (has_room text a.buf.now _ _ (omega (arith, password_few a.kind a.password, c.requires))
    (subst (Writes text a.buf.now c.if-is_hex.buf) c.in_default.is (written (goal.at.returns-in_default c).Joined-is_hex)))

pub returns : goal.returns
returns c =
    let a = c.args in
    let text = password_text a.kind a.password in
    wrote_put text a.buf.now _ _
    (subst (Writes text a.buf.now c.if-is_hex.buf) c.in-Ok.is (written (goal.at.returns c).Joined-is_hex))
