-- `read_part` meets its promise: by the type.
use mathlib.Core.Path.{sym, ◌∙◌, ap}
use mathlib.Core.Bool.{Bool, cond}
use Rattle.text.specs.Scan.{unspaced}
use Rattle.hex_text.specs.Hex.{hex_reading}
use Rattle.reply.specs.Reply.{six_reading}
use Rattle.extended.specs.ReplyTexts.{password_by}
use Rattle.extended.proofs.reply_texts.read_part.Goals as goal

pub returns-then-is_hex : goal.returns-then-is_hex
unfolding password_by
returns-then-is_hex c =
    let part = c.args.part.now in
    c.read_hex.ensures
    ∙ sym (ap (λ (b : Bool). cond b (hex_reading (unspaced part)) (six_reading part)) (sym c.is_hex.ensures ∙ c.if-is_hex.true))

pub returns : goal.returns
unfolding password_by
returns c =
    let part = c.args.part.now in
    c.read_six.ensures
    ∙ sym (ap (λ (b : Bool). cond b (hex_reading (unspaced part)) (six_reading part)) (sym c.is_hex.ensures ∙ c.if-is_hex.false))
