-- `put_login` meets its promise: the type and the colon, then the password into the rest.
use mathlib.Core.Path.{ap}
use mathlib.Core.List.{[], ◌∷◌, ◌++◌}
use native.Mathlib.Omega.{arith}
use lib.ListN.{length, length-append}
use Rattle.text.specs.PutLaws.{then_put}
use Rattle.extended.specs.ReplyWriting.{password_text, login_text}
use Rattle.extended.specs.ReplyWritingLaws.{type_few}
use Rattle.extended.proofs.reply_writer.put_login.Goals as goal

pub copy_and-a-requires : goal.copy_and-a-requires
copy_and-a-requires c = omega (arith, ap length c.name.ensures, type_few c.args.kind)

pub put_password-requires : goal.put_password-requires
put_password-requires c = let kind = c.args.kind in
    omega (arith, length-append c.name.result.now (58 ∷ []), ap length c.name.ensures, type_few kind)

pub returns : goal.returns
unfolding login_text
returns c =
    let a = c.args in
    rw (← c.name.ensures) (then_put (c.name.result.now ++ 58 ∷ []) (password_text a.kind a.password) a.buf.now _ _ _ _
    c.copy_and-a.ensures c.put_password.ensures)
