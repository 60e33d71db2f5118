-- `put_text` meets its promise: the login, and a renewal's tail into the rest.
use Rattle.std.proofs.Common.{length-take, length-drop, arith}
use Rattle.text.specs.PutLaws.{front_within}
use Rattle.extended.specs.ReplyWritingLaws.{login_few}
use Rattle.extended.proofs.reply_writer.put_text.Goals as goal

pub put_tail-requires : goal.put_tail-requires
put_tail-requires c = simp (length-take, length-drop) (omega (arith, front_within, login_few c.args.kind c.args.password))
