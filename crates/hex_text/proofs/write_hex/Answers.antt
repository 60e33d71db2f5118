-- `write_hex` meets its promise.
use native.Mathlib.Omega.{arith}
use Rattle.hex_text.specs.Laws.{hex_length}
use Rattle.text.specs.PutLaws.{short_writes}
use Rattle.hex_text.specs.Hex.{hex_of}
use Rattle.hex_text.proofs.write_hex.Goals as goal

pub returns-then-buf-lt16 : goal.returns-then-buf-lt16
returns-then-buf-lt16 c =
    let a = c.args in
    short_writes (hex_of a.password) a.buf.now (omega (arith, hex_length a.password))
