-- `put_line` meets its promise: the count, then the password into the rest.
use Prim.Native.Nat.{ℕ}
use mathlib.Core.Path.{◌≡◌}
use mathlib.Core.List.{[], ◌∷◌, ◌++◌, append_assoc}
use native.Mathlib.Omega.{arith}
use Rattle.text.specs.PutLaws.{then_put}
use Rattle.hex_text.specs.Hex.{hex_of}
use Rattle.sixwords.specs.Spelling.{words_of}
use Rattle.text.specs.Counts.{decimal_of}
use Rattle.text.specs.CountLaws.{length_count}
use Rattle.cards.specs.CardLines.{line_of}
use Rattle.cards.proofs.card_lines.put_line.Goals as goal

parts : (count p : ℕ) → (decimal_of count ++ 32 ∷ []) ++ ((hex_of p ++ 32 ∷ []) ++ (words_of p ++ 10 ∷ [])) ≡ line_of count p
unfolding line_of
parts count p = simp append_assoc

pub put_password-requires : goal.put_password-requires
put_password-requires c = omega (arith, length_count c.args.count 32)

pub returns : goal.returns
returns c =
    let a = c.args in
    rw (parts a.count a.p) at
    (then_put (decimal_of a.count ++ 32 ∷ []) ((hex_of a.p ++ 32 ∷ []) ++ (words_of a.p ++ 10 ∷ [])) a.buf.now _ _ _ _
    c.put_count_and-a.ensures c.put_password.ensures)
