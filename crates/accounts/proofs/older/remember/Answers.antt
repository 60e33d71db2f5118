-- `remember` meets its promise: the places of one room are lent.
use Prim.Native.Nat.{ℕ, ◌+◌, ◌-◌, ◌*◌}
use mathlib.Core.Path.{◌≡◌, ap, ap₂, ◌∙◌}
use mathlib.Core.List.{List, ◌++◌}
use native.Mathlib.Omega.{arith}
use borrow.Rule.Slice.PartMut.{Post-is}
use lib.ListN.{take, drop}
use Rattle.accounts.specs.OlderBytes.{pushed}
use Rattle.accounts.proofs.older.remember.Goals as goal

pub returns : goal.returns
returns c =
    let a = c.args in
    let from = a.room * 119 in
    let all : (from + 119) - from ≡ 119 = omega arith in
    ap₂ (λ (part rest : List ℕ). take from a.older.now ++ (part ++ rest))
    (c.push.ensures ∙ ap (λ (n : ℕ). pushed a.account (take n (drop from a.older.now))) all)
    (Post-is from (from + 119) a.older.now (omega arith))
