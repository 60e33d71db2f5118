-- `first` meets its promise: what the buffer holds at its front is hashed.
use Prim.Native.Nat.{ℕ}
use mathlib.Core.Path.{refl, ap, ap₂, ◌∙◌}
use mathlib.Core.List.{List, ◌++◌, map}
use lib.ListN.{take}
use lib.Seq.{take_at}
use Rattle.text.specs.Kinds.{lower_of}
use Rattle.password.specs.Password.{hash, password}
use Rattle.generator.proofs.first.Goals as goal

pub returns : goal.returns
unfolding password
returns c =
    let a = c.args in
    let put = c.put_message-n.ensures in
    c.hash.ensures
    ∙ ap (hash a.algorithm)
    (ap₂ (λ (n : ℕ) (l : List ℕ). take n l) put.0 put.1
    ∙ take_at (map lower_of a.seed.now ++ a.phrase.now) _ _ refl)
