-- `operation` meets its promise: the sums and the rotation, one in the other.
use Prim.Native.Nat.{ℕ}
use mathlib.Core.Path.{◌≡◌, ap, ◌∙◌}
use Rattle.digests.specs.Words32.{add, rotated}
use Rattle.md5_hash.specs.Inside.{operation_summed}
use Rattle.md5_hash.proofs.operations.operation.Goals as goal

pub returns : goal.returns
unfolding operation_summed
returns c =
    let a = c.args in
    let q = a.q in
    let b : c.add-3.result ≡ add q.b (rotated (add (add q.a a.y) a.v) a.s) =
    c.add-3.ensures
    ∙ ap (add q.b)
    (c.rotated.ensures
    ∙ ap (λ (x : ℕ). rotated x a.s) (c.add-2.ensures ∙ ap (λ (x : ℕ). add x a.v) c.add.ensures)) in
    λ i. record { a = q.d; b = b i; c = q.b; d = q.c }
