-- `step` meets its promise: the sums and the rotations, one in the other.
use Prim.Native.Nat.{ℕ}
use mathlib.Core.Path.{◌≡◌, ap, ◌∙◌}
use Rattle.digests.specs.Words32.{add, rotated}
use Rattle.digests.specs.Sha1.{step_with}
use Rattle.sha1_hash.proofs.eighty_steps.step.Goals as goal

pub returns : goal.returns
unfolding step_with
returns c =
    let args = c.args in
    let v = args.v in
    let a : c.add-4.result ≡ add (add (add (add (rotated v.a 5) args.f) v.e) args.k) args.w =
    c.add-4.ensures
    ∙ ap (λ (x : ℕ). add x args.w)
    (c.add-3.ensures
    ∙ ap (λ (x : ℕ). add x args.k)
    (c.add-2.ensures
    ∙ ap (λ (x : ℕ). add x v.e)
    (c.add.ensures ∙ ap (λ (x : ℕ). add x args.f) c.rotated.ensures))) in
    λ i. record { a = a i; b = v.a; c = c.rotated-2.ensures i; d = v.c; e = v.d }
