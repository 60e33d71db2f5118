-- Eight bytes, one by one.
use Rattle.std.proofs.Common.{◌≡◌, ℕ, List, length, get_or, sym, ◌∙◌, arith}
use Rattle.std.proofs.Math.Seq.{ext_get_or}
use Rattle.digests.specs.Lists.{up_to, length-up_to, get_d_up_to}

pub as_eight : (l : List ℕ) → length l ≡ 8 → l ≡ up_to 8 (λ (i : ℕ). get_or l i 0)
as_eight l long =
    ext_get_or 0 l (up_to 8 (λ (i : ℕ). get_or l i 0)) (long ∙ sym (length-up_to 8 (λ (i : ℕ). get_or l i 0)))
    (λ i h. sym (get_d_up_to 8 (λ (j : ℕ). get_or l j 0) i (omega (arith, long))))
