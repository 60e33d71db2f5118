-- `places_of` meets its promise: the cuts of the 66 bits.
use Rattle.std.proofs.Common.{◌≡◌, ◌+◌, ◌*◌, ◌%◌, ℕ, ap, ap₂, ◌∙◌, rules}
use Rattle.sixwords.specs.Places.{whole, cut, places_of}
use Rattle.sixwords.proofs.places_of.Goals as goal

pub returns : goal.returns
unfolding places_of cut whole
returns c =
    let same : c.from.result * 4 + c.from-2.result ≡ whole c.args.p =
    ap₂ (λ (a b : ℕ). a * 4 + b) c.from.ensures (c.from-2.ensures ∙ ap (λ (n : ℕ). n % 4) c.pair_sum.ensures) in
    rw (← same) (search rules)
