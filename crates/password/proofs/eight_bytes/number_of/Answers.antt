-- `number_of` meets its promise: the library's sum of the eight bytes is theirs.
use Rattle.std.proofs.Common.{◌≡◌, ℕ, List, length, get_or, sym, ap, ◌∙◌, arith, rules}
use Rattle.std.specs.Int.{from_be_bytes, w64}
use Rattle.digests.specs.Lists.{up_to}
use Rattle.password.specs.EightBytes.{number_after, number_of}
use Rattle.password.proofs.eight_bytes.EightListed.{as_eight}
use Rattle.password.proofs.eight_bytes.number_of.Goals as goal

summed : (l : List ℕ) → from_be_bytes w64 l ≡ number_of (up_to 8 (λ (i : ℕ). get_or l i 0))
unfolding number_after up_to
summed l = omega arith

pub returns : goal.returns
returns c =
    let long : length c.args.bytes ≡ 8 = search rules in
    c.from_be_bytes.ensures ∙ summed c.args.bytes ∙ ap number_of (sym (as_eight c.args.bytes long))
