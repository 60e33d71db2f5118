-- `seed_at` meets its promise: as many bytes of the place as its length says.
use Rattle.std.proofs.Common.{◌≡◌, ℕ, ◌+◌, ◌-◌, min, Bool, true, false, ltb, List, get_or, take, drop, take-take, take_all}
use Rattle.std.proofs.Common.{refl, sym, ap, ◌∙◌, arith}
use Rattle.std.proofs.lemmas.List.{length-take}
use borrow.Author.Tests.{ltb-true, ltb-false}
use Rattle.accounts.proofs.remembered.seed_at.Goals as goal

least : (n k : ℕ) (l : List ℕ) → take (min n k) l ≡ take n (take k l)
least n k l = by (ltb n k) refl
  where
    by : (b : Bool) → ltb n k ≡ b → take (min n k) l ≡ take n (take k l)
    by true e =
        let less = ltb-true n k e in
        ap (λ (m : ℕ). take m l) (omega arith) ∙ sym (take-take n k l (omega arith))
    by false e =
        let more = ltb-false n k e in
        ap (λ (m : ℕ). take m l) (omega arith) ∙ sym (take_all n (take k l) (omega (arith, length-take k l)))

pub returns : goal.returns
returns c =
    let p = c.args.places.now in
    let from = c.args.at + 1 in
    let all : (from + c.min.result) - from ≡ c.min.result = omega arith in
    ap (λ (n : ℕ). take n (drop from p)) (all ∙ c.min.ensures) ∙ least (get_or p c.args.at 0) 16 (drop from p)
