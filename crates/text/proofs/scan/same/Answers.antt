-- `same` meets its promise: one length, and each two bytes agree.
use Rattle.std.proofs.Common.{ℕ, ◌≡◌, ◌&&◌, ◌∙◌, refl, sym, ap, arith, rules, length, Bool, eqb, List, [], ◌∷◌}
use borrow.Author.Tests.{tests, ne_eqb}
use Rattle.std.proofs.lemmas.Iterator.{YieldsList-from_slice, YieldsList-from_zip}
use Rattle.std.proofs.lemmas.Iterator.Search.{all_from_yields_List}
use Rattle.std.specs.List.{list_all, zip}
use Rattle.text.specs.Tests.{same, same_lengths}
use Rattle.text.proofs.scan.same.Goals as goal

abbrev agree : ℕ × ℕ → Bool
agree p = eqb p.0 p.1

same_zip : (s t : List ℕ) → length s ≡ length t → list_all agree (zip s t) ≡ same s t
unfolding same
same_zip [] [] e = refl
same_zip [] (y ∷ t) e = absurd (omega arith)
same_zip (x ∷ s) [] e = absurd (omega arith)
same_zip (x ∷ s) (y ∷ t) e = ap (λ (b : Bool). eqb x y && b) (same_zip s t (omega arith))

pub returns-then-a-b : goal.returns-then-a-b
returns-then-a-b c =
    let a = c.args.a.now in
    let b = c.args.b.now in
    all_from_yields_List agree c.all.new.self _ c.all.result c.all.ensures.ran
    (YieldsList-from_zip (YieldsList-from_slice a (cc)) (YieldsList-from_slice b (cc))) (λ x b q k. search (rules, tests))
    ∙ same_zip a b c.if-a-b.true

pub returns-else-a-b : goal.returns-else-a-b
returns-else-a-b c = ne_eqb _ _ c.if-a-b.false ∙ sym (same_lengths c.args.a.now c.args.b.now c.if-a-b.false)
