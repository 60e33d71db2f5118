-- `put_refused` meets its promise: the word and a space, then the number and the newline into the rest.
use Prim.Native.Nat.{ℕ}
use mathlib.Core.Path.{◌≡◌, sym, subst}
use mathlib.Core.List.{List, [], ◌∷◌, ◌++◌, append_assoc}
use Rattle.refusal.specs.declared.Refusal.{Refusal}
use Rattle.refusal.specs.declared.Listing.{Listing}
use Rattle.refusal.specs.Numbers.{listing_of}
use Rattle.text.specs.Put.{Put}
use Rattle.text.specs.PutLaws.{then_put}
use Rattle.text.specs.Quoted.{codes}
use Rattle.text.specs.Counts.{decimal_of}
use Rattle.cards.specs.Printed.{refused_text}
use Rattle.cards.proofs.printed.put_refused.Goals as goal

refused : (why : Refusal) (listing : Listing) (b b' : List ℕ) (n : ℕ) → listing ≡ listing_of why
    → Put (codes "refused " ++ (decimal_of listing.0 ++ 10 ∷ [])) b b' n → Put (refused_text why) b b' n
unfolding refused_text
refused why listing b b' n e p =
    subst (λ (l : Listing). Put (codes "refused " ++ decimal_of l.0 ++ 10 ∷ []) b b' n) e
    (subst (λ (t : List ℕ). Put t b b' n) (sym (append_assoc (codes "refused ") (decimal_of listing.0) (10 ∷ []))) p)

pub returns : goal.returns
unfolding codes
returns c =
    let a = c.args in
    refused a.why c.listing_of-listing.result a.buf.now _ _ c.listing_of-listing.ensures
    (then_put (codes "refused ") (decimal_of c.listing_of-listing.result.0 ++ 10 ∷ []) a.buf.now _ _ _ _ c.copy-a.ensures c.put_count_and.ensures)
