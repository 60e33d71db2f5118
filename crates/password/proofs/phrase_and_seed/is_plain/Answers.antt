-- `is_plain` meets its promise: the library's letters and digits are the paper's.
use Rattle.std.proofs.Common.{◌≡◌, ◌∙◌, ℕ, Bool, true, false, ◌||◌, ◌&&◌, List, [], ◌∷◌, refl, ap₂, rules}
use borrow.Author.Tests.{tests}
use Rattle.std.proofs.lemmas.Iterator.{YieldsList-from_slice}
use Rattle.std.proofs.lemmas.Iterator.Search.{all_from_yields_List}
use Rattle.std.specs.List.{list_all}
use Rattle.std.specs.Char.{is_ascii_alphanumeric}
use Rattle.text.specs.Kinds.{is_upper, is_lower, is_digit}
use Rattle.text.specs.Tests.{every}
use Rattle.password.specs.PhraseAndSeed.{plain}
use Rattle.password.proofs.phrase_and_seed.is_plain.Goals as goal

turned : (d u l : Bool) → ((d || u) || l) ≡ ((u || l) || d)
turned true true l = refl
turned true false true = refl
turned true false false = refl
turned false true l = refl
turned false false true = refl
turned false false false = refl

each : (s : List ℕ) → list_all is_ascii_alphanumeric s ≡ plain s
unfolding plain every
each [] = refl
each (b ∷ s) = ap₂ (λ (x y : Bool). x && y) (turned (is_digit b) (is_upper b) (is_lower b)) (each s)

pub returns : goal.returns
returns c =
    all_from_yields_List is_ascii_alphanumeric _ _ c.all.result c.all.ensures.ran (YieldsList-from_slice c.args.s.now cc)
    (λ x b q k. search (rules, tests))
    ∙ each c.args.s.now
