-- `lent` lends what the RFC prints: constants are what their four arrays are.
use Rattle.std.proofs.Common.{◌≡◌}
use Rattle.std.proofs.Props.{props}
use mathlib.Core.HLevel.{is_prop→PathP}
use Rattle.md5_hash.specs.declared.constants.Constants.{Constants}
use Rattle.md5_hash.specs.declared.round.Round.{Round}
use Rattle.md5_hash.specs.Inside.{as_printed}
use Rattle.md5_hash.proofs.rounds.Md5HashFunction.lent.Goals as goal

alike : (x y : Constants) → x.t1 ≡ y.t1 → x.t2 ≡ y.t2 → x.t3 ≡ y.t3 → x.t4 ≡ y.t4 → x ≡ y
alike x y e₁ e₂ e₃ e₄ =
    λ i. record {
      t1 = e₁ i;
      t2 = e₂ i;
      t3 = e₃ i;
      t4 = e₄ i;
      first = is_prop→PathP (λ j. e₁ j ≡ (as_printed Round.First).constants) (λ j. hlevel props) x.first y.first i;
      second = is_prop→PathP (λ j. e₂ j ≡ (as_printed Round.Second).constants) (λ j. hlevel props) x.second y.second i;
      third = is_prop→PathP (λ j. e₃ j ≡ (as_printed Round.Third).constants) (λ j. hlevel props) x.third y.third i;
      fourth = is_prop→PathP (λ j. e₄ j ≡ (as_printed Round.Fourth).constants) (λ j. hlevel props) x.fourth y.fourth i;
    }

pub returns : goal.returns
returns c = alike _ _ c.new.ensures.first c.new.ensures.second c.new.ensures.third c.new.ensures.fourth
