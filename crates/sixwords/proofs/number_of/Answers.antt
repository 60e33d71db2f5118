-- `number_of` meets its promise.
use Rattle.std.proofs.Common.{◌≡◌, true, ◌∙◌, ap, sym, ℕ, ◌%◌, ◌/◌}
use Rattle.sixwords.specs.Places.{all_places, pair_sum}
use Rattle.sixwords.proofs.Six.{all_listed, number_is, sum_wrong, place_wrong}
use Rattle.sixwords.proofs.number_of.Goals as goal
use Rattle.sixwords.proofs.number_of.Goals.{Else-not-all_places, After-from}

all : (c : Else-not-all_places) → all_places c.args.places ≡ true
all c = sym (all_listed c.args.places) ∙ sym c.all_places.ensures ∙ c.if-not-all_places.false

-- the sum that is compared is the definition's
summed : (c : After-from) → c.from.result ≡ pair_sum (c.joined-whole.result / 4) % 4
summed c = c.from.ensures ∙ ap (λ (n : ℕ). n % 4) c.pair_sum.ensures

pub returns-then-not-all_places : goal.returns-then-not-all_places
returns-then-not-all_places c =
    place_wrong c.args.places (sym (all_listed c.args.places) ∙ sym c.all_places.ensures ∙ c.if-not-all_places.true)

pub joined-whole-requires : goal.joined-whole-requires
joined-whole-requires c = all (goal.at.joined-whole-requires c).Else-not-all_places

pub returns-then-from-whole : goal.returns-then-from-whole
returns-then-from-whole c =
    number_is c.args.places c.joined-whole.result (all (goal.at.returns-then-from-whole c).Else-not-all_places) c.joined-whole.ensures.0
    (sym (summed (goal.at.returns-then-from-whole c).After-from) ∙ c.if-from-whole.true)

pub returns-else-from-whole : goal.returns-else-from-whole
returns-else-from-whole c =
    sum_wrong c.args.places c.joined-whole.result (all (goal.at.returns-else-from-whole c).Else-not-all_places) c.joined-whole.ensures.0
    (λ e. c.if-from-whole.false (summed (goal.at.returns-else-from-whole c).After-from ∙ e))
