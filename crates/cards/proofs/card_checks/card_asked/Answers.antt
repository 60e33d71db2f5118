-- `card_asked` meets its promise: the checks in their order.
use Rattle.std.specs.Prelude.{ℕ, ◌≡◌, List, Ok, Err}
use Rattle.std.proofs.Common.{sym, ◌∙◌}
use Rattle.refusal.specs.declared.Refusal.{Refusal}
use Rattle.refusal.specs.Laws.{passed_on}
use Rattle.password.specs.PhraseAndSeed.{phrase_checked}
use Rattle.challenge.specs.declared.reading.Challenge.{Challenge}
use Rattle.challenge.specs.Challenges.{challenge_of}
use Rattle.cards.specs.CardChecks.{card_checked}
use Rattle.cards.specs.Inside.{lines_counted, asked_of}
use Rattle.cards.proofs.card_checks.card_asked.Goals as goal
use Rattle.cards.proofs.card_checks.card_asked.Goals.{In_ok-check_phrase}

module _ (phrase challenge : List ℕ) (k : ℕ) where
  refused_phrase : (why : Refusal) → phrase_checked phrase ≡ Err why → Err why ≡ asked_of phrase challenge k
  unfolding asked_of card_checked
  refused_phrase why e = rw e

  module _ (e : phrase_checked phrase ≡ Ok tt) where
    refused_challenge : (why : Refusal) → challenge_of challenge ≡ Err why → Err why ≡ asked_of phrase challenge k
    unfolding asked_of card_checked
    refused_challenge why f = rw (e, f)

    counted : (read : Challenge) → challenge_of challenge ≡ Ok read → lines_counted k read.algorithm read.count ≡ asked_of phrase challenge k
    unfolding asked_of card_checked
    counted read f = rw (e, f)

good_phrase : (c : In_ok-check_phrase) → phrase_checked c.args.phrase.now ≡ Ok tt
good_phrase c = sym c.check_phrase.ensures ∙ c.in_ok-check_phrase.was

pub returns-in_err-check_phrase : goal.returns-in_err-check_phrase
returns-in_err-check_phrase c =
    passed_on _ _ c.from_residual.ensures.1 ∙ refused_phrase _ _ _ _ (sym c.check_phrase.ensures ∙ c.in_err-check_phrase.was)

pub returns-in_err-asked : goal.returns-in_err-asked
returns-in_err-asked c =
    passed_on _ _ c.from_residual-in_err-asked.ensures.1
    ∙ refused_challenge _ _ _ (good_phrase (goal.at.returns-in_err-asked c).In_ok-check_phrase) _ (sym c.read.ensures ∙ c.in_err-asked.was)

pub returns : goal.returns
returns c =
    c.lines_counted.ensures
    ∙ counted _ _ _ (good_phrase (goal.at.returns c).In_ok-check_phrase) _ (sym c.read.ensures ∙ c.in_ok-asked.was)
