-- `write_card` meets its promise: the checks, then the card.
use Rattle.std.specs.Prelude.{Ok}
use Rattle.std.specs.Prelude.{◌≡◌}
use Rattle.std.proofs.Common.{sym, ◌∙◌}
use lib.ListN.{length}
use Rattle.refusal.specs.Laws.{passed_on}
use Rattle.text.specs.PutLaws.{refused_leaves}
use Rattle.challenge.specs.Challenges.{challenge_of, algorithm_of}
use Rattle.cards.specs.CardChecks.{count_of, card_checked}
use Rattle.cards.specs.CardCheckLaws.{asked_card, asked_refused}
use Rattle.cards.proofs.Ways.{refused, written}
use Rattle.cards.proofs.write_card.Goals as goal
use Rattle.cards.proofs.write_card.Goals.{In_ok-algorithm}

asked : (c : In_ok-algorithm) →
    let a = c.args in
    (card_checked a.phrase.now a.challenge.now a.lines ≡ Ok tt)
    × (c.in_ok-algorithm.algorithm ≡ algorithm_of (challenge_of a.challenge.now))
    × (c.in_ok-algorithm.n ≡ count_of (challenge_of a.challenge.now))
asked c =
    let a = c.args in
    asked_card a.phrase.now a.challenge.now a.lines _ _ (sym c.card_asked.ensures ∙ c.in_ok-algorithm.was)

pub write_from-requires : goal.write_from-requires
write_from-requires c = let a = asked (goal.at.write_from-requires c).In_ok-algorithm in record { k_value = (a.0, a.2); algorithm_value = a.1 }

pub returns : goal.returns
returns c =
    let a = c.args in record {
      answered = c.write_from.ensures.0
          ∙ sym (written a.phrase.now a.challenge.now a.lines (asked (goal.at.returns c).In_ok-algorithm).0 (length a.buf.now));
      left = c.write_from.ensures.1;
    }

pub returns-in_err-algorithm : goal.returns-in_err-algorithm
returns-in_err-algorithm c =
    let a = c.args in
    let no = passed_on _ _ c.from_residual.ensures.1 in record {
      answered = no ∙ refused a.phrase.now a.challenge.now a.lines (length a.buf.now) _
          (asked_refused a.phrase.now a.challenge.now a.lines _ (sym c.card_asked.ensures ∙ c.in_err-algorithm.was));
      left = refused_leaves _ _ _ _ no;
    }
