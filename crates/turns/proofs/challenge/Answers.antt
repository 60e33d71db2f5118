-- `challenge` meets its promise: refused as the turn is, or what the writer answers and leaves.
use Prim.Native.Nat.{◌-◌}
use mathlib.Core.Path.{sym, ap, ◌∙◌}
use mathlib.Core.Bool.{true}
use lib.ListN.{length}
use Rattle.refusal.specs.Laws.{passed_on}
use Rattle.text.specs.PutLaws.{refused_leaves}
use Rattle.text.specs.Put.{leaves}
use Rattle.challenge.specs.Challenges.{challenge_text, challenge_written_by}
use Rattle.table.specs.Table.{view}
use Rattle.table.specs.StepLaws.{challenge_refused, challenge_done}
use Rattle.turns.specs.TurnPart.{Seen}
use Rattle.turns.proofs.challenge.Goals as goal

pub returns-in_err-turn : goal.returns-in_err-turn
returns-in_err-turn c =
    let no = passed_on _ _ c.from_residual.ensures.1 in record {
      answered = λ older.
          no
          ∙ sym (challenge_refused _ (view c.args.table older) _ _
          (sym (ap (λ (t : Seen). t.checked) (c.turn_of-turn.ensures older)) ∙ c.in_err-turn.was));
      left = λ older. refused_leaves _ _ _ _ no;
    }

pub returns : goal.returns
returns c =
    let a = c.args in
    let b = a.buf.now in record {
      answered = λ older.
          c.write_challenge.ensures.answered
          ∙ ap (λ (t : Seen). challenge_written_by true t.account.algorithm t.account.seed (t.account.count - 1) (length b))
          (c.turn_of-turn.ensures older)
          ∙ sym (challenge_done _ (view a.table older) _
          (sym (ap (λ (t : Seen). t.checked) (c.turn_of-turn.ensures older)) ∙ c.in_ok-turn.was));
      left = λ older.
          c.write_challenge.ensures.left
          ∙ ap (λ (t : Seen). leaves c.write_challenge.result
          (challenge_text true t.account.algorithm t.account.seed (t.account.count - 1)) b) (c.turn_of-turn.ensures older);
    }
