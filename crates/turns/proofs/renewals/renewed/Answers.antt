-- `renewed` meets its promise: refused as the turn is; or as the values are, or the password is compared, and the seed is kept.
use Prim.Native.Nat.{ℕ}
use mathlib.Core.Path.{◌≡◌, refl, sym, ap, ◌∙◌}
use mathlib.Core.List.{List}
use borrow.Author.Rules.{rules}
use lib.ListN.{length}
use Rattle.refusal.specs.Laws.{first_refused, first_good}
use Rattle.accounts.specs.Rooms.{part_of}
use Rattle.accounts.specs.OlderBytes.{remembering}
use Rattle.table.specs.Answers.{Replied}
use Rattle.turns.specs.TurnPart.{Said, seen, outcome, older_after, refused}
use Rattle.turns.specs.TurnPart as spec
use Rattle.turns.specs.TurnPartLaws.{older_after_lem, renewed_place}
use Rattle.turns.proofs.renewals.renewed.Goals as goal
use Rattle.turns.proofs.renewals.renewed.Goals.{Start}

sixteen : (c : Start) → length c.args.turn.account.seed ≡ 16
sixteen c = search rules

all : (c : Start) → length c.args.older.now ≡ 3808
all c = search rules

pub returns-in-Err : goal.returns-in-Err
unfolding spec.renewed
returns-in-Err c =
    let a = c.args in
    let t = seen a.turn a.older.now in
    let values = spec.renew_values a.algorithm a.count a.seed.now a.new a.password t in
    record { said = c.stays.ensures a.older.now ∙ first_refused (refused t) _ _ values c.in-Err.is; left = λ why e. refl; elsewhere = λ room d. refl }

pub returns : goal.returns
unfolding spec.renewed
returns c =
    let a = c.args in
    let older = a.older.now in
    let t = seen a.turn older in
    let made = c.renew_values-made.result in
    let values = spec.renew_values a.algorithm a.count a.seed.now a.new a.password t in
    let place : made.place ≡ a.turn.place =
    ap (λ (o : Said). o.place) c.renew_values-made.ensures
    ∙ renewed_place a.algorithm a.count a.seed.now a.new a.password t in record {
      said = ap (outcome made) c.keep_seed.ensures ∙ c.renew_values-made.ensures ∙ first_good (refused t) _ values c.in_default.is;
      left = λ why e. c.keep_seed.ensures ∙ ap (λ (r : Replied). older_after r older (remembering a.turn.place a.turn.account older)) e;
      elsewhere = λ room d.
          ap (λ (l : List ℕ). part_of l room) c.keep_seed.ensures
          ∙ older_after_lem made.answer a.turn.place a.turn.account older (c.requires.place_bound c.in_default.is) (all (goal.at.returns c).Start)
          (sixteen (goal.at.returns c).Start)
          room (λ e. d (e ∙ sym place));
    }
