-- `renewal` meets its promise: refused as the values are checked, or the account with them and with one older seed more.
use Prim.Native.Nat.{ℕ}
use mathlib.Core.Path.{◌≡◌, sym, ap, ap₂, ◌∙◌}
use mathlib.Core.List.{List}
use borrow.Author.Rules.{rules}
use lib.ListN.{length, take}
use Rattle.refusal.specs.Laws.{passed_on}
use Rattle.accounts.specs.Rooms.{in_places, part_of}
use Rattle.accounts.specs.Accounts.{with_values, proposal}
use Rattle.accounts.specs.OlderBytes.{remembering}
use Rattle.accounts.specs.Laws.{part_pushed, pushed_older}
use Rattle.accounts.proofs.values.Good.{fits, new_too, none_proposed, room-proposed}
use Rattle.accounts.proofs.values.renewal.Goals as goal
use Rattle.accounts.proofs.values.renewal.Goals.{Start}

sixteen : (c : Start) → length c.args.present.seed ≡ 16
sixteen c = search rules

all : (c : Start) → length c.args.older.now ≡ 3808
all c = search rules

pub account-requires : goal.account-requires
account-requires c = let a = c.args in
    let good = sym c.check_values.ensures ∙ c.in_ok-check_values.was in
    fits a.algorithm a.count a.seed.now (new_too a.algorithm a.count a.seed.now _ good)

pub returns-in_err-check_values : goal.returns-in_err-check_values
returns-in_err-check_values c =
    let a = c.args in
    ap (λ r. proposal r (part_of (remembering a.room a.present a.older.now) a.room)) (passed_on _ _ c.from_residual.ensures.1)
    ∙ none_proposed _ _ _ (sym c.check_values.ensures ∙ c.in_err-check_values.was)

pub returns : goal.returns
returns c =
    let a = c.args in
    let part = part_of a.older.now a.room in
    let older =
    ap₂ (λ (n : ℕ) (l : List ℕ). take n (in_places 7 l)) c.one_more-older_count.ensures
    (part_pushed a.room a.present a.older.now c.requires.room_bound (all (goal.at.returns c).Start) (sixteen (goal.at.returns c).Start))
    ∙ pushed_older a.present part (sixteen (goal.at.returns c).Start) in
    room-proposed _ _ _ (sym c.check_values.ensures ∙ c.in_ok-check_values.was)
    (c.account.ensures (part_of (remembering a.room a.present a.older.now) a.room)
    ∙ ap (λ (seeds : List (List ℕ)). with_values a.present.id seeds a.algorithm a.count a.seed.now a.password) older)
