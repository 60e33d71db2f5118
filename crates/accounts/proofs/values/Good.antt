-- Good values, and what is proposed behind a check.
use Rattle.std.specs.Prelude.{Ok, Err}
use Prim.Native.Nat.{ℕ, ◌≤◌}
use mathlib.Core.Path.{◌≡◌, refl, sym, ap, ap₂, ◌∙◌}
use mathlib.Core.List.{List, [], ◌∷◌}
use lib.ListN.{length}
use Rattle.refusal.specs.declared.Refusal.{Refusal}
use Rattle.refusal.specs.Answers.{Checked}
use Rattle.refusal.specs.Checks.{unless, in_order}
use Rattle.refusal.specs.Laws.{each_good}
use Rattle.password.specs.Algorithm.{numbered, algorithm_checked}
use Rattle.password.specs.PhraseAndSeed.{seed_checked}
use Rattle.password.specs.PhraseAndSeedLaws.{good_seed}
use Rattle.accounts.specs.Rooms.{Room}
use Rattle.accounts.specs.Accounts.{count_within, seed_other, new_checked, values_checked, proposed}

-- Good values have a seed that can be kept.
pub fits : (number count : ℕ) (seed : List ℕ) → new_checked number count seed ≡ Ok tt → length seed ≤ 16
unfolding new_checked
fits number count seed e = (good_seed seed (each_good (count_within count ∷ algorithm_checked (numbered number) ∷ seed_checked seed ∷ []) e).1.1.0).1

-- A renewal's checks are Enrol's, and then 63.
pub then_other : (number count : ℕ) (seed : List ℕ) (present : Room)
    → values_checked number count seed present ≡ unless Err (new_checked number count seed) (seed_other seed present)
unfolding new_checked values_checked
then_other number count seed present = by (count_within count) (algorithm_checked (numbered number)) (seed_checked seed) (seed_other seed present)
  where
    by : (a b c d : Checked) → in_order (a ∷ b ∷ c ∷ d ∷ []) ≡ unless Err (in_order (a ∷ b ∷ c ∷ [])) d
    by (Ok _) (Ok _) (Ok _) (Ok _) = refl
    by (Ok _) (Ok _) (Ok _) (Err why) = refl
    by (Ok _) (Ok _) (Err why) d = refl
    by (Ok _) (Err why) c d = refl
    by (Err why) b c d = refl

-- So A renewal's good values are good at Enrol.
pub new_too : (number count : ℕ) (seed : List ℕ) (present : Room) → values_checked number count seed present ≡ Ok tt
    → new_checked number count seed ≡ Ok tt
new_too number count seed present e = by (new_checked number count seed) (sym (then_other number count seed present) ∙ e)
  where
    by : (k : Checked) → unless Err k (seed_other seed present) ≡ Ok tt → k ≡ Ok tt
    by (Ok _) f = refl
    by (Err why) f = f

-- The last of three checks decides where the two before it find nothing.
pub last_check : (first second third : Checked) → first ≡ Ok tt → second ≡ Ok tt → third ≡ in_order (first ∷ second ∷ third ∷ [])
last_check first second third e f =
    by third ∙ sym (ap₂ (λ (a b : Checked). in_order (a ∷ b ∷ third ∷ [])) e f)
  where
    by : (c : Checked) → c ≡ unless Err c (Ok tt)
    by (Ok _) = refl
    by (Err why) = refl

-- What is wrong with the values is the answer, and the account where nothing is.
pub none_proposed : (check : Checked) (why : Refusal) (room : Room) → check ≡ Err why → Err why ≡ proposed check room
none_proposed check why room e = ap (λ (k : Checked). proposed k room) (sym e)

pub room-proposed : (check : Checked) (made room : Room) → check ≡ Ok tt → made ≡ room → Ok made ≡ proposed check room
room-proposed check made room e f = ap Ok f ∙ ap (λ (k : Checked). proposed k room) (sym e)
