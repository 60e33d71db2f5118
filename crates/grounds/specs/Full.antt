-- When Enrol is refused for want of a room, and that a removed account's room is used again.
use Rattle.std.specs.Prelude.{ℕ, ◌≡◌, refl, ◌↔◌, true, not, ◌&&◌, List, [], ◌∷◌, eqb, leb, Ok, Err}
use Rattle.std.proofs.Common.{arith, ap₂, ◌∙◌}
use Rattle.std.proofs.Math.Path.{sym}
use Rattle.refusal.specs.declared.Refusal.{Refusal}
use Rattle.refusal.specs.Answers.{Checked}
use Rattle.refusal.specs.Checks.{unless, in_order}
use Rattle.refusal.specs.Laws.{must_good, in_parts}
use Rattle.password.specs.Algorithm.{numbered, algorithm_checked}
use Rattle.password.specs.PhraseAndSeed.{seed_checked}
use Rattle.accounts.specs.Accounts.{count_within}
use Rattle.table.specs.Table.{State, is_there}
use Rattle.table.specs.TableChecks.{id_given, id_new, room_left, account_there}
use Rattle.table.specs.Steps.{refused, done, enrol_checked, enrol, remove}
use Rattle.reached.specs.Equal.{accounts_in, Housed}
use Rattle.reached.specs.Laws.{full_exactly, removed_room_left}
use Rattle.grounds.specs.Never.{test, of_algorithm, of_seed, rows_never}

-- What a call answers that is done if its checks find nothing wrong.
pub settled_answer : (s s' : State) (check : Checked) → (unless (refused s) check (done s')).answer ≡ check
settled_answer s s' (Ok _) = refl
settled_answer s s' (Err why) = refl

-- A refusal that is given by the last check and by none before it: those find nothing wrong.
pub last_refuses : (why : Refusal) (before last : Checked) → (before ≡ Err why → ⊥)
    → unless Err before (in_order (last ∷ [])) ≡ Err why → (before ≡ Ok tt) × (last ≡ Err why)
last_refuses why (Ok _) (Ok _) n e = let z : ◌≡◌ {A = ℕ} 0 1 = cc in absurd (omega arith)
last_refuses why (Ok _) (Err w) n e = (refl, e)
last_refuses why (Err w) last n e = absurd (n e)

module _ (id number count : ℕ) (seed password : List ℕ) (s : State) where
  -- The checks before 53, and then whether there is a room.
  abbrev before : List Checked
  before = id_given id ∷ count_within count ∷ algorithm_checked (numbered number) ∷ seed_checked seed ∷ id_new id s ∷ []

  enrol-answer : (enrol id number count seed password s).answer ≡ unless Err (in_order before) (in_order (room_left s ∷ []))
  unfolding enrol enrol_checked
  enrol-answer = settled_answer s _ (enrol_checked id number count seed s) ∙ sym (in_parts before (room_left s ∷ []))

  other_checks : in_order before ≡ Err Refusal.TableFull → ⊥
  other_checks =
      rows_never (53 ∷ []) Refusal.TableFull refl (test (not (eqb id 0)) Refusal.IdZero ∷ test (leb 2 count && leb count 9999) Refusal.CountOutside
      ∷ of_algorithm (numbered number) ∷ of_seed seed ∷ test (not (is_there id s)) Refusal.IdTaken ∷ []) refl

  pub enrol_full : Housed s
      → ((enrol id number count seed password s).answer ≡ Err Refusal.TableFull)
      ↔ ((in_order before ≡ Ok tt) × (accounts_in s.rooms ≡ 32))
  enrol_full h = (
    λ e.
        let parts = last_refuses Refusal.TableFull (in_order before) (room_left s) other_checks (sym enrol-answer ∙ e) in
        (parts.0, (full_exactly s h).0 parts.1),
    λ p.
        enrol-answer ∙ ap₂ (λ (j k : Checked). unless Err j (in_order (k ∷ []))) p.0 ((full_exactly s h).1 p.1),
  )

  pub enrol_taken : in_order before ≡ Ok tt → room_left s ≡ Ok tt → (enrol id number count seed password s).answer ≡ Ok tt
  enrol_taken e f = enrol-answer ∙ ap₂ (λ (j k : Checked). unless Err j (in_order (k ∷ []))) e f

removed_there : (id : ℕ) (s : State) → (remove id s).answer ≡ Ok tt → is_there id s ≡ true
unfolding remove
removed_there id s e = must_good (is_there id s) Refusal.AccountMissing (sym (settled_answer s _ (account_there id s)) ∙ e)

pub removed_room_used : (gone : ℕ) (s : State) → Housed s → (remove gone s).answer ≡ Ok tt → (id number count : ℕ) (seed password : List ℕ)
    → in_order (id_given id ∷ count_within count ∷ algorithm_checked (numbered number) ∷ seed_checked seed ∷ id_new id (remove gone s).state ∷ [])
    ≡ Ok tt
    → (enrol id number count seed password (remove gone s).state).answer ≡ Ok tt
removed_room_used gone s h e id number count seed password good =
    enrol_taken id number count seed password (remove gone s).state good (removed_room_left gone s h (removed_there gone s e))
