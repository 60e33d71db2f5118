-- `write_from` meets its promise: the generator's password at the lowest count, then the lines.
use Rattle.std.specs.Prelude.{Ok, Err}
use Prim.Native.Nat.{ℕ, ◌-◌, ◌≤◌}
use mathlib.Core.Path.{◌≡◌, sym, ◌∙◌, subst}
use mathlib.Core.List.{List}
use native.Mathlib.Omega.{arith}
use Rattle.refusal.specs.Answers.{Reading}
use Rattle.refusal.specs.declared.Refusal.{Refusal}
use Rattle.text.specs.Put.{Writes}
use Rattle.password.specs.Password.{password}
use Rattle.challenge.specs.Challenges.{seed_of}
use Rattle.cards.specs.Laws.{card_generated}
use Rattle.cards.proofs.Ways.{bounds, card_from}
use Rattle.cards.proofs.write_from.Goals as goal
use Rattle.cards.proofs.write_from.Goals.{After-password_at, Start}

same_password : {p q : ℕ} → ◌≡◌ {A = Reading} (Ok p) (Ok q) → p ≡ q
same_password e = cc

never : {A : Type 0} (why : Refusal) (p : ℕ) → ◌≡◌ {A = Reading} (Err why) (Ok p) → A
never why p e = let z : ◌≡◌ {A = ℕ} 0 1 = cc in absurd (omega arith)

within : (c : Start) → (1 ≤ c.args.k) × (c.args.k ≤ 99) × (c.args.k ≤ c.args.n)
within c = bounds c.args.phrase.now c.args.challenge.now c.args.k c.requires.k_value.0 c.args.n c.requires.k_value.1

lowest : (c : After-password_at) →
    let a = c.args in
    c.password_at.result ≡ Ok (password a.algorithm a.phrase.now (seed_of a.challenge.now) (a.n - (a.k - 1)))
lowest c =
    let a = c.args in
    c.password_at.ensures
    ∙ card_generated a.phrase.now a.challenge.now a.k c.requires.k_value.0 _ (a.n - (a.k - 1)) (omega (arith, c.requires.k_value.1))

pub overflow_sub-low : goal.overflow_sub-low
overflow_sub-low c = (within (goal.at.overflow_sub-low c).Start).0

pub overflow_sub-low-2 : goal.overflow_sub-low-2
overflow_sub-low-2 c = omega (arith, within (goal.at.overflow_sub-low-2 c).Start)

pub write_walked-requires : goal.write_walked-requires
write_walked-requires c = within (goal.at.write_walked-requires c).Start

pub returns : goal.returns
returns c =
    let a = c.args in
    subst (λ (t : List ℕ). Writes t a.buf.now c.write_walked.new.buf c.write_walked.result)
    (card_from a.phrase.now a.challenge.now a.k a.algorithm a.n c.requires.algorithm_value c.requires.k_value.1)
    (c.write_walked.ensures a.phrase.now (seed_of a.challenge.now)
    (same_password (sym c.in_ok-p.was ∙ lowest (goal.at.returns c).After-password_at)))

pub returns-in_err-p : goal.returns-in_err-p
returns-in_err-p c = never _ _ (sym c.in_err-p.was ∙ lowest (goal.at.returns-in_err-p c).After-password_at)
