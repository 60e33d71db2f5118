-- `seed_of` meets its promise: the part that `read` names, and the empty part at the start after a refusal.
use Rattle.std.specs.Prelude.{Result, Ok, Err}
use Prim.Native.Nat.{ℕ, ◌+◌, ◌-◌, ◌≤◌}
use mathlib.Core.Path.{◌≡◌, refl, sym, ◌∙◌, ap}
use mathlib.Core.List.{List, []}
use native.Mathlib.Omega.{arith}
use native.Mathlib.Nat.{zero-add}
use lib.ListN.{length, take, drop}
use Rattle.refusal.specs.declared.Refusal.{Refusal}
use Rattle.challenge.specs.declared.reading.Challenge.{Challenge}
use Rattle.challenge.specs.Challenges.{challenge_of, start_of, length_of, seed_of}
use Rattle.challenge.specs.Laws.{part_within}
use Rattle.challenge.proofs.reading.seed_of.Goals as goal
use Rattle.challenge.proofs.reading.seed_of.Goals.{In-Ok}

part : (text : List ℕ) (read : Challenge) (o : ℕ) → challenge_of text ≡ Ok read
    → (take (read.start + read.len - read.start) (drop read.start text) ≡ seed_of text) × (read.start + o ≡ start_of (challenge_of text) + o)
part text read o e =
    let back : read.start + read.len - read.start ≡ read.len = omega arith in (
      ap (λ (k : ℕ). take k (drop read.start text)) back ∙ sym (ap (λ (r : Result Challenge Refusal). take (length_of r) (drop (start_of r) text)) e),
      sym (ap (λ (r : Result Challenge Refusal). start_of r + o) e),
    )

none : (text : List ℕ) (why : Refusal) (o : ℕ) → challenge_of text ≡ Err why
    → ([] ≡ seed_of text) × (o ≡ start_of (challenge_of text) + o)
none text why o e = (
  sym (ap (λ (r : Result Challenge Refusal). take (length_of r) (drop (start_of r) text)) e),
  sym (ap (λ (r : Result Challenge Refusal). start_of r + o) e ∙ zero-add o),
)

within : (c : In-Ok) → c.in-Ok.challenge.start + c.in-Ok.challenge.len
    ≤ length c.args.text.now
within c = part_within _ _ _ _ _ _ c.args.text.now
    (sym c.read.ensures ∙ c.in-Ok.is)

pub overflow_add-end : goal.overflow_add-end
overflow_add-end c = omega (arith, within (goal.at.overflow_add-end c).In-Ok)

pub slice_bounds-result-end : goal.slice_bounds-result-end
slice_bounds-result-end c = within (goal.at.slice_bounds-result-end c).In-Ok

pub returns-in-Ok : goal.returns-in-Ok
returns-in-Ok c =
    let e = part c.args.text.now _ _ (sym c.read.ensures ∙ c.in-Ok.is) in
    (e.0, refl, e.1)

pub returns-in-Err : goal.returns-in-Err
returns-in-Err c =
    let e = none c.args.text.now _ c.args.text.ref_ptr.1 (sym c.read.ensures ∙ c.in-Err.is) in
    (e.0, refl, e.1)
