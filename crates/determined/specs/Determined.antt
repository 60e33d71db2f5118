-- 01, What the promises have to say: "Each public function's promise determines its answer and the final contents of what was lent to
-- it, refused calls included. Prove that two results meeting it are equal." Here is what that says of a promise; the files below say it
-- of each function's own. A function's promise is `Learnt`, what its callers learn: of the lifetimes k, the arguments a, the answer y and
-- what was lent as it is at the end, e.
use Rattle.std.specs.Prelude.{◌≡◌, List, ℕ}
use Rattle.std.proofs.Common.{sym, ◌∙◌, ap}
use seplogic.Ra.Ura.{Ura}
use base.Logic.{SProp, ent, sep, fst∗, snd∗}
use prog.Memory.{Memory}
use prog.Routine.{Routine}
use types.Logic.{Logic}
use contract.Fact.{fact_use, fact_i}
use contract.Monad.{Fun, fact}
use contract.Lifetimes.{Lfts}
use denote.Triple.Clauses.{AtExit, Clauses, Ended}
use denote.Triple.Entry.{Args, Res}
use Rattle.refusal.specs.Answers.{Written}
use Rattle.text.specs.Put.{leaves}

-- Two answers that meet the promise, for the same arguments, are equal.
abbrev pub Answers : {K : Type 0} {A R E : K → Type 0} → ((k : K) → A k → R k → E k → Type 0) → Type 0
Answers {K} {A} {R} {E} Promise = (k : K) (a : A k) (y z : R k) (e f : E k) → Promise k a y e → Promise k a z f → y ≡ z

-- The results are equal as they are seen: the answers, and what was lent as it is at the end.
abbrev pub AsSeen : {K : Type 0} {A R E : K → Type 0} {S : Type 0} → ((k : K) → A k → R k → E k → Type 0) → ((k : K) → A k → R k → E k → S) → Type 0
AsSeen {K} {A} {R} {E} Promise seen =
    (k : K) (a : A k) (y z : R k) (e f : E k) → Promise k a y e → Promise k a z f → seen k a y e ≡ seen k a z f

-- The answers are equal as they are seen.
abbrev pub AnswersSeen : {K : Type 0} {A R E : K → Type 0} {S : Type 0} → ((k : K) → A k → R k → E k → Type 0) → ((k : K) → R k → S) → Type 0
AnswersSeen {K} {A} {R} {E} Promise seen = AsSeen Promise (λ k a y e. seen k y)

-- What was lent is the same at the end.
abbrev pub Lent : {K : Type 0} {A R E : K → Type 0} {S : Type 0} → ((k : K) → A k → R k → E k → Type 0) → ((k : K) → E k → S) → Type 0
Lent {K} {A} {R} {E} Promise lent =
    (k : K) (a : A k) (y z : R k) (e f : E k) → Promise k a y e → Promise k a z f → lent k e ≡ lent k f

-- Both: the answers are equal, and what was lent is the same at the end.
abbrev pub AnswersAndLent : {K : Type 0} {A R E : K → Type 0} {S : Type 0} → ((k : K) → A k → R k → E k → Type 0) → ((k : K) → E k → S) → Type 0
AnswersAndLent {K} {A} {R} {E} Promise lent =
    (k : K) (a : A k) (y z : R k) (e f : E k) → Promise k a y e → Promise k a z f → (y ≡ z) × (lent k e ≡ lent k f)

-- A promise as the prover has it, an assertion, in place of `Learnt`, as of a function on a lent record: who has it of two ends, e and
-- f, has that what was lent is the same at both.
abbrev pub Promised : Ended → Type 2
Promised E = (M : Type 1) (𝓤 : Ura M) → (𝓛 : Logic 𝓤) → (Memory → SProp 𝓤) → (Routine → Fun 𝓤) → Clauses 𝓤 E

abbrev pub LentByHand : {S : Type 0} (E : Ended) → Promised E → ((k : Lfts E.signature.lifetimes) → AtExit E k → S) → Type 2
LentByHand E promise lent =
    (M : Type 1) (𝓤 : Ura M) (𝓛 : Logic 𝓤) (mem : Memory → SProp 𝓤) (run : Routine → Fun 𝓤)
    (k : Lfts E.signature.lifetimes) (a : Args E.signature k) (g : (promise M 𝓤 𝓛 mem run k a).ghost) (y z : Res E.signature k) (e f : AtExit E k)
    → ent 𝓤 (sep 𝓤 ((promise M 𝓤 𝓛 mem run k a).ensures g y e) ((promise M 𝓤 𝓛 mem run k a).ensures g z f)) (fact 𝓤 (lent k e ≡ lent k f))

-- Of such a promise of one equation.
pub one_fact : {M : Type 1} (𝓤 : Ura M) {B : Type 0} (x c d : B) → ent 𝓤 (sep 𝓤 (fact 𝓤 (c ≡ x)) (fact 𝓤 (d ≡ x))) (fact 𝓤 (c ≡ d))
one_fact 𝓤 x c d =
    fact_use 𝓤 (c ≡ x) (fst∗ 𝓤 (fact 𝓤 (c ≡ x)) (fact 𝓤 (d ≡ x))) (λ p.
    fact_use 𝓤 (d ≡ x) (snd∗ 𝓤 (fact 𝓤 (c ≡ x)) (fact 𝓤 (d ≡ x))) (λ q. fact_i 𝓤 (c ≡ d) _ (p ∙ sym q)))

-- Of a promise of two equations.
pub both : {A B : Type 0} {x r s : A} {u c d : B} → (r ≡ x) × (c ≡ u) → (s ≡ x) × (d ≡ u) → (r ≡ s) × (c ≡ d)
both p q = (p.0 ∙ sym q.0, p.1 ∙ sym q.1)

-- Of a writer's promise: what it leaves goes by its answer.
pub left : (t b : List ℕ) {c d : List ℕ} {answer r s : Written} → (r ≡ answer) × (c ≡ leaves r t b) → (s ≡ answer) × (d ≡ leaves s t b) → (r ≡ s) × (c ≡ d)
left t b p q =
    let same = p.0 ∙ sym q.0 in
    (same, p.1 ∙ ap (λ (w : Written). leaves w t b) same ∙ sym q.1)
