-- `trimmed` meets its promise: past the last byte that is solid all is white.
use Rattle.std.proofs.Common.{◌≡◌, ℕ, suc, ◌+◌, ◌<◌, true, false, List, [], length, get_or}
use Rattle.std.proofs.Common.{take, drop, sym, ◌∙◌, ap, arith, take-suc, take-append-drop, length-take-le, length-drop, get_or-drop}
use Rattle.text.specs.Kinds.{is_white}
use Rattle.text.specs.Tests.{every_from}
use Rattle.extended.specs.Parameters as spec
use Rattle.extended.specs.Laws.{trimmed_white, trimmed_solid}
use Rattle.extended.proofs.parameters.trimmed.Goals as goal

none : (s : List ℕ) → ((k : ℕ) → k < length s → is_white (get_or s k 0) ≡ true) → spec.trimmed s ≡ 0
unfolding spec.trimmed
none s h = trimmed_white [] s (every_from is_white s h)

upto : (s : List ℕ) (i : ℕ) → i < length s → is_white (get_or s i 0) ≡ false
    → ((k : ℕ) → i < k → k < length s → is_white (get_or s k 0) ≡ true) → spec.trimmed s ≡ i + 1
upto s i h e w =
    ap spec.trimmed (sym (take-append-drop (suc i) s))
    ∙ trimmed_white (take (suc i) s) (drop (suc i) s) (every_from is_white (drop (suc i) s) (λ k l.
    ap is_white (get_or-drop (suc i) s k 0) ∙ w (suc i + k) (omega arith) (omega (arith, length-drop (suc i) s))))
    ∙ ap spec.trimmed (take-suc s i 0 h) ∙ trimmed_solid (take i s) (get_or s i 0) e ∙ omega (arith, length-take-le i s (omega arith))

pub returns-in-Some : goal.returns-in-Some
returns-in-Some c =
    let e = c.in-Some.ensures in
    (sym (upto c.args.s.now c.in-Some.last e.0 e.1 e.2), omega (arith, e.0))

pub returns-in-None : goal.returns-in-None
returns-in-None c = (sym (none c.args.s.now c.in-None.ensures), omega arith)
