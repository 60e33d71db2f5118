-- One place more, with a whole turn, is one port more at the back of its room's line.
use Prim.Native.Nat.{ℕ, ◌<◌}
use mathlib.Core.Path.{◌≡◌, refl, sym, ap, ap₂, ◌∙◌}
use mathlib.Core.Bool.{Bool, true, false, cond, ◌&&◌}
use mathlib.Core.List.{List, [], ◌∷◌, ◌++◌, append-nil}
use borrow.Author.Tests.{lt-ltb, eqb-true, eqb-false, eq-eqb, ne_eqb}
use native.Mathlib.Omega.{arith}
use native.Mathlib.Nat.{mod-eq_of_lt}
use lib.Dec.{eqb, ltb}
use Rattle.std.proofs.lemmas.List.{take_more_set, length-take-le}
use Rattle.std.proofs.Common.{length, set, ◌+◌}
use Rattle.line.specs.declared.Lines.{Lines}
use Rattle.line.specs.declared.Place.{Place}
use Rattle.line.specs.Line.{Waiting, waiting, waiting_in, joined, turn_joined, into, joined_in, is_for, ports_for, turn_for, line_for}

module _ (room : ℕ) (p : Place) where
  pub ports_last : (l : List Place) → ports_for room (l ++ p ∷ []) ≡ ports_for room l ++ cond (is_for room p) (p.port ∷ []) []
  unfolding ports_for
  ports_last [] = refl
  ports_last (q ∷ l) = by (is_for room q) (ports_last l)
    where
      by : (b : Bool) → let last = cond (is_for room p) (p.port ∷ []) [] in ports_for room (l ++ p ∷ []) ≡ ports_for room l ++ last
          → cond b (q.port ∷ ports_for room (l ++ p ∷ [])) (ports_for room (l ++ p ∷ [])) ≡ cond b (q.port ∷ ports_for room l) (ports_for room l) ++ last
      by true e = ap (λ (t : List ℕ). q.port ∷ t) e
      by false e = e

  turn_last : (l : List Place) → p.turn ≡ 60
      → turn_for room (l ++ p ∷ []) ≡ cond (is_for room p) (turn_joined (ports_for room l) (turn_for room l)) (turn_for room l)
  unfolding ports_for turn_for
  turn_last [] t = ap (λ (n : ℕ). cond (is_for room p) n 0) t
  turn_last (q ∷ l) t = by (is_for room q) (turn_last l t)
    where
      same : (b : Bool) → q.turn ≡ cond b q.turn q.turn
      same true = refl
      same false = refl

      by : (b : Bool) → turn_for room (l ++ p ∷ []) ≡ cond (is_for room p) (turn_joined (ports_for room l) (turn_for room l)) (turn_for room l)
          → let ports = cond b (q.port ∷ ports_for room l) (ports_for room l) in let turn = cond b q.turn (turn_for room l) in
          cond b q.turn (turn_for room (l ++ p ∷ [])) ≡ cond (is_for room p) (turn_joined ports turn) turn
      by true e = same (is_for room p)
      by false e = e

  line_last : (l : List Place) → p.turn ≡ 60 → line_for room (l ++ p ∷ []) ≡ cond (is_for room p) (joined p.port (line_for room l)) (line_for room l)
  line_last l t =
      ap₂ (λ (ports : List ℕ) (turn : ℕ). record { ports = ports; turn = turn }) (ports_last l) (turn_last l t) ∙ by (is_for room p)
    where
      by : (b : Bool) → let w = line_for room l in ◌≡◌ {A = Waiting}
          (record { ports = ports_for room l ++ cond b (p.port ∷ []) []; turn = cond b (turn_joined w.ports w.turn) w.turn })
          (cond b (joined p.port w) w)
      by true = refl
      by false = ap (λ (ports : List ℕ). record { ports = ports; turn = turn_for room l }) (append-nil (ports_for room l))

-- A port that joins comes into the line of that room and of no other.
pub line_joined : (port at room : ℕ) (l : List Place) → at < 32
    → line_for room (l ++ record { port = port; room = at; turn = 60 } ∷ []) ≡ into at (joined port (line_for at l)) (λ k. line_for k l) room
line_joined port at room l h =
    line_last room (record { port = port; room = at; turn = 60 }) l refl
    ∙ ap (λ (k : ℕ). cond (eqb k room) (joined port (line_for room l)) (line_for room l)) (mod-eq_of_lt h) ∙ by (eqb room at) refl
  where
    by : (b : Bool) → eqb room at ≡ b
        → cond (eqb at room) (joined port (line_for room l)) (line_for room l) ≡ cond b (joined port (line_for at l)) (line_for room l)
    by true e =
        let same = eqb-true room at e in
        ap (λ (b : Bool). cond b (joined port (line_for room l)) (line_for room l)) (eq-eqb at room (sym same))
        ∙ ap (λ (k : ℕ). joined port (line_for k l)) same
    by false e =
        ap (λ (b : Bool). cond b (joined port (line_for room l)) (line_for room l)) (ne_eqb at room (λ same. eqb-false room at e (sym same)))

-- The place is put behind those that wait.
pub joins : (port at : ℕ) (lines : Lines) → lines.len < length lines.places → lines.len < 4 → at < 32
    → waiting (record { places = set lines.places lines.len (record { port = port; room = at; turn = 60 }); len = lines.len + 1 })
    ≡ joined_in port at (length (waiting_in lines)) (waiting lines)
joins port at lines h four room =
    (λ i k. (ap (line_for k) (take_more_set lines.places lines.len _ h) ∙ line_joined port at k (waiting_in lines) room) i)
    ∙ sym (ap₂ (λ (x y : Bool). cond (x && y) (into at (joined port (waiting lines at)) (waiting lines)) (waiting lines))
    (ap (λ (n : ℕ). ltb n 4) (length-take-le _ _ (omega arith)) ∙ lt-ltb _ _ four) (lt-ltb at 32 room))
