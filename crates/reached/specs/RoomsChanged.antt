-- Accounts in their rooms: where an account stands, and what a changed room does to the others.
use Rattle.std.specs.Prelude.{ℕ, suc, ◌<◌, ◌≡◌, refl, Bool, true, false, cond, not, ◌&&◌, List, [], ◌∷◌, eqb, length, get_or, set}
use Rattle.std.proofs.Common.{sym, ap, ◌∙◌, eqb-true, eq-eqb, ne_eqb, ltb-true, get_or-set_same}
use Rattle.std.proofs.lemmas.Bool.{eqb-false, not-true}
use Rattle.text.specs.Tests.{both}
use Rattle.table.specs.Table.{Held, free_room, place_of, holds}

-- Another account stands where it stood, as it was, when the first room with the id k changes.
pub other_stays : (j k : ℕ) (rooms : List Held) (room : Held) → (j ≡ k → ⊥) → (room.account.id ≡ j → ⊥)
    → (place_of j (set rooms (place_of k rooms) room) ≡ place_of j rooms)
    × (get_or (set rooms (place_of k rooms) room) (place_of j rooms) free_room ≡ get_or rooms (place_of j rooms) free_room)
unfolding place_of
other_stays j k [] room d n = (refl, refl)
other_stays j k (r ∷ rs) room d n = go (eqb r.account.id k) (eqb r.account.id j) refl refl (other_stays j k rs room d n)
  where
    go : (t u : Bool) → eqb r.account.id k ≡ t → eqb r.account.id j ≡ u
        → (place_of j (set rs (place_of k rs) room) ≡ place_of j rs)
        × (get_or (set rs (place_of k rs) room) (place_of j rs) free_room ≡ get_or rs (place_of j rs) free_room)
        → (place_of j (set (r ∷ rs) (cond t 0 (suc (place_of k rs))) room) ≡ cond u 0 (suc (place_of j rs)))
        × (get_or (set (r ∷ rs) (cond t 0 (suc (place_of k rs))) room) (cond u 0 (suc (place_of j rs))) free_room
        ≡ get_or (r ∷ rs) (cond u 0 (suc (place_of j rs))) free_room)
    go true true e f ih = absurd (d (sym (eqb-true r.account.id j f) ∙ eqb-true r.account.id k e))
    go true false e f ih = (rw (ne_eqb room.account.id j n), refl)
    go false true e f ih = (rw f, refl)
    go false false e f ih = (rw f (ap suc ih.0), ih.1)

-- A room that keeps its id is still the first with it.
pub same_place : (k : ℕ) (rooms : List Held) (room : Held) → room.account.id ≡ k
    → place_of k (set rooms (place_of k rooms) room) ≡ place_of k rooms
unfolding place_of
same_place k [] room n = refl
same_place k (r ∷ rs) room n = go (eqb r.account.id k) refl (same_place k rs room n)
  where
    go : (t : Bool) → eqb r.account.id k ≡ t
        → place_of k (set rs (place_of k rs) room) ≡ place_of k rs
        → place_of k (set (r ∷ rs) (cond t 0 (suc (place_of k rs))) room) ≡ cond t 0 (suc (place_of k rs))
    go true e ih = rw (eq-eqb room.account.id k n)
    go false e ih = rw e (ap suc ih)

-- ---- an account that is there

pub there_parts : (id : ℕ) (rooms : List Held) → (not (eqb id 0) && holds id rooms) ≡ true
    → (id ≡ 0 → ⊥) × (place_of id rooms < length rooms)
there_parts id rooms e =
    let halves = both (not (eqb id 0)) (holds id rooms) e in
    (eqb-false id 0 (not-true (eqb id 0) halves.0), ltb-true (place_of id rooms) (length rooms) halves.1)

-- It is the same when the room of another one changes.
pub other_same : (j k : ℕ) (rooms : List Held) (room : Held) → (j ≡ k → ⊥) → (room.account.id ≡ j → ⊥)
    → get_or (set rooms (place_of k rooms) room) (place_of j (set rooms (place_of k rooms) room)) free_room ≡ get_or rooms (place_of j rooms) free_room
other_same j k rooms room d n =
    let stays = other_stays j k rooms room d n in
    ap (λ (m : ℕ). get_or (set rooms (place_of k rooms) room) m free_room) stays.0 ∙ stays.1

-- The room that keeps its id holds what was put there.
pub same_changed : (k : ℕ) (rooms : List Held) (room : Held) → room.account.id ≡ k → place_of k rooms < length rooms
    → get_or (set rooms (place_of k rooms) room) (place_of k (set rooms (place_of k rooms) room)) free_room ≡ room
same_changed k rooms room n h =
    ap (λ (m : ℕ). get_or (set rooms (place_of k rooms) room) m free_room) (same_place k rooms room n)
    ∙ get_or-set_same rooms (place_of k rooms) room free_room h
