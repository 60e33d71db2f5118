-- The places after a change, one after the other: where a loop stands that goes through them.
use Prim.Native.Nat.{ℕ, ◌+◌, ◌<◌}
use mathlib.Core.Path.{◌≡◌, refl, sym, ap, ap₂, ◌∙◌}
use mathlib.Core.Bool.{Bool, true, false, cond, not}
use mathlib.Core.List.{List, [], ◌∷◌, ◌++◌, append-nil, append_assoc}
use lib.ListN.{length, get_or, take, set}
use Rattle.std.proofs.Common.{Option, Some, None}
use Rattle.line.specs.declared.Place.{Place}
use Rattle.line.specs.Inside.{room_in, place_at, nobody, stays, kept, step, changed}
use Rattle.std.proofs.lemmas.List.{take_more, take_more_set}
use Rattle.line.proofs.Seen.{Seen}

module _ (gone : Bool → Place → Bool) (after : ℕ → ℕ) where
  changed_last : (before l : List Place) (p : Place) → changed gone after before (l ++ p ∷ []) ≡ changed gone after before l ++ step gone after (before ++ l) p
  unfolding changed
  changed_last before [] p = append-nil (step gone after before p) ∙ ap (λ (b : List Place). step gone after b p) (sym (append-nil before))
  changed_last before (q ∷ l) p =
      ap (λ (t : List Place). step gone after before q ++ t) (changed_last (before ++ q ∷ []) l p)
      ∙ ap (λ (b : List Place). step gone after before q ++ (changed gone after (before ++ q ∷ []) l ++ step gone after b p)) (append_assoc before (q ∷ []) l)
      ∙ sym (append_assoc (step gone after before q) (changed gone after (before ++ q ∷ []) l) (step gone after (before ++ q ∷ l) p))

  -- Of the first i + 1, from the first i and the place at i.
  changed_next : (l : List Place) (i : ℕ) → i < length l
      → changed gone after [] (take (i + 1) l) ≡ changed gone after [] (take i l) ++ step gone after (take i l) (place_at l i)
  changed_next l i h = ap (changed gone after []) (take_more l i nobody h) ∙ changed_last [] (take i l) (place_at l i)

  module _ (l : List Place) (seen : List Bool) (i own : ℕ) (o : own ≡ room_in (place_at l i)) (h : i < length l) (s : Seen seen (take i l)) where
    abbrev place : Place
    place = place_at l i

    abbrev front : Bool
    front = not (get_or seen own false)

    -- What becomes of the place at i.
    becomes : step gone after (take i l) place ≡ cond (gone front place) [] (stays front (after place.turn) place ∷ [])
    becomes =
        ap (λ (b : Bool). cond (gone b place) [] (stays b (after place.turn) place ∷ []))
        (sym (ap not (ap (λ (r : ℕ). get_or seen r false) o ∙ s (room_in place))))

    -- Of the first i + 1 places, if it is given up or not.
    changed_by : (b : Bool) → gone front place ≡ b
        → changed gone after [] (take (i + 1) l) ≡ changed gone after [] (take i l) ++ cond b [] (stays front (after place.turn) place ∷ [])
    changed_by b e =
        changed_next l i h
        ∙ ap (λ (t : List Place). changed gone after [] (take i l) ++ t)
        (becomes ∙ ap (λ (b : Bool). cond b [] (stays front (after place.turn) place ∷ [])) e)

    module _ (stay : List Place) (k : ℕ) (made : take k stay ≡ changed gone after [] (take i l)) where
      -- It is given up.
      pub made_gone : None ≡ kept gone after front place → take k stay ≡ changed gone after [] (take (i + 1) l)
      made_gone e = by (gone front place) refl e
        where
          by : (b : Bool) → gone front place ≡ b → ◌≡◌ {A = Option ℕ} None (cond b None (Some (after place.turn)))
              → take k stay ≡ changed gone after [] (take (i + 1) l)
          by true g e = made ∙ sym (changed_by true g ∙ append-nil (changed gone after [] (take i l)))
          by false g e = absurd (cc)

      -- It is put behind those that stay.
      pub made_stays : (turn : ℕ) → Some turn ≡ kept gone after front place → k < length stay
          → take (k + 1) (set stay k (stays front turn place)) ≡ changed gone after [] (take (i + 1) l)
      made_stays turn e h = by (gone front place) refl e
        where
          by : (b : Bool) → gone front place ≡ b → ◌≡◌ {A = Option ℕ} (Some turn) (cond b None (Some (after place.turn)))
              → take (k + 1) (set stay k (stays front turn place)) ≡ changed gone after [] (take (i + 1) l)
          by true g e = absurd (cc)
          by false g e =
              let t : turn ≡ after place.turn = cc in
              take_more_set stay k (stays front turn place) h
              ∙ ap₂ (λ (l : List Place) (n : ℕ). l ++ stays front n place ∷ []) made t
              ∙ sym (changed_by false g)
