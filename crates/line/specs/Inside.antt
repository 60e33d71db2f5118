-- Helper definitions of private functions: nothing outside this crate rests on them.
use Rattle.std.specs.Prelude.{◌≡◌, ℕ, ◌-◌, ◌%◌, Bool, false, cond, not, ◌||◌, ◌&&◌, List, [], ◌∷◌, ◌++◌, eqb, ltb, get_or, Option, Some, None}
use Rattle.line.specs.declared.Place.{Place}

-- The room of the account that the place is for.
abbrev pub room_in : Place → ℕ
room_in place = place.room % 32

abbrev pub nobody : Place
nobody = record { port = 0; room = 0; turn = 0 }

abbrev pub place_at : List Place → ℕ → Place
place_at places at = get_or places at nobody

-- One of the places is for that room's account.
unfoldable pub taken : ℕ → List Place → Bool
taken room [] = false
taken room (place ∷ places) = eqb (room_in place) room || taken room places

-- The place of a port that stays, with that much of its turn left if it is in front.
abbrev pub stays : Bool → ℕ → Place → Place
stays front turn place = record { port = place.port; room = place.room; turn = cond front turn 60 }

-- A change by which a place is given up, in front of its line or behind it, or else has that much of its turn left in front.
module _ (gone : Bool → Place → Bool) (after : ℕ → ℕ) where
  -- What is left of a turn, if the place isn't given up.
  abbrev pub kept : Bool → Place → Option ℕ
  kept front place = cond (gone front place) None (Some (after place.turn))

  -- A closure says that of a place.
  abbrev pub Keeps : (Place → Bool → Option ℕ → Type 0) → Type 0
  Keeps post = (place : Place) (front : Bool) (r : Option ℕ) → post place front r → r ≡ kept front place

  -- What becomes of a place behind those.
  abbrev pub step : List Place → Place → List Place
  step before place =
      let front = not (taken (room_in place) before) in
      cond (gone front place) [] (stays front (after place.turn) place ∷ [])

  -- The places after the change, behind those that stood before them.
  unfoldable pub changed : List Place → List Place → List Place
  changed before [] = []
  changed before (place ∷ places) = step before place ++ changed (before ++ place ∷ []) places

-- Leave: the port's places are given up, and the turn in front stays.
abbrev pub is_of : ℕ → Bool → Place → Bool
is_of port front place = eqb place.port port

abbrev pub same : ℕ → ℕ
same turn = turn

-- An account's line is emptied.
abbrev pub is_for_room : ℕ → Bool → Place → Bool
is_for_room room front place = eqb (room_in place) room

-- A tick passes.
abbrev pub runs_out : Bool → Place → Bool
runs_out front place = front && ltb place.turn 2

abbrev pub less : ℕ → ℕ
less turn = turn - 1
