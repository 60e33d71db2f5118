-- What becomes of remembered seeds, and laws: what holds of all of them holds of the first of them.
use Rattle.std.specs.Prelude.{ℕ, zero, suc, ◌≡◌, refl, Bool, true, false, ◌||◌, List, [], ◌∷◌, get_or, take}
use Rattle.std.proofs.Common.{ap, ap₂, ◌∙◌, true≢false}
use Rattle.text.specs.Tests.{same, same_self}
use Rattle.refusal.specs.Each.{Each}
use Rattle.accounts.specs.Rooms.{Room, remembered}
use Rattle.accounts.specs.Accounts.{is_one_of}
use Rattle.reached.specs.Made.{Different}

-- What becomes of an account's remembered seeds: all stay; or "renewal shall refuse any of them", and so the new seed is none of them, and
-- the account remembers it and the first seven of them.
pub data SeedStep (old new : Room) : Type 0 where
  stayed : remembered new ≡ remembered old → SeedStep old new
  renewed : is_one_of new.seed (remembered old) ≡ false → new.older ≡ take 7 (remembered old) → SeedStep old new

-- Both halves of a test by `||` that fails.
neither : (a b : Bool) → (a || b) ≡ false → (a ≡ false) × (b ≡ false)
neither true b e = absurd (true≢false e)
neither false b e = (refl, e)

-- A seed that is none of them is none of the first n.
pub none_take : (seed : List ℕ) (n : ℕ) (seeds : List (List ℕ)) → is_one_of seed seeds ≡ false → is_one_of seed (take n seeds) ≡ false
unfolding is_one_of
none_take seed zero seeds e = refl
none_take seed (suc n) [] e = refl
none_take seed (suc n) (other ∷ seeds) e =
    let parts = neither (same seed other) (is_one_of seed seeds) e in
    ap₂ (λ (a b : Bool). a || b) parts.0 (none_take seed n seeds parts.1)

-- One that an account doesn't remember isn't its present seed.
pub not_present : (seed : List ℕ) (room : Room) → is_one_of seed (remembered room) ≡ false → same seed room.seed ≡ false
unfolding is_one_of
not_present seed room e = (neither (same seed room.seed) (is_one_of seed room.older) e).0

-- An account that remembers what it did has the seed that it had.
pub still_present : (old new : Room) → remembered new ≡ remembered old → (new.seed ≡ old.seed) × (same new.seed old.seed ≡ true)
still_present old new e =
    let present : new.seed ≡ old.seed = ap (λ (seeds : List (List ℕ)). get_or seeds 0 []) e in
    (present, ap (λ (seed : List ℕ). same seed old.seed) present ∙ same_self old.seed)

-- The first n of different seeds are different, and of good ones good.
pub different_take : (n : ℕ) (seeds : List (List ℕ)) → Different seeds → Different (take n seeds)
different_take zero seeds d = tt
different_take (suc n) [] d = tt
different_take (suc n) (seed ∷ seeds) d = (none_take seed n seeds d.0, different_take n seeds d.1)

pub each_take : {A : Type 0} (P : A → Type 0) (n : ℕ) (l : List A) → Each P l → Each P (take n l)
each_take P zero l h = tt
each_take P (suc n) [] h = tt
each_take P (suc n) (x ∷ l) h = (h.0, each_take P n l h.1)
