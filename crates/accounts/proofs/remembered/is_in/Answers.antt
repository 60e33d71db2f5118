-- `is_in` meets its promise: one of the seeds in the places is the same.
use Rattle.std.proofs.Common.{◌≡◌, ℕ, zero, suc, ◌+◌, ◌*◌, ◌≤◌, Bool, ◌||◌, List, length, map, drop, refl, sym, ap, ◌∙◌, arith, rules}
use borrow.Author.Tests.{tests}
use Rattle.std.specs.List.{list_any, range_with_len}
use Rattle.std.proofs.lemmas.Iterator.{YieldsList-from_range}
use Rattle.std.proofs.lemmas.Iterator.Search.{any_from_yields_List}
use Rattle.text.specs.Tests.{same}
use Rattle.text.specs.Kinds.{lower_of}
use Rattle.accounts.specs.Rooms.{in_places}
use Rattle.accounts.specs.Accounts.{is_one_of}
use Rattle.accounts.specs.OlderBytes.{place_at}
use Rattle.accounts.specs.Laws.{places_at}
use Rattle.accounts.proofs.remembered.is_in.Goals as goal

module _ (seed places : List ℕ) where
  abbrev is_there : ℕ → Bool
  is_there i = same seed (place_at (i * 17) places)

  -- From place i on.
  one_there : (n i : ℕ) → (i + n) * 17 ≤ length places
      → list_any is_there (range_with_len i n) ≡ is_one_of seed (in_places n (drop (i * 17) places))
  unfolding is_one_of in_places
  one_there zero i h = refl
  one_there (suc n) i h =
      let next : i * 17 + 17 ≡ (i + 1) * 17 = omega arith in
      ap (λ (b : Bool). is_there i || b) (one_there n (i + 1) (omega arith))
      ∙ sym (ap (is_one_of seed) (places_at n (i * 17) places (omega arith))
      ∙ ap (λ (k : ℕ). is_there i || is_one_of seed (in_places n (drop k places))) next)

pub returns : goal.returns
returns c =
    let a = c.args in
    let seed = map lower_of a.seed.now in
    any_from_yields_List (is_there seed a.places.now) c.any.new.self _ c.any.result c.any.ensures.ran (YieldsList-from_range 0 a.n a.n refl (omega arith))
    (λ x b q k. search (rules, tests))
    ∙ one_there seed a.places.now a.n 0 (omega arith)
