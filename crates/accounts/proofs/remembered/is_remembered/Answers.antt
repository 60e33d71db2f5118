-- `is_remembered` meets its promise: the present seed is compared, then the older ones of the account's room.
use Prim.Native.Nat.{ℕ, ◌+◌, ◌-◌, ◌*◌, ◌≤◌}
use mathlib.Core.Path.{◌≡◌, sym, ap, ap₂, ◌∙◌}
use mathlib.Core.Bool.{Bool, ◌||◌}
use mathlib.Core.List.{map}
use borrow.Author.Rules.{rules}
use native.Mathlib.Omega.{arith}
use lib.ListN.{length, take, drop}
use Rattle.text.specs.Tests.{same}
use Rattle.text.specs.Kinds.{lower_of}
use Rattle.line.specs.Laws.{all_taken}
use Rattle.accounts.specs.Rooms.{in_places, part_of, seed_in}
use Rattle.accounts.specs.Accounts.{is_one_of}
use Rattle.accounts.specs.Laws.{places_used}
use Rattle.accounts.proofs.remembered.is_remembered.Goals as goal
use Rattle.accounts.proofs.remembered.is_remembered.Goals.{After-same_seed, After-seed_len, Start}

sixteen : (c : Start) → length c.args.account.seed ≡ 16
sixteen c = search rules

within : (c : After-seed_len) → c.seed_len.result ≤ length c.args.account.seed
within c = omega (arith, (let sixteen : length c.args.account.seed ≡ 16 = search rules in sixteen))

compared : (c : After-same_seed) → same (map lower_of c.args.seed.now) (seed_in c.args.account) ≡ c.same_seed.result
compared c =
    let a = c.args in
    let len = c.seed_len in
    ap (same (map lower_of a.seed.now)) (sym (all_taken len.result a.account.len a.account.seed len.ensures.0))
    ∙ sym c.same_seed.ensures

pub returns-then-same_seed : goal.returns-then-same_seed
unfolding is_one_of
returns-then-same_seed c =
    let a = c.args in
    let older = take a.account.older_count (in_places 7 (part_of a.older.now a.room)) in
    c.if-same_seed.true ∙ sym (ap (λ (b : Bool). b || is_one_of (map lower_of a.seed.now) older) (compared
    (goal.at.returns-then-same_seed c).After-same_seed ∙ c.if-same_seed.true))

pub returns-else-same_seed : goal.returns-else-same_seed
unfolding is_one_of
returns-else-same_seed c =
    let a = c.args in
    let seed = map lower_of a.seed.now in
    let older = take a.account.older_count (in_places 7 (part_of a.older.now a.room)) in
    let all : (a.room * 119 + 119) - a.room * 119 ≡ 119 = omega arith in
    c.is_in.ensures
    ∙ ap (is_one_of seed)
    (ap₂ (λ (n k : ℕ). in_places n (take k (drop (a.room * 119) a.older.now))) c.older_len.ensures.0 all
    ∙ sym (places_used a.account.older_count (part_of a.older.now a.room)))
    ∙ sym (ap (λ (b : Bool). b || is_one_of seed older) (compared (goal.at.returns-else-same_seed c).After-same_seed ∙ c.if-same_seed.false))
