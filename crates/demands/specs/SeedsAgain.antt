-- R-5, remembered seeds. `remembered` has the seeds that an account remembers, newest first, the present one in front; `is_one_of` says that a
-- seed is one of those. `Offers p (Offered.Renewal ..) c` says that with the call c the port p offers new values and passwords; `Renews` that a call
-- renews the account: it is one of these, by the port that has the turn for it, and accepted.
-- `following` has the seeds that an account gets while calls are made, in order; `seeds_along` has first the one that it has before them.
use Rattle.std.specs.Prelude.{ℕ, ◌+◌, ◌≤◌, ◌<◌, ◌≡◌, ◌↔◌, true, false, List, [], ◌∷◌, ◌++◌, map, reverse, length, get_or, take, drop, Ok}
use Rattle.std.proofs.Common.{ap}
use Rattle.refusal.specs.declared.Refusal.{Refusal}
use Rattle.refusal.specs.Answers.{Checked}
use Rattle.refusal.specs.Checks.{in_order}
use Rattle.refusal.specs.Each.{Each}
use Rattle.text.specs.Kinds.{lower_of}
use Rattle.text.specs.Tests.{every}
use Rattle.text.specs.Quoted.{codes}
use Rattle.password.specs.Algorithm.{numbered, algorithm_checked}
use Rattle.password.specs.PhraseAndSeed.{seed_checked}
use Rattle.accounts.specs.Rooms.{remembered, free}
use Rattle.accounts.specs.Accounts.{count_within, is_one_of}
use Rattle.table.specs.Table.{State, Held, place_of, is_there, room_at, account_of, own_account}
use Rattle.table.specs.Steps.{turn_checked, enrol, remove}
use Rattle.reached.specs.Calls.{Call, Answer, answer, answers, after, run}
use Rattle.reached.specs.Offered.{Offered, Offers}
use Rattle.reached.specs.InTurn.{Reached, HasTurn}
use Rattle.reached.specs.Day.{waited_for}
use Rattle.reached.specs.Made.{SeedGood, Different}
use Rattle.reached.specs.SeedsHad.{keeps_account, Renews, following, seeds_along}
use Rattle.grounds.specs.Keeps.{made, account_good}
use Rattle.grounds.specs.Replies.{call_taken, taken_renews}
use Rattle.grounds.specs.Isolated.{removed_free, enrolled_account}
use Rattle.grounds.specs.Remembering as Remembering
use Rattle.grounds.specs.SeedsAlong.{last_eight, eight_since_enrolled, seeds_differ, nine_apart}
use Rattle.grounds.specs.TenSeeds.{begun, renewing, renewal, nine_renewals, way_back}

-- ---- "renewal shall refuse any of them, case folded"

-- What is checked before 63: 55, 59, 60, 58, 51, 21, 23, 24.
abbrev pub before_same : ℕ → ℕ → ℕ → List ℕ → State → Checked
before_same p number count seed s = in_order (turn_checked p s ∷ count_within count ∷ algorithm_checked (numbered number) ∷ seed_checked seed ∷ [])

-- "63 now means equal to a remembered seed; its place in the order stays": on any table it is given exactly if the checks before it find
-- nothing wrong and the new seed, in lower case, is one of those that the account remembers.
pub refused_63_exactly : (p number count : ℕ) (seed : List ℕ) (new present : ℕ) (c : Call) (s : State)
    → Offers p (Offered.Renewal number count seed new present) c
    → (answer c s ≡ Answer.Refused Refusal.SeedSame)
    ↔ ((before_same p number count seed s ≡ Ok tt) × (is_one_of (map lower_of seed) (remembered (own_account p s)) ≡ true))
refused_63_exactly p number count seed new present c s own = Remembering.remembered_exactly p number count seed new present c s own

-- ---- "An account shall remember its last eight seeds, the present one included"

-- An accepted renewal, on any table and whatever the algorithms: the new seed is none of those that the account remembered, and it remembers
-- then the new one, in lower case, and the first seven of those.
pub renewal_remembers : (p n number count : ℕ) (seed : List ℕ) (new present : ℕ) (c : Call) (s : State)
    → Offers p (Offered.Renewal number count seed new present) c → answer c s ≡ Answer.Count n
    → (is_one_of (map lower_of seed) (remembered (own_account p s)) ≡ false)
    × (remembered (waited_for p s (after c s)) ≡ map lower_of seed ∷ take 7 (remembered (own_account p s)))
renewal_remembers p n number count seed new present c s own e =
    let taken = call_taken p n (Offered.Renewal number count seed new present) s c own e in
    let renewed = (taken_renews p n number count seed new present s (after c s) taken).1 in
    (renewed.other, ap remembered renewed.becomes)

-- In tables that calls make it is the account with the id for which the port has the turn.
pub renewal_remembers_by_id : (s : State) → Reached s → (p i n number count : ℕ) (seed : List ℕ) (new present : ℕ) (c : Call) → HasTurn p i s
    → Offers p (Offered.Renewal number count seed new present) c → answer c s ≡ Answer.Count n
    → remembered (account_of i (after c s)) ≡ map lower_of seed ∷ take 7 (remembered (account_of i s))
renewal_remembers_by_id s r p i n number count seed new present c t own e =
    Remembering.renewed_by_id p i n c s (made s r) t e number count seed new present own

-- A refused or wrong renewal remembers nothing. Nor does any other call that is refused: on any table every account remembers what it did.
pub refused_remembers_nothing : (why : Refusal) (c : Call) (s : State) → answer c s ≡ Answer.Refused why → (i : ℕ)
    → remembered (account_of i (after c s)) ≡ remembered (account_of i s)
refused_remembers_nothing why c s e i = ap remembered (Remembering.refused_keeps why c s e i)

-- Nor does a call that neither renews nor removes the account, as when another is renewed: on any table.
pub unrenewed_remembers_nothing : (s : State) (i : ℕ) → is_there i s ≡ true → (c : Call) → keeps_account i c ≡ true → (Renews i s c → ⊥)
    → remembered (account_of i (after c s)) ≡ remembered (account_of i s)
unrenewed_remembers_nothing s i there c k other = Remembering.unrenewed_remembers s i there c k other

-- And over any call that doesn't remove it an account whose seed stays remembers what it did.
pub same_seed_remembers_nothing : (s : State) (i : ℕ) → is_there i s ≡ true → (c : Call) → keeps_account i c ≡ true
    → (account_of i (after c s)).seed ≡ (account_of i s).seed → remembered (account_of i (after c s)) ≡ remembered (account_of i s)
same_seed_remembers_nothing s i there c k e = Remembering.same_seed_keeps s i there c k e

-- So in every table that calls make an account remembers one to eight seeds, the present one first. They are different, each of 1 to 16
-- lower-case letters and digits.
pub eight_good_seeds : (s : State) → Reached s → (i : ℕ) → is_there i s ≡ true
    → (length (remembered (account_of i s)) ≤ 8) × Each SeedGood (remembered (account_of i s)) × Different (remembered (account_of i s))
eight_good_seeds s r i there =
    let good = account_good i s there (made s r).good in
    (good.few, good.seeds, good.different)

-- And they are its last eight. On any table, whatever is called unless it is removed, an account that remembers eight at most remembers then the
-- last eight, newest first, of those that it remembered and those that it got.
pub last_eight_seeds : (s : State) (i : ℕ) → is_there i s ≡ true → length (remembered (account_of i s)) ≤ 8
    → (calls : List Call) → every (keeps_account i) calls ≡ true
    → remembered (account_of i (run calls s)) ≡ take 8 (reverse (following i calls s) ++ remembered (account_of i s))
last_eight_seeds s i there few calls keep = last_eight i calls s there keep few

-- From its enrolment on these are the last eight of all that it has had.
pub last_eight_since_enrolment : (s : State) (i number count : ℕ) (seed password : List ℕ)
    → (enrol i number count seed password s).answer ≡ Ok tt → (calls : List Call) → every (keeps_account i) calls ≡ true
    → remembered (account_of i (run calls (enrol i number count seed password s).state))
    ≡ take 8 (reverse (seeds_along i calls (enrol i number count seed password s).state))
last_eight_since_enrolment s i number count seed password e calls keep = eight_since_enrolled i number count seed password s e calls keep

-- ---- "Remove forgets them"

-- Remove, when it is done, leaves the account's room free, with no seed in it: on any table.
pub remove_forgets : (s : State) (i : ℕ) → (remove i s).answer ≡ Ok tt → (room_at (place_of i s.rooms) (remove i s).state).account ≡ free
remove_forgets s i e = ap (λ (held : Held). held.account) (removed_free i s e)

-- Enrol begins with one: on any table, whatever stood in that room, or had that id, before.
pub enrol_begins_with_one : (s : State) (i number count : ℕ) (seed password : List ℕ) → (enrol i number count seed password s).answer ≡ Ok tt
    → remembered (account_of i (enrol i number count seed password s).state) ≡ map lower_of seed ∷ []
enrol_begins_with_one s i number count seed password e = ap remembered (enrolled_account i number count seed password s e)

-- ---- "A card from the first sequence then works a second time": the reason of the request

-- Each renewal of the account adds its seed to those that it has one after the other,
pub renewal_adds_one : (s : State) → Reached s → (i : ℕ) (c : Call) → Renews i s c
    → (calls : List Call) → seeds_along i (c ∷ calls) s ≡ (account_of i s).seed ∷ seeds_along i calls (after c s)
renewal_adds_one s r i c renewing calls = Remembering.renewed_adds i c s (made s r) renewing calls

-- and no other call adds one: on any table, unless it removes the account.
pub only_renewal_adds : (s : State) (i : ℕ) → is_there i s ≡ true → (c : Call) → keeps_account i c ≡ true → (Renews i s c → ⊥)
    → (calls : List Call) → seeds_along i (c ∷ calls) s ≡ seeds_along i calls (after c s)
only_renewal_adds s i there c k other calls = Remembering.unrenewed_adds s i there c k other calls

-- Any nine seeds that it has one after the other are different: on any table, whatever is called, unless it is removed.
pub nine_seeds_differ : (s : State) (i : ℕ) → is_there i s ≡ true → (calls : List Call) → every (keeps_account i) calls ≡ true
    → (j : ℕ) → Different (take 9 (drop j (seeds_along i calls s)))
nine_seeds_differ s i there calls keep j = seeds_differ i calls s there keep j

-- So a seed comes back with the ninth renewal after it at the earliest.
pub comes_back_ninth : (s : State) (i : ℕ) → is_there i s ≡ true → (calls : List Call) → every (keeps_account i) calls ≡ true
    → (j k : ℕ) → j < k → k < length (seeds_along i calls s)
    → get_or (seeds_along i calls s) j [] ≡ get_or (seeds_along i calls s) k [] → j + 9 ≤ k
comes_back_ninth s i there calls keep = nine_apart (seeds_along i calls s) (seeds_differ i calls s there keep)

-- With the ninth it may: `begun` is an account with the seed `lift1`, and the calls renew it nine times, the last time with its first seed.
pub ninth_renewal_may : seeds_along 1 nine_renewals begun
    ≡ map codes ("lift1" ∷ "lift2" ∷ "lift3" ∷ "lift4" ∷ "lift5" ∷ "lift6" ∷ "lift7" ∷ "lift8" ∷ "lift9" ∷ "lift1" ∷ [])
ninth_renewal_may = way_back.1

-- "Technicians renew from `lift1` to `lift2` and back": the way back is refused, in capitals too.
pub back_is_refused : answers (renewal "lift2" ++ renewal "lift1" ++ renewing "LIFT1" ∷ []) begun
    ≡ Answer.Done ∷ Answer.Count 2 ∷ Answer.Done ∷ Answer.Refused Refusal.SeedSame ∷ Answer.Refused Refusal.SeedSame ∷ []
back_is_refused = way_back.0
