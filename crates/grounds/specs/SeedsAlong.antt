-- R-5: of the seeds that an account has one after the other it remembers the last eight, and any nine are different.
use Rattle.std.specs.Prelude.{ℕ, zero, suc, ◌+◌, ◌-◌, ◌≤◌, ◌<◌, ◌≡◌, refl, Bool, true, false, cond, ◌||◌, length, get_or, take, drop, Ok}
use Rattle.std.proofs.Common.{arith, not-suc-le-zero, le_of_suc-le-suc, sym, ap, ap₂, ◌∙◌, subst, true≢false, length-take, length-drop, drop-cons}
use Rattle.std.proofs.Common.{get_or-drop, take_all, take-take}
use Rattle.std.proofs.Math.Decide.{dec_le}
use Rattle.std.proofs.Math.Bool.{or-true}
use mathlib.Core.List.{List, [], ◌∷◌, ◌++◌, reverse, reverse_aux-eq, reverse-cons}
use Rattle.std.proofs.Math.Seq.{drop-nil}
use Rattle.text.specs.Tests.{every, same, both, cases, same_equal, same_self}
use Rattle.accounts.specs.Rooms.{Room, remembered}
use Rattle.accounts.specs.Accounts.{is_one_of}
use Rattle.table.specs.Table.{State, is_there, account_of}
use Rattle.table.specs.Steps.{enrol}
use Rattle.reached.specs.Calls.{Call, after, run}
use Rattle.reached.specs.Made.{Different}
use Rattle.reached.specs.SeedsHad.{keeps_account, following, seeds_along}
use Rattle.reached.specs.SeedLaws.{SeedStep, none_take, not_present, still_present, different_take}
use Rattle.grounds.specs.Isolated.{enrolled_account, enrolled_there}
use Rattle.grounds.specs.Owned.{call_steps_seeds}

-- ---- seeds that come one after the other

-- They come to an account that remembers `old`: each is none of those that are remembered when it comes, and is remembered then with the
-- first seven of them.
abbrev Come : List (List ℕ) → List (List ℕ) → Type 0
Come old [] = Unit {0}
Come old (seed ∷ seeds) = (is_one_of seed old ≡ false) × Come (seed ∷ take 7 old) seeds

-- A seed that is one of the first k isn't the one that comes, and so not among the next 9 - k.
another : (seed new : List ℕ) (k : ℕ) (old : List (List ℕ)) → is_one_of seed (take k old) ≡ true → is_one_of new old ≡ false → same seed new ≡ false
another seed new k old e n =
    cases (same seed new)
    (λ t. absurd (true≢false (sym e ∙ none_take seed k old (ap (λ (x : List ℕ). is_one_of x old) (same_equal seed new t) ∙ n))))
    (λ f. f)

not_again : (seed : List ℕ) (k n : ℕ) (old seeds : List (List ℕ)) → k + n ≤ 8 → is_one_of seed (take k old) ≡ true → Come old seeds
    → is_one_of seed (take (suc n) seeds) ≡ false
unfolding is_one_of
not_again seed k n old [] h e c = refl
not_again seed k zero old (new ∷ seeds) h e c = ap (λ (b : Bool). b || false) (another seed new k old e c.0)
not_again seed k (suc n) old (new ∷ seeds) h e c =
    let still : is_one_of seed (take k (take 7 old)) ≡ true = ap (is_one_of seed) (take-take k 7 old (omega arith)) ∙ e in
    ap₂ (λ (a b : Bool). a || b) (another seed new k old e c.0)
    (not_again seed (suc k) n (new ∷ take 7 old) seeds (omega arith) (ap (λ (b : Bool). same seed new || b) still ∙ or-true (same seed new)) c.1)

-- So the present seed and the next eight are different, and any nine later on.
nine_differ : (seed : List ℕ) (older seeds : List (List ℕ)) → Come (seed ∷ older) seeds → Different (take 9 (seed ∷ seeds))
unfolding is_one_of
nine_differ seed older [] c = (refl, tt)
nine_differ seed older (new ∷ seeds) c = (
  not_again seed 1 7 (seed ∷ older) (new ∷ seeds) (omega arith) (ap (λ (b : Bool). b || false) (same_self seed)) c,
  subst Different (take-take 8 9 (new ∷ seeds) (omega arith))
      (different_take 8 (take 9 (new ∷ seeds)) (nine_differ new (take 7 (seed ∷ older)) seeds c.1)),
)

any_nine_differ : (j : ℕ) (seed : List ℕ) (older seeds : List (List ℕ)) → Come (seed ∷ older) seeds → Different (take 9 (drop j (seed ∷ seeds)))
any_nine_differ zero seed older seeds c = nine_differ seed older seeds c
any_nine_differ (suc j) seed older [] c = rw (drop-nil j) tt
any_nine_differ (suc j) seed older (new ∷ seeds) c = any_nine_differ j new (take 7 (seed ∷ older)) seeds c.1

-- ---- along the calls

-- What a call adds, by what it did to the remembered seeds.
step_comes : (old new : Room) (later : List (List ℕ)) → SeedStep old new → Come (remembered new) later
    → Come (remembered old) (cond (same new.seed old.seed) later (new.seed ∷ later))
step_comes old new later (SeedStep.stayed e) c =
    rw (still_present old new e).1 (subst (λ (l : List (List ℕ)). Come l later) e c)
step_comes old new later (SeedStep.renewed n e) c =
    rw (not_present new.seed old n) (n, subst (λ (l : List (List ℕ)). Come (new.seed ∷ l) later) e c)

-- The seeds that an account gets along calls that don't remove it; on any table.
calls_come : (i : ℕ) (calls : List Call) (s : State) → is_there i s ≡ true → every (keeps_account i) calls ≡ true
    → Come (remembered (account_of i s)) (following i calls s)
unfolding every following
calls_come i [] s h q = tt
calls_come i (c ∷ calls) s h q =
    let halves = both (keeps_account i c) (every (keeps_account i) calls) q in
    let did = call_steps_seeds s i h c halves.0 in
    step_comes (account_of i s) (account_of i (after c s)) (following i calls (after c s)) did.1
    (calls_come i calls (after c s) did.0 halves.1)

pub seeds_differ : (i : ℕ) (calls : List Call) (s : State) → is_there i s ≡ true → every (keeps_account i) calls ≡ true
    → (j : ℕ) → Different (take 9 (drop j (seeds_along i calls s)))
seeds_differ i calls s h q j = any_nine_differ j (account_of i s).seed (account_of i s).older (following i calls s) (calls_come i calls s h q)

-- ---- the last eight

-- The first n of two lists, one behind the other: of the second no more than n are needed.
take_before : (n m : ℕ) (l r : List (List ℕ)) → n ≤ m → take n (l ++ take m r) ≡ take n (l ++ r)
take_before n m [] r h = take-take n m r h
take_before zero m (x ∷ l) r h = refl
take_before (suc n) m (x ∷ l) r h = ap (λ (t : List (List ℕ)). x ∷ t) (take_before n m l r (omega arith))

-- A call and later ones: the last eight seeds are the same, seen from before the call and from after it.
step_last : (old new : Room) (later : List (List ℕ)) → SeedStep old new
    → take 8 (reverse later ++ remembered new)
    ≡ take 8 (reverse (cond (same new.seed old.seed) later (new.seed ∷ later)) ++ remembered old)
step_last old new later (SeedStep.stayed e) =
    rw (still_present old new e).1 (ap (λ (l : List (List ℕ)). take 8 (reverse later ++ l)) e)
step_last old new later (SeedStep.renewed n e) =
    rw (not_present new.seed old n)
    (ap (λ (l : List (List ℕ)). take 8 (reverse later ++ new.seed ∷ l)) e
    ∙ take_before 8 8 (reverse later) (new.seed ∷ remembered old) (omega arith)
    ∙ ap (take 8) (sym (reverse_aux-eq later (new.seed ∷ remembered old)) ∙ reverse_aux-eq (new.seed ∷ later) (remembered old)))

-- They are eight at most still.
step_few : (old new : Room) → SeedStep old new → length (remembered old) ≤ 8 → length (remembered new) ≤ 8
step_few old new (SeedStep.stayed e) few = subst (λ (l : List (List ℕ)). length l ≤ 8) (sym e) few
step_few old new (SeedStep.renewed n e) few =
    subst (λ (l : List (List ℕ)). length (new.seed ∷ l) ≤ 8) (sym e) (omega (arith, length-take 7 (remembered old)))

-- An account that remembers eight at most, over calls that don't remove it; on any table.
pub last_eight : (i : ℕ) (calls : List Call) (s : State) → is_there i s ≡ true → every (keeps_account i) calls ≡ true
    → length (remembered (account_of i s)) ≤ 8
    → remembered (account_of i (run calls s)) ≡ take 8 (reverse (following i calls s) ++ remembered (account_of i s))
unfolding every following run
last_eight i [] s h q few = sym (take_all 8 (remembered (account_of i s)) few)
last_eight i (c ∷ calls) s h q few =
    let halves = both (keeps_account i c) (every (keeps_account i) calls) q in
    let did = call_steps_seeds s i h c halves.0 in
    last_eight i calls (after c s) did.0 halves.1 (step_few (account_of i s) (account_of i (after c s)) did.1 few)
    ∙ step_last (account_of i s) (account_of i (after c s)) (following i calls (after c s)) did.1

-- From its enrolment on, with one seed remembered then, they are the last eight of all that it has had.
pub eight_since_enrolled : (i number count : ℕ) (seed password : List ℕ) (s : State) → (enrol i number count seed password s).answer ≡ Ok tt
    → (calls : List Call) → every (keeps_account i) calls ≡ true
    → remembered (account_of i (run calls (enrol i number count seed password s).state))
    ≡ take 8 (reverse (seeds_along i calls (enrol i number count seed password s).state))
eight_since_enrolled i number count seed password s e calls q =
    last_eight i calls begun (enrolled_there i number count seed password s e) q
    (subst (λ (older : List (List ℕ)). length ((account_of i begun).seed ∷ older) ≤ 8) (sym none) (omega arith))
    ∙ ap (take 8) (ap (λ (older : List (List ℕ)). reverse (following i calls begun) ++ (account_of i begun).seed ∷ older) none
    ∙ sym (reverse-cons (account_of i begun).seed (following i calls begun)))
  where
    begun : State
    begun = (enrol i number count seed password s).state

    none : (account_of i begun).older ≡ []
    none = ap (λ (room : Room). room.older) (enrolled_account i number count seed password s e)

-- ---- where a seed comes back

-- The seed at a place before n is one of the first n.
among : (n d : ℕ) (l : List (List ℕ)) → d < n → d < length l → is_one_of (get_or l d []) (take n l) ≡ true
unfolding is_one_of
among n d [] h k = absurd (not-suc-le-zero k)
among zero d (x ∷ l) h k = absurd (not-suc-le-zero h)
among (suc n) zero (x ∷ l) h k = ap (λ (b : Bool). b || is_one_of x (take n l)) (same_self x)
among (suc n) (suc d) (x ∷ l) h k =
    ap (λ (b : Bool). same (get_or l d []) x || b) (among n d l (le_of_suc-le-suc h) (le_of_suc-le-suc k)) ∙ or-true (same (get_or l d []) x)

-- In a list of which any nine one after the other are different two equal ones are nine places apart, or more.
pub nine_apart : (l : List (List ℕ)) → ((j : ℕ) → Different (take 9 (drop j l))) → (j k : ℕ) → j < k → k < length l
    → get_or l j [] ≡ get_or l k [] → j + 9 ≤ k
nine_apart l f j k h n e = by (dec_le (j + 9) k)
  where
    first : is_one_of (get_or l j []) (take 8 (drop (suc j) l)) ≡ false
    first = (subst (λ (m : List (List ℕ)). Different (take 9 m)) (drop-cons l j [] (omega arith)) (f j)).0

    again : (d : ℕ) → suc j + d ≡ k → d < 8 → is_one_of (get_or l j []) (take 8 (drop (suc j) l)) ≡ true
    again d at near =
        let is : get_or (drop (suc j) l) d [] ≡ get_or l j [] = get_or-drop (suc j) l d [] ∙ ap (λ (m : ℕ). get_or l m []) at ∙ sym e in
        ap (λ (seed : List ℕ). is_one_of seed (take 8 (drop (suc j) l))) (sym is)
        ∙ among 8 d (drop (suc j) l) near (omega (arith, length-drop (suc j) l))

    by : Dec (j + 9 ≤ k) → j + 9 ≤ k
    by (yes g) = g
    by (no g) = absurd (true≢false (sym (again (k - suc j) (omega arith) (omega arith)) ∙ first))
