-- Laws of rooms: who is found in them, how often, and after one was set.
use Prim.Native.Nat.{ℕ, zero, suc, ◌+◌, ◌≤◌, ◌<◌}
use Rattle.std.specs.Prelude.{◌≡◌, Bool, eqb, ltb, length, get_or, set}
use Rattle.std.proofs.Math.Path.{refl, sym, ap}
use Rattle.std.proofs.Common.{◌∙◌, subst, eq-eqb, ne_eqb, eqb-true, lt-ltb, le-ltb, ltb-true}
use Rattle.std.proofs.Math.Bool.{true, false, cond}
use mathlib.Core.List.{List, [], ◌∷◌}
use Rattle.std.proofs.Math.Option.{Option, none, some, some-injective}
use native.Mathlib.Omega.{arith}
use Rattle.std.proofs.Math.Decide.{ℕ_discrete}
use Rattle.std.proofs.lemmas.Bool.{eqb-false}
use Rattle.std.proofs.Math.Dec.{leb-suc-suc}
use Rattle.table.specs.Table.{Held, free_room, place_of, holds}
use Rattle.refusal.specs.Each.{Each}
use Rattle.reached.specs.Made.{Apart}
use Rattle.reached.specs.Equal.{account_by, SameAccounts, times, accounts_in}

-- 1 where the two are the same number.
abbrev pub is : ℕ → ℕ → ℕ
is a b = cond (eqb a b) 1 0

pub first_below : (n : ℕ) → ltb 0 (suc n) ≡ true
first_below n = lt-ltb 0 (suc n) (omega arith)

-- A room with that id is there exactly if its number of times isn't 0.
pub holds-times : (id : ℕ) (l : List Held) → holds id l ≡ ltb 0 (times id l)
unfolding place_of times
holds-times id [] = refl
holds-times id (room ∷ l) = by (eqb room.account.id id) (holds-times id l)
  where
    by : (b : Bool) → ltb (place_of id l) (length l) ≡ ltb 0 (times id l)
        → ltb (cond b 0 (suc (place_of id l))) (suc (length l)) ≡ ltb 0 (cond b (suc (times id l)) (times id l))
    by true e = first_below (length l) ∙ sym (first_below (times id l))
    by false e = leb-suc-suc (suc (place_of id l)) (length l) ∙ e

-- The room that is found has the id.
pub placed_id : (id : ℕ) (l : List Held) → place_of id l < length l → (get_or l (place_of id l) free_room).account.id ≡ id
unfolding place_of
placed_id id [] = λ h. absurd (omega arith)
placed_id id (room ∷ l) = by (eqb room.account.id id) refl (placed_id id l)
  where
    by : (b : Bool) → eqb room.account.id id ≡ b → (place_of id l < length l → (get_or l (place_of id l) free_room).account.id ≡ id)
        → cond b 0 (suc (place_of id l)) < suc (length l) → (get_or (room ∷ l) (cond b 0 (suc (place_of id l))) free_room).account.id ≡ id
    by true e f h = eqb-true room.account.id id e
    by false e f h = f (omega arith)

-- What is found by the id is what stands in that room.
pub account_by_lem : (id : ℕ) (l : List Held) → account_by id l ≡ cond (holds id l) (some (get_or l (place_of id l) free_room)) none
unfolding account_by place_of
account_by_lem id [] = refl
account_by_lem id (room ∷ l) = by (eqb room.account.id id) (account_by_lem id l)
  where
    by : (b : Bool) → account_by id l ≡ cond (ltb (place_of id l) (length l)) (some (get_or l (place_of id l) free_room)) none
        → cond b (some room) (account_by id l)
        ≡ cond (ltb (cond b 0 (suc (place_of id l))) (suc (length l))) (some (get_or (room ∷ l) (cond b 0 (suc (place_of id l))) free_room)) none
    by true e = sym (ap (λ (c : Bool). cond c (some room) none) (first_below (length l)))
    by false e =
        e ∙ ap (λ (c : Bool). cond c (some (get_or l (place_of id l) free_room)) none) (sym (leb-suc-suc (suc (place_of id l)) (length l)))

-- Nobody is found by an id that no room has.
pub found_none : (id : ℕ) (l : List Held) → times id l ≡ 0 → account_by id l ≡ none
found_none id l e =
    account_by_lem id l
    ∙ ap (λ (b : Bool). cond b (some (get_or l (place_of id l) free_room)) none) (holds-times id l ∙ le-ltb 0 (times id l) (omega arith))

-- ---- after a room was set

module _ (room : Held) where
  -- Another account is found as before.
  pub set_other : (j : ℕ) (l : List Held) (k : ℕ) → ((get_or l k free_room).account.id ≡ j → ⊥) → (room.account.id ≡ j → ⊥)
      → account_by j (set l k room) ≡ account_by j l
  unfolding account_by
  set_other j [] k h g = refl
  set_other j (x ∷ l) zero h g =
      ap (λ (b : Bool). cond b (some room) (account_by j l)) (ne_eqb room.account.id j g)
      ∙ sym (ap (λ (b : Bool). cond b (some x) (account_by j l)) (ne_eqb x.account.id j h))
  set_other j (x ∷ l) (suc k) h g = ap (λ (o : Option Held). cond (eqb x.account.id j) (some x) o) (set_other j l k h g)

  -- The account that was put there is found, if none before it has its id.
  pub set_here : (l : List Held) (k : ℕ) → k < length l → k ≤ place_of room.account.id l → account_by room.account.id (set l k room) ≡ some room
  unfolding account_by place_of
  set_here [] k h = λ g. absurd (omega arith)
  set_here (x ∷ l) zero h = λ g. ap (λ (b : Bool). cond b (some room) (account_by room.account.id l)) (eq-eqb room.account.id room.account.id refl)
  set_here (x ∷ l) (suc k) h = by (eqb x.account.id room.account.id) (set_here l k (omega arith))
    where
      by : (b : Bool) → (k ≤ place_of room.account.id l → account_by room.account.id (set l k room) ≡ some room)
          → suc k ≤ cond b 0 (suc (place_of room.account.id l)) → cond b (some x) (account_by room.account.id (set l k room)) ≡ some room
      by true f g = absurd (omega arith)
      by false f g = f (omega arith)

  -- How often an id is there then.
  pub times-set : (j : ℕ) (l : List Held) (k : ℕ) → k < length l
      → times j (set l k room) + is (get_or l k free_room).account.id j ≡ times j l + is room.account.id j
  unfolding times
  times-set j [] k h = absurd (omega arith)
  times-set j (x ∷ l) zero h = by (eqb room.account.id j) (eqb x.account.id j)
    where
      by : (a b : Bool) → cond a (suc (times j l)) (times j l) + cond b 1 0 ≡ cond b (suc (times j l)) (times j l) + cond a 1 0
      by true true = refl
      by true false = omega arith
      by false true = omega arith
      by false false = refl
  times-set j (x ∷ l) (suc k) h = by (eqb x.account.id j) (times-set j l k (omega arith))
    where
      by : (b : Bool) → times j (set l k room) + is (get_or l k free_room).account.id j ≡ times j l + is room.account.id j
          → cond b (suc (times j (set l k room))) (times j (set l k room)) + is (get_or l k free_room).account.id j
          ≡ cond b (suc (times j l)) (times j l) + is room.account.id j
      by true e = omega arith
      by false e = e

  pub accounts_set : (l : List Held) (k : ℕ) → k < length l → accounts_in (set l k room) + cond (eqb (get_or l k free_room).account.id 0) 0 1
      ≡ accounts_in l + cond (eqb room.account.id 0) 0 1
  unfolding accounts_in
  accounts_set [] k h = absurd (omega arith)
  accounts_set (x ∷ l) zero h = by (eqb room.account.id 0) (eqb x.account.id 0)
    where
      by : (a b : Bool) → cond a (accounts_in l) (suc (accounts_in l)) + cond b 0 1 ≡ cond b (accounts_in l) (suc (accounts_in l)) + cond a 0 1
      by true true = refl
      by true false = omega arith
      by false true = omega arith
      by false false = refl
  accounts_set (x ∷ l) (suc k) h = by (eqb x.account.id 0) (accounts_set l k (omega arith))
    where
      by : (b : Bool) → accounts_in (set l k room) + cond (eqb (get_or l k free_room).account.id 0) 0 1 ≡ accounts_in l + cond (eqb room.account.id 0) 0 1
          → cond b (accounts_in (set l k room)) (suc (accounts_in (set l k room))) + cond (eqb (get_or l k free_room).account.id 0) 0 1
          ≡ cond b (accounts_in l) (suc (accounts_in l)) + cond (eqb room.account.id 0) 0 1
      by true e = e
      by false e = omega arith

-- ---- how many accounts are there

-- A room is free or has an account.
pub accounts_free : (l : List Held) → accounts_in l + times 0 l ≡ length l
unfolding accounts_in times
accounts_free [] = refl
accounts_free (x ∷ l) = by (eqb x.account.id 0) (accounts_free l)
  where
    by : (b : Bool) → accounts_in l + times 0 l ≡ length l → cond b (accounts_in l) (suc (accounts_in l)) + cond b (suc (times 0 l)) (times 0 l)
        ≡ suc (length l)
    by true e = omega arith
    by false e = omega arith

-- No two rooms have one id, unless they are free.
abbrev pub OneEach : List Held → Type 0
OneEach l = (id : ℕ) → (id ≡ 0 → ⊥) → times id l ≤ 1

-- The first room is free, or it is an account's: what is there behind it.
module _ (x : Held) (l : List Held) where
  head_free : x.account.id ≡ 0 → accounts_in (x ∷ l) ≡ accounts_in l
  unfolding accounts_in
  head_free e = ap (λ (b : Bool). cond b (accounts_in l) (suc (accounts_in l))) (eq-eqb x.account.id 0 e)

  head_taken : (x.account.id ≡ 0 → ⊥) → accounts_in (x ∷ l) ≡ suc (accounts_in l)
  unfolding accounts_in
  head_taken g = ap (λ (b : Bool). cond b (accounts_in l) (suc (accounts_in l))) (ne_eqb x.account.id 0 g)

  by_other : (id : ℕ) → (x.account.id ≡ id → ⊥) → account_by id (x ∷ l) ≡ account_by id l
  unfolding account_by
  by_other id g = ap (λ (b : Bool). cond b (some x) (account_by id l)) (ne_eqb x.account.id id g)

  by_own : account_by x.account.id (x ∷ l) ≡ some x
  unfolding account_by
  by_own = ap (λ (b : Bool). cond b (some x) (account_by x.account.id l)) (eq-eqb x.account.id x.account.id refl)

  times_tail : (id : ℕ) → times id l ≤ times id (x ∷ l)
  unfolding times
  times_tail id = by (eqb x.account.id id)
    where
      by : (b : Bool) → times id l ≤ cond b (suc (times id l)) (times id l)
      by true = omega arith
      by false = omega arith

  times_own : times x.account.id (x ∷ l) ≡ suc (times x.account.id l)
  unfolding times
  times_own = ap (λ (b : Bool). cond b (suc (times x.account.id l)) (times x.account.id l)) (eq-eqb x.account.id x.account.id refl)

-- No room has the id, or each has another.
none_times : (id : ℕ) (l : List Held) → times id l ≡ 0 → Each (λ (room : Held). room.account.id ≡ id → ⊥) l
unfolding times
none_times id [] e = tt
none_times id (x ∷ l) e = by (eqb x.account.id id) refl e (none_times id l)
  where
    by : (b : Bool) → eqb x.account.id id ≡ b → cond b (suc (times id l)) (times id l) ≡ 0
        → (times id l ≡ 0 → Each (λ (room : Held). room.account.id ≡ id → ⊥) l) → Each (λ (room : Held). room.account.id ≡ id → ⊥) (x ∷ l)
    by true f e k = absurd (omega arith)
    by false f e k = (eqb-false x.account.id id f, k e)

others_times : (id : ℕ) (l : List Held) → Each (λ (room : Held). room.account.id ≡ id → ⊥) l → times id l ≡ 0
unfolding times
others_times id [] h = refl
others_times id (x ∷ l) h = rw (ne_eqb x.account.id id h.0) (others_times id l h.1)

-- The two ways to say that no two accounts have one id.
pub once_apart : (l : List Held) → OneEach l → Apart l
once_apart [] o = tt
once_apart (x ∷ l) o = (
  λ g. none_times x.account.id l (omega (arith, o x.account.id g, times_own x l)),
  once_apart l (λ id h. omega (arith, times_tail x l id, o id h)),
)

pub apart_once : (l : List Held) → Apart l → OneEach l
unfolding times
apart_once [] a id g = omega arith
apart_once (x ∷ l) a id g = by (eqb x.account.id id) refl (apart_once l a.1 id g)
  where
    by : (b : Bool) → eqb x.account.id id ≡ b → times id l ≤ 1 → cond b (suc (times id l)) (times id l) ≤ 1
    by true e k =
        let same = eqb-true x.account.id id e in
        let none = others_times x.account.id l (a.0 (λ z. g (sym same ∙ z))) in
        omega (arith, ap (λ (i : ℕ). times i l) same)
    by false e k = k

-- An account that is found stands in a room.
pub found_placed : (id : ℕ) (l : List Held) (x : Held) → account_by id l ≡ some x → place_of id l < length l
found_placed id l x e = by (holds id l) refl (sym (account_by_lem id l) ∙ e)
  where
    by : (b : Bool) → holds id l ≡ b → cond b (some (get_or l (place_of id l) free_room)) none ≡ some x → place_of id l < length l
    by true h f = ltb-true (place_of id l) (length l) h
    by false h f = let z : ◌≡◌ {A = ℕ} 0 1 = cc in absurd (omega arith)

-- It is what stands there.
pub found_is : (id : ℕ) (l : List Held) (x : Held) → account_by id l ≡ some x → get_or l (place_of id l) free_room ≡ x
found_is id l x e =
    some-injective (get_or l (place_of id l) free_room) x
    (sym (account_by_lem id l
    ∙ ap (λ (b : Bool). cond b (some (get_or l (place_of id l) free_room)) none) (lt-ltb (place_of id l) (length l) (found_placed id l x e)))
    ∙ e)

-- With no account to be found there is none.
none_accounts : (l : List Held) → ((id : ℕ) → (id ≡ 0 → ⊥) → account_by id l ≡ none) → accounts_in l ≡ 0
unfolding accounts_in
none_accounts [] h = refl
none_accounts (x ∷ l) h = by (ℕ_discrete x.account.id 0) (none_accounts l)
  where
    by : Dec (x.account.id ≡ 0) → (((id : ℕ) → (id ≡ 0 → ⊥) → account_by id l ≡ none) → accounts_in l ≡ 0) → accounts_in (x ∷ l) ≡ 0
    by (yes e) f = head_free x l e ∙ f (λ id g. sym (by_other x l id (λ d. g (sym d ∙ e))) ∙ h id g)
    by (no g) f =
        let found : some x ≡ none = sym (by_own x l) ∙ h x.account.id g in
        let z : ◌≡◌ {A = ℕ} 0 1 = cc in
        absurd (omega arith)

-- The rooms without the account that stands first in another list.
module _ (x : Held) (l m : List Held) (g : x.account.id ≡ 0 → ⊥) (once : OneEach (x ∷ l)) (once' : OneEach m) (same : SameAccounts (x ∷ l) m) where
  place : place_of x.account.id m < length m
  place = found_placed x.account.id m x (sym (same x.account.id g) ∙ by_own x l)

  abbrev rest : List Held
  rest = set m (place_of x.account.id m) free_room

  own_id : (get_or m (place_of x.account.id m) free_room).account.id ≡ x.account.id
  own_id = placed_id x.account.id m place

  free_not : (j : ℕ) → (j ≡ 0 → ⊥) → is 0 j ≡ 0
  free_not j h = ap (λ (b : Bool). cond b 1 0) (ne_eqb 0 j (λ e. h (sym e)))

  rest_once : OneEach rest
  rest_once j h = omega (arith, times-set free_room j m (place_of x.account.id m) place, free_not j h, once' j h)

  rest_none : times x.account.id rest ≡ 0
  rest_none =
      let was : is (get_or m (place_of x.account.id m) free_room).account.id x.account.id ≡ 1 =
      ap (λ (b : Bool). cond b 1 0) (eq-eqb _ x.account.id own_id) in
      omega (arith, times-set free_room x.account.id m (place_of x.account.id m) place, free_not x.account.id g, once' x.account.id g)

  rest_same : SameAccounts l rest
  rest_same j h = by (ℕ_discrete x.account.id j)
    where
      by : Dec (x.account.id ≡ j) → account_by j l ≡ account_by j rest
      by (yes e) =
          subst (λ (i : ℕ). account_by i l ≡ account_by i rest) e
          (found_none x.account.id l (omega (arith, once x.account.id g, times_own x l)) ∙ sym (found_none x.account.id rest rest_none))
      by (no d) =
          sym (by_other x l j d) ∙ same j h
          ∙ sym (set_other free_room j m (place_of x.account.id m) (λ e. d (sym own_id ∙ e)) (λ e. h (sym e)))

  rest_accounts : accounts_in m ≡ suc (accounts_in rest)
  rest_accounts =
      let was : ◌≡◌ {A = ℕ} (cond (eqb (get_or m (place_of x.account.id m) free_room).account.id 0) 0 1) 1 =
      ap (λ (b : Bool). cond b 0 1) (ne_eqb _ 0 (λ e. g (sym own_id ∙ e))) in
      omega (arith, accounts_set free_room m (place_of x.account.id m) place)

-- Tables with the same accounts have as many.
pub same_count : (l m : List Held) → OneEach l → OneEach m → SameAccounts l m → accounts_in l ≡ accounts_in m
unfolding accounts_in times
same_count [] m o p q = sym (none_accounts m (λ id h. sym (q id h) ∙ found_none id [] refl))
same_count (x ∷ l) m o p q = by (ℕ_discrete x.account.id 0) (same_count l)
  where
    by : Dec (x.account.id ≡ 0) → ((n : List Held) → OneEach l → OneEach n → SameAccounts l n → accounts_in l ≡ accounts_in n)
        → accounts_in (x ∷ l) ≡ accounts_in m
    by (yes e) f =
        head_free x l e
        ∙ f m (λ id h. omega (arith, times_tail x l id, o id h)) p (λ id h. sym (by_other x l id (λ d. h (sym d ∙ e))) ∙ q id h)
    by (no g) f =
        head_taken x l g
        ∙ ap suc (f (rest x l m g o p q) (λ id h. omega (arith, times_tail x l id, o id h)) (rest_once x l m g o p q) (rest_same x l m g o p q))
        ∙ sym (rest_accounts x l m g o p q)
