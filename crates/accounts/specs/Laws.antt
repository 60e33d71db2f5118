-- Laws of older seeds in their places, and of a room's places among all.
use Rattle.std.specs.Prelude.{ℕ, zero, suc, ◌+◌, ◌-◌, ◌*◌, ◌≤◌, ◌<◌, ◌≡◌, refl, Bool, true, false, cond, List, [], ◌∷◌, ◌++◌, ltb, length, get_or, take, drop}
use Rattle.std.proofs.Common.{sym, ap, ap₂, ◌∙◌, arith, ltb-true, ltb-false, lt-ltb, le-ltb, length-append, length-drop, take_all, take-take, take_at}
use Rattle.std.proofs.Common.{drop_at, drop-drop, drop-cons, length-take-le}
use Rattle.std.proofs.Math.Seq.{take-nil, drop-append-add}
use Rattle.std.proofs.lemmas.List.{take-append-le, drop-append-le}
use Rattle.line.specs.Laws.{all_taken}
use Rattle.accounts.specs.declared.Account.{Account}
use Rattle.accounts.specs.Rooms.{in_places, part_of, seed_in, remembered, room_of}
use Rattle.accounts.specs.OlderBytes.{place_at, at_most_seven, pushed, remembering}

-- ---- seeds in places

pub seven_few : (n : ℕ) → n < 7 → at_most_seven n ≡ n
seven_few n h = ap (λ (b : Bool). cond b n 7) (lt-ltb n 7 h)

pub seven_many : (n : ℕ) → 7 ≤ n → at_most_seven n ≡ 7
seven_many n h = ap (λ (b : Bool). cond b n 7) (le-ltb n 7 h)

pub places_few : (n : ℕ) (b : List ℕ) → length (in_places n b) ≤ n
unfolding in_places
places_few zero b = omega arith
places_few (suc n) [] = omega arith
places_few (suc n) (len ∷ b) = omega (arith, places_few n (drop 16 b))

-- The first of some places are fewer places.
places_first : (n k : ℕ) (b : List ℕ) → n ≤ k → take n (in_places k b) ≡ in_places n b
unfolding in_places
places_first zero k b h = refl
places_first (suc n) zero b h = absurd (omega arith)
places_first (suc n) (suc k) [] h = refl
places_first (suc n) (suc k) (len ∷ b) h =
    ap (λ (seeds : List (List ℕ)). take len (take 16 b) ∷ seeds) (places_first n k (drop 16 b) (omega arith))

-- As many of seven places as an account uses.
pub places_used : (n : ℕ) (b : List ℕ) → take n (in_places 7 b) ≡ in_places (at_most_seven n) b
places_used n b = by (ltb n 7) refl
  where
    by : (c : Bool) → ltb n 7 ≡ c → take n (in_places 7 b) ≡ in_places (cond c n 7) b
    by true e = places_first n 7 b (omega (arith, ltb-true n 7 e))
    by false e = take_all n (in_places 7 b) (omega (arith, places_few 7 b, ltb-false n 7 e))

-- The place that begins there, and those behind it.
pub places_at : (n at : ℕ) (b : List ℕ) → at < length b → in_places (suc n) (drop at b) ≡ place_at at b ∷ in_places n (drop (at + 17) b)
unfolding in_places
places_at n at b h =
    let next : suc at ≡ at + 1 = omega arith in
    let past : suc at + 16 ≡ at + 17 = omega arith in
    ap (in_places (suc n)) (drop-cons b at 0 h)
    ∙ ap₂ (λ (seed rest : List ℕ). take (get_or b at 0) (take 16 seed) ∷ in_places n rest)
    (ap (λ (k : ℕ). drop k b) next) (drop-drop 16 (suc at) b ∙ ap (λ (k : ℕ). drop k b) past)

-- Places go by their own bytes alone.
drop-take : (m n k : ℕ) (b : List ℕ) → n ≡ m + k → drop m (take n b) ≡ take k (drop m b)
drop-take zero n k b e = let same : n ≡ k = omega arith in ap (λ (j : ℕ). take j b) same
drop-take (suc m) zero k b e = absurd (omega arith)
drop-take (suc m) (suc n) k [] e = sym (take-nil k)
drop-take (suc m) (suc n) k (x ∷ b) e = drop-take m n k b (omega arith)

places_within : (n m : ℕ) (b : List ℕ) → in_places n (take (n * 17 + m) b) ≡ in_places n b
unfolding in_places
places_within zero m b = refl
places_within (suc n) m [] = ap (in_places (suc n)) (take-nil (suc n * 17 + m))
places_within (suc n) m (len ∷ b) =
    let all : suc n * 17 + m ≡ suc (16 + (n * 17 + m)) = omega arith in
    ap (λ (k : ℕ). in_places (suc n) (take k (len ∷ b))) all
    ∙ ap₂ (λ (seed rest : List ℕ). take len seed ∷ in_places n rest)
    (take-take 16 (16 + (n * 17 + m)) b (omega arith)) (drop-take 16 (16 + (n * 17 + m)) (n * 17 + m) b refl)
    ∙ ap (λ (seeds : List (List ℕ)). take len (take 16 b) ∷ seeds) (places_within n m (drop 16 b))

-- One seed before the others.
pub pushed_places : (a : Account) (part : List ℕ) → length a.seed ≡ 16 → in_places 7 (pushed a part) ≡ seed_in a ∷ in_places 6 part
unfolding in_places
pushed_places a part h =
    ap₂ (λ (seed rest : List ℕ). take (length (seed_in a)) seed ∷ in_places 6 rest)
    (take_at a.seed (take 102 part) 16 h) (drop_at a.seed (take 102 part) 16 h)
    ∙ ap₂ (λ (seed : List ℕ) (seeds : List (List ℕ)). seed ∷ seeds) (all_taken _ a.len a.seed refl) (places_within 6 0 part)

-- Once the present seed is the newest of the older ones, one place more is in use, and seven at most: the first seven that were remembered.
pub pushed_older : (a : Account) (part : List ℕ) → length a.seed ≡ 16
    → take (at_most_seven (a.older_count + 1)) (in_places 7 (pushed a part)) ≡ take 7 (remembered (room_of a part))
pushed_older a part h = ap (take (at_most_seven (a.older_count + 1))) (pushed_places a part h) ∙ by (ltb (a.older_count + 1) 7) refl
  where
    used : (n : ℕ) → (n ≤ 6) → take (n + 1) (seed_in a ∷ in_places 6 part) ≡ seed_in a ∷ in_places n part
    used n g =
        let one : n + 1 ≡ suc n = omega arith in
        ap (λ (k : ℕ). take k (seed_in a ∷ in_places 6 part)) one ∙ ap (λ (seeds : List (List ℕ)). seed_in a ∷ seeds) (places_first n 6 part g)

    by : (c : Bool) → ltb (a.older_count + 1) 7 ≡ c
        → take (cond c (a.older_count + 1) 7) (seed_in a ∷ in_places 6 part) ≡ seed_in a ∷ take 6 (take a.older_count (in_places 7 part))
    by true e =
        let few : a.older_count ≤ 6 = omega (arith, ltb-true (a.older_count + 1) 7 e) in
        used a.older_count few
        ∙ ap (λ (seeds : List (List ℕ)). seed_in a ∷ seeds)
        (sym (ap (take 6) (places_first a.older_count 7 part (omega arith))
        ∙ take_all 6 (in_places a.older_count part) (omega (arith, places_few a.older_count part))))
    by false e =
        used 6 (omega arith)
        ∙ ap (λ (seeds : List (List ℕ)). seed_in a ∷ seeds)
        (sym (take-take 6 a.older_count (in_places 7 part) (omega (arith, ltb-false (a.older_count + 1) 7 e)) ∙ places_first 6 7 part (omega arith)))

-- ---- a room's places among all

module _ (room : ℕ) (a : Account) (older : List ℕ) (inside : room < 32) (all : length older ≡ 3808) (h : length a.seed ≡ 16) where
  before : length (take (room * 119) older) ≡ room * 119
  before = length-take-le (room * 119) older (omega arith)

  part_length : length (part_of older room) ≡ 119
  part_length = length-take-le 119 (drop (room * 119) older) (simp length-drop (omega arith))

  pushed-length : length (pushed a (part_of older room)) ≡ 119
  pushed-length = simp length-append (omega (arith, length-take-le 102 (part_of older room) (omega (arith, part_length))))

  -- The room's own.
  pub part_pushed : part_of (remembering room a older) room ≡ pushed a (part_of older room)
  part_pushed =
      ap (take 119) (drop_at (take (room * 119) older) (pushed a (part_of older room) ++ drop (room * 119 + 119) older) (room * 119) before)
      ∙ take_at (pushed a (part_of older room)) (drop (room * 119 + 119) older) 119 pushed-length

  -- And those of the others.
  pub part_elsewhere : (other : ℕ) → (other ≡ room → ⊥) → part_of (remembering room a older) other ≡ part_of older other
  part_elsewhere other d = by (ltb other room) refl
    where
      whole : List ℕ
      whole = pushed a (part_of older room) ++ drop (room * 119 + 119) older

      by : (b : Bool) → ltb other room ≡ b → part_of (remembering room a older) other ≡ part_of older other
      by true e =
          let below : other * 119 + 119 ≤ room * 119 = omega (arith, ltb-true other room e) in
          ap (take 119) (drop-append-le (other * 119) (take (room * 119) older) whole (omega (arith, before)))
          ∙ take-append-le 119 (drop (other * 119) (take (room * 119) older)) whole (simp length-drop (omega (arith, before)))
          ∙ lemma (other * 119) (room * 119) older below
        where
          lemma : (m k : ℕ) (l : List ℕ) → m + 119 ≤ k → take 119 (drop m (take k l)) ≡ take 119 (drop m l)
          lemma m k l g =
              ap (take 119) (drop-take m k (k - m) l (omega arith))
              ∙ take-take 119 (k - m) (drop m l) (omega arith)
      by false e =
          let above : room * 119 + 119 ≤ other * 119 = omega (arith, ltb-false other room e) in
          ap (take 119) (past (other * 119 - (room * 119 + 119)) (omega arith))
        where
          past : (n : ℕ) → other * 119 ≡ room * 119 + 119 + n → drop (other * 119) (remembering room a older) ≡ drop (other * 119) older
          past n e' =
              let first : other * 119 ≡ length (take (room * 119) older) + (119 + n) = omega (arith, before) in
              let second : 119 + n ≡ length (pushed a (part_of older room)) + n = omega (arith, pushed-length) in
              ap (λ (k : ℕ). drop k (remembering room a older)) first
              ∙ drop-append-add (take (room * 119) older) whole (119 + n)
              ∙ ap (λ (k : ℕ). drop k whole) second
              ∙ drop-append-add (pushed a (part_of older room)) (drop (room * 119 + 119) older) n
              ∙ drop-drop n (room * 119 + 119) older
              ∙ ap (λ (k : ℕ). drop k older) (sym e')
