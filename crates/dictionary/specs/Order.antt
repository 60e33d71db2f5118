-- Tests over a list that antt computes once, and what they say of each place.
use Rattle.std.specs.Prelude.{ℕ, zero, suc, ◌≤◌, ◌<◌, ◌≡◌, refl, Bool, true, false, cond, ◌&&◌, List, [], ◌∷◌, T, leb, ltb, eqb, length, get_or}
use Rattle.std.proofs.Common.{arith, le_of_suc-le-suc, not-suc-le-zero, ◌∙◌, leb→le, ltb→lt, lt→ltb, eq-eqb, ne_eqb, eqb-true}
use Rattle.dictionary.specs.Runs.{before}

pub both : (a b : Bool) → T (a && b) → T a × T b
both true b t = (tt, t)
both false b t = absurd t

-- a test that each word of a list passes
abbrev pub each : (List ℕ → Bool) → List (List ℕ) → Bool
each f [] = true
each f (w ∷ ws) = f w && each f ws

pub each_at : (f : List ℕ → Bool) (ws : List (List ℕ)) → T (each f ws) → (i : ℕ) → i < length ws → T (f (get_or ws i []))
each_at f [] t i h = absurd (not-suc-le-zero h)
each_at f (w ∷ ws) t zero h = (both (f w) (each f ws) t).0
each_at f (w ∷ ws) t (suc i) h = each_at f ws (both (f w) (each f ws) t).1 i (le_of_suc-le-suc h)

-- numbers that rise strictly, from lo on
abbrev pub rising : ℕ → List ℕ → Bool
rising lo [] = true
rising lo (x ∷ xs) = leb lo x && rising (suc x) xs

rising_from : (lo : ℕ) (xs : List ℕ) → T (rising lo xs) → (j : ℕ) → j < length xs → lo ≤ get_or xs j 0
rising_from lo [] t j h = absurd (not-suc-le-zero h)
rising_from lo (x ∷ xs) t zero h = leb→le lo x (both (leb lo x) (rising (suc x) xs) t).0
rising_from lo (x ∷ xs) t (suc j) h =
    let first : lo ≤ x = leb→le lo x (both (leb lo x) (rising (suc x) xs) t).0 in
    let later : suc x ≤ get_or xs j 0 = rising_from (suc x) xs (both (leb lo x) (rising (suc x) xs) t).1 j (le_of_suc-le-suc h) in
    omega arith

pub rising_at : (lo : ℕ) (xs : List ℕ) → T (rising lo xs) → (i j : ℕ) → i < j → j < length xs → get_or xs i 0 < get_or xs j 0
rising_at lo [] t i j l h = absurd (not-suc-le-zero h)
rising_at lo (x ∷ xs) t i zero l h = absurd (not-suc-le-zero l)
rising_at lo (x ∷ xs) t zero (suc j) l h = rising_from (suc x) xs (both (leb lo x) (rising (suc x) xs) t).1 j (le_of_suc-le-suc h)
rising_at lo (x ∷ xs) t (suc i) (suc j) l h =
    rising_at (suc x) xs (both (leb lo x) (rising (suc x) xs) t).1 i j (le_of_suc-le-suc l) (le_of_suc-le-suc h)

-- words in the order of the alphabet, after w
abbrev pub after : List ℕ → List (List ℕ) → Bool
after w [] = true
after w (v ∷ ws) = before w v && after v ws

abbrev pub in_order : List (List ℕ) → Bool
in_order [] = true
in_order (w ∷ ws) = after w ws

-- the first letters decide, or are the same
data First (x y : ℕ) (b : Bool) : Type 0 where
  less : x < y → First x y b
  same : x ≡ y → T b → First x y b

first : (x y : ℕ) (b : Bool) → T (cond (eqb x y) b (ltb x y)) → First x y b
first x y b t = go (eqb x y) refl t
  where
    go : (e : Bool) → eqb x y ≡ e → T (cond e b (ltb x y)) → First x y b
    go true e t = same (eqb-true x y e) t
    go false e t = less (ltb→lt x y t)

by_first : (x y : ℕ) (b : Bool) → First x y b → T (cond (eqb x y) b (ltb x y))
by_first x y b (less l) = rw (ne_eqb x y (λ e. omega arith)) (lt→ltb x y l)
by_first x y b (same e t) = rw (eq-eqb x y e) t

pub before_trans : (u v w : List ℕ) → T (before u v) → T (before v w) → T (before u w)
before_trans [] [] w s t = absurd s
before_trans [] (y ∷ ys) [] s t = absurd t
before_trans [] (y ∷ ys) (z ∷ zs) s t = tt
before_trans (x ∷ xs) [] w s t = absurd s
before_trans (x ∷ xs) (y ∷ ys) [] s t = absurd t
before_trans (x ∷ xs) (y ∷ ys) (z ∷ zs) s t =
    by_first x z (before xs zs) (go (before_trans xs ys zs) (first x y (before xs ys) s) (first y z (before ys zs) t))
  where
    go : (T (before xs ys) → T (before ys zs) → T (before xs zs)) → First x y (before xs ys) → First y z (before ys zs) → First x z (before xs zs)
    go rest (less l) (less m) = less (omega arith)
    go rest (less l) (same e b) = less (omega arith)
    go rest (same e a) (less m) = less (omega arith)
    go rest (same e a) (same f b) = same (e ∙ f) (rest a b)

after_at : (w : List ℕ) (ws : List (List ℕ)) → T (after w ws) → (j : ℕ) → j < length ws → T (before w (get_or ws j []))
after_at w [] t j h = absurd (not-suc-le-zero h)
after_at w (v ∷ ws) t zero h = (both (before w v) (after v ws) t).0
after_at w (v ∷ ws) t (suc j) h =
    before_trans w v (get_or ws j []) (both (before w v) (after v ws) t).0 (after_at v ws (both (before w v) (after v ws) t).1 j (le_of_suc-le-suc h))

pub in_order_at : (ws : List (List ℕ)) → T (in_order ws) → (i j : ℕ) → i < j → j < length ws → T (before (get_or ws i []) (get_or ws j []))
in_order_at [] t i j l h = absurd (not-suc-le-zero h)
in_order_at (w ∷ ws) t i zero l h = absurd (not-suc-le-zero l)
in_order_at (w ∷ ws) t zero (suc j) l h = after_at w ws t j (le_of_suc-le-suc h)
in_order_at (w ∷ []) t (suc i) (suc j) l h = absurd (not-suc-le-zero (le_of_suc-le-suc h))
in_order_at (w ∷ v ∷ ws) t (suc i) (suc j) l h =
    in_order_at (v ∷ ws) (both (before w v) (after v ws) t).1 i j (le_of_suc-le-suc l) (le_of_suc-le-suc h)
