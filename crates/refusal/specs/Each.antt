-- What holds of each check of a list, or of each element of any list, and how it is kept.
use Rattle.std.specs.Prelude.{ℕ, zero, suc, List, [], ◌∷◌, ◌++◌, map, get_or, set, replicate}

abbrev pub Each : {A : Type 0} → (A → Type 0) → List A → Type 0
Each P [] = Unit {0}
Each P (x ∷ xs) = P x × Each P xs

module _ {A : Type 0} (P : A → Type 0) where
  pub each_set : (l : List A) (i : ℕ) (a : A) → Each P l → P a → Each P (set l i a)
  each_set [] i a h k = tt
  each_set (x ∷ xs) zero a h k = (k, h.1)
  each_set (x ∷ xs) (suc i) a h k = (h.0, each_set xs i a h.1 k)

  pub each_get : (l : List A) (i : ℕ) (d : A) → Each P l → P d → P (get_or l i d)
  each_get [] i d h k = k
  each_get (x ∷ xs) zero d h k = h.0
  each_get (x ∷ xs) (suc i) d h k = each_get xs i d h.1 k

  pub each_append : (l m : List A) → Each P l → Each P m → Each P (l ++ m)
  each_append [] m h k = k
  each_append (x ∷ xs) m h k = (h.0, each_append xs m h.1 k)

  pub each_replicate : (n : ℕ) (a : A) → P a → Each P (replicate n a)
  each_replicate zero a h = tt
  each_replicate (suc n) a h = (h, each_replicate n a h)

  pub each_map : {B : Type 0} (Q : B → Type 0) (f : A → B) → ((a : A) → P a → Q (f a)) → (l : List A) → Each P l → Each Q (map f l)
  each_map Q f g [] h = tt
  each_map Q f g (x ∷ xs) h = (g x h.0, each_map Q f g xs h.1)

  pub each_weaker : (Q : A → Type 0) → ((a : A) → P a → Q a) → (l : List A) → Each P l → Each Q l
  each_weaker Q g [] h = tt
  each_weaker Q g (x ∷ xs) h = (g x h.0, each_weaker Q g xs h.1)
