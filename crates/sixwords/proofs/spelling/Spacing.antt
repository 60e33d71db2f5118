-- Words with a space after each, and with one between.
use Prim.Native.Nat.{ℕ, ◌+◌, ◌-◌, ◌≤◌, ◌<◌}
use native.Mathlib.Omega.{arith}
use native.Mathlib.Numerals.{add-one}
use mathlib.Core.Path.{◌≡◌, refl, sym, ◌∙◌, ap}
use mathlib.Core.List.{List, [], ◌∷◌, ◌++◌, map, append_assoc, append-nil}
use lib.ListN.{length, get_or, take, drop, length-append, length-map, length-drop, take-append-drop, get_or-map}
use lib.Seq.{take-suc, take_all, append_snoc}
use borrow.Rule.Slice.PartMut.{mid_of, put_mid}
use Rattle.text.specs.Put.{Put}
use Rattle.text.specs.PutLaws.{length_front, length_rest_lent, then_put}
use Rattle.dictionary.specs.Dictionary.{letters_of}
use Rattle.sixwords.specs.Spelling.{spaced, spaced_from}
use Rattle.sixwords.specs.Inside.{ended}

-- the words up to one of them have a space after each
pub spaced-ended : (xs : List (List ℕ)) (v : List ℕ) (vs : List (List ℕ)) → spaced (xs ++ v ∷ vs) ≡ ended xs ++ spaced (v ∷ vs)
unfolding spaced_from ended
spaced-ended [] v vs = refl
spaced-ended (x ∷ []) v vs = sym (ap (λ (l : List ℕ). l ++ spaced_from v vs) (append-nil (x ++ 32 ∷ [])) ∙ append_snoc x 32 (spaced_from v vs))
spaced-ended (x ∷ y ∷ xs) v vs =
    ap (λ (l : List ℕ). x ++ 32 ∷ l) (spaced-ended (y ∷ xs) v vs)
    ∙ sym (append_assoc (x ++ 32 ∷ []) (ended (y ∷ xs)) (spaced_from v vs) ∙ append_snoc x 32 (ended (y ∷ xs) ++ spaced_from v vs))

pub ended_snoc : (xs : List (List ℕ)) (w : List ℕ) → ended (xs ++ w ∷ []) ≡ ended xs ++ (w ++ 32 ∷ [])
unfolding ended
ended_snoc [] w = append-nil (w ++ 32 ∷ [])
ended_snoc (x ∷ xs) w = ap (λ (l : List ℕ). x ++ 32 ∷ [] ++ l) (ended_snoc xs w) ∙ sym (append_assoc (x ++ 32 ∷ []) (ended xs) (w ++ 32 ∷ []))

ended_within : (xs ys : List (List ℕ)) → 0 < length ys → length (ended xs) ≤ length (spaced (xs ++ ys))
ended_within xs [] h = absurd (omega arith)
ended_within xs (v ∷ vs) h = omega (arith, ap length (spaced-ended xs v vs) ∙ length-append (ended xs) (spaced (v ∷ vs)))

module _ (ws : List ℕ) where
  abbrev pub spelt : List (List ℕ)
  spelt = map letters_of ws

  spelt_at : (k : ℕ) → k < length ws → take (k + 1) spelt ≡ take k spelt ++ letters_of (get_or ws k 0) ∷ []
  spelt_at k h =
      ap (λ (m : ℕ). take m spelt) (add-one k) ∙ take-suc spelt k (letters_of 0) (rw (length-map ws letters_of) h)
      ∙ ap (λ (l : List ℕ). take k spelt ++ l ∷ []) (get_or-map letters_of ws k 0)

  -- one word more
  pub ended_more : (k : ℕ) → k < length ws → ended (take (k + 1) spelt) ≡ ended (take k spelt) ++ (letters_of (get_or ws k 0) ++ 32 ∷ [])
  ended_more k h = ap ended (spelt_at k h) ∙ ended_snoc (take k spelt) (letters_of (get_or ws k 0))

  -- the last word
  pub spaced_last : (k : ℕ) → length ws ≡ k + 1 → spaced spelt ≡ ended (take k spelt) ++ letters_of (get_or ws k 0)
  unfolding spaced_from
  spaced_last k h =
      ap spaced (sym (take_all (k + 1) spelt (omega (arith, length-map ws letters_of))) ∙ spelt_at k (omega arith)) ∙
      spaced-ended (take k spelt) (letters_of (get_or ws k 0)) []

  pub more_length : (k : ℕ) → k < length ws → length (ended (take (k + 1) spelt)) ≡ length (ended (take k spelt)) + (length (letters_of (get_or ws k 0)) + 1)
  more_length k h =
      ap length (ended_more k h) ∙ length-append (ended (take k spelt)) (letters_of (get_or ws k 0) ++ 32 ∷ [])
      ∙ ap (λ (n : ℕ). length (ended (take k spelt)) + n) (length-append (letters_of (get_or ws k 0)) (32 ∷ []))

  -- the words up to one of them, each with its space, have room where all have
  pub ended_room : (k : ℕ) → k + 1 < length ws → length (ended (take k spelt)) + (length (letters_of (get_or ws k 0)) + 1) ≤ length (spaced spelt)
  ended_room k h =
      let within = ended_within (take (k + 1) spelt) (drop (k + 1) spelt) (simp length-drop (omega (arith, length-map ws letters_of))) in
      let same = ap (λ (l : List (List ℕ)). length (spaced l)) (take-append-drop (k + 1) spelt) in
      omega (arith, within, same, more_length k (omega arith))

  -- the bytes of all
  pub ended-length : (k : ℕ) → length ws ≡ k + 1 → length (ended (take (k + 1) spelt)) ≡ length (spaced spelt) + 1
  ended-length k h =
      let last = ap length (spaced_last k h) ∙ length-append (ended (take k spelt)) (letters_of (get_or ws k 0)) in
      omega (arith, last, more_length k (omega arith))

-- What the code does with the words ws: those before the k-th stand at the front of b, up to `at`, and b was b₀.
module _ (ws b₀ b : List ℕ) (k at : ℕ) (six : length ws ≡ 6) (fits : length (spaced (spelt ws)) ≤ length b₀) (same : length b ≡ length b₀)
    (before : Put (ended (take k (spelt ws))) b₀ b at) where
  pub word_room : k < 5 → length (letters_of (get_or ws k 0)) < length (mid_of at (length b - at) b)
  word_room h = omega (arith, length_rest_lent at b, before.0, ended_room ws k (omega arith))

  -- one word more, which takes at most what all take
  pub word_put : (ys : List ℕ) (m : ℕ) → k < 5 → Put (letters_of (get_or ws k 0) ++ 32 ∷ []) (mid_of at (length b - at) b) ys m →
      (at + m ≤ length b₀)
      × (length (put_mid at (length b - at) b ys) ≡ length b₀)
      × (Put (ended (take (k + 1) (spelt ws))) b₀ (put_mid at (length b - at) b ys) (at + m))
  word_put ys m h p =
      let put : Put (ended (take (k + 1) (spelt ws))) b₀ (put_mid at (length b - at) b ys) (at + m) =
      rw (ended_more ws k (omega arith)) (then_put (ended (take k (spelt ws))) (letters_of (get_or ws k 0) ++ 32 ∷ []) b₀ b ys at m before p) in
      let room = ended_room ws k (omega arith) in
      let more = more_length ws k (omega arith) in
      (omega (arith, put.0, room, more), ap length put.1 ∙ length_front (ended (take (k + 1) (spelt ws))) b₀ (omega (arith, room, more)), put)

  module _ (last : k ≡ 5) where
    five : ended (take k (spelt ws)) ++ letters_of (get_or ws 5 0) ≡ spaced (spelt ws)
    five = ap (λ (n : ℕ). ended (take n (spelt ws)) ++ letters_of (get_or ws 5 0)) last ∙ sym (spaced_last ws 5 six)

    pub last_room : length (letters_of (get_or ws 5 0)) ≤ length (mid_of at (length b - at) b)
    last_room =
        omega (arith, length_rest_lent at b, before.0, sym (length-append (ended (take k (spelt ws))) (letters_of (get_or ws 5 0))) ∙ ap length five)

    pub last_put : (ys : List ℕ) (m : ℕ) → Put (letters_of (get_or ws 5 0)) (mid_of at (length b - at) b) ys m →
        Put (spaced (spelt ws)) b₀ (put_mid at (length b - at) b ys) (at + m)
    last_put ys m p =
        rw (← five) (then_put (ended (take k (spelt ws))) (letters_of (get_or ws 5 0)) b₀ b ys at m before p)
