-- Six words looked up one after the other, from the last to the first.
use Rattle.std.specs.Prelude.{ℕ, Option, Some, None}
use Prim.Native.Nat.{ℕ, zero, suc, ◌+◌, ◌*◌, ◌-◌, ◌^◌, ◌≤◌, ◌<◌}
use native.Mathlib.Nat.{pow-le-pow_right}
use native.Mathlib.Omega.{arith}
use mathlib.Core.Path.{◌≡◌, refl, sym, ◌∙◌, ap, ap₂, subst}
use mathlib.Core.Bool.{Bool, true, false, ◌&&◌}
use mathlib.Core.List.{List, [], ◌∷◌, map}
use lib.Dec.{ltb}
use lib.ListN.{length, get_or, drop, set, length-set, length-map, length-drop, drop_of_length-le}
use lib.Seq.{drop-cons, drop-set-lt, get_or-set_same}
use borrow.Author.Tests.{ltb-true}
use Rattle.refusal.specs.Answers.{Reading}
use Rattle.text.specs.Tests.{cases}
use Rattle.dictionary.specs.Dictionary.{found_of}
use Rattle.std.specs.Option.{ok_or}
use Rattle.sixwords.specs.Places.{all_places, number_of}
use Rattle.reply.specs.Reply.{mark_of, marks_of, place_in, marked_or, found_reading}
use Rattle.reply.specs.Laws.{marks_within}
use Rattle.reply.specs.Inside.{why_not}

-- of the words ws those from k on are looked up: their places stand in ps, and m is their marks
abbrev pub LookedFrom : List ℕ → List ℕ → ℕ → ℕ → Type 0
LookedFrom ws ps m k = (drop k ps ≡ map place_in (map found_of (drop k ws))) × (m ≡ marks_of (map found_of (drop k ws)))

pub none_looked : (ws ps : List ℕ) (k : ℕ) → length ws ≤ k → length ps ≤ k → LookedFrom ws ps 0 k
unfolding marks_of
none_looked ws ps k h g = rw (drop_of_length-le ws h, drop_of_length-le ps g) (refl, refl)

-- the word before them too
module _ (ws ps : List ℕ) (m : ℕ) (f : Option ℕ) (x n : ℕ) (same : length ps ≡ length ws) where
  word_before : (j : ℕ) → j < length ws → f ≡ found_of (get_or ws j 0) → x ≡ place_in f → n ≡ mark_of f + 2 * m → LookedFrom ws ps m (suc j)
      → LookedFrom ws (set ps j x) n j
  unfolding marks_of
  word_before j h e g q i = (places, marks)
    where
      here : j < length ps
      here = omega arith

      word : drop j ws ≡ get_or ws j 0 ∷ drop (suc j) ws
      word = drop-cons ws j 0 h

      places : drop j (set ps j x) ≡ map place_in (map found_of (drop j ws))
      places =
          drop-cons (set ps j x) j 0 (rw length-set here)
          ∙ ap₂ (λ (a : ℕ) (l : List ℕ). a ∷ l) (get_or-set_same ps j x 0 here ∙ g ∙ ap place_in e) (drop-set-lt (suc j) ps j x (omega arith) ∙ i.0)
          ∙ ap (λ (vs : List ℕ). map place_in (map found_of vs)) (sym word)

      marks : n ≡ marks_of (map found_of (drop j ws))
      marks =
          q ∙ ap₂ (λ (found : Option ℕ) (v : ℕ). mark_of found + 2 * v) e i.1
          ∙ ap (λ (vs : List ℕ). marks_of (map found_of vs)) (sym word)

  pub one_more : (k : ℕ) → 0 < k → k ≤ length ws → f ≡ found_of (get_or ws (k - 1) 0) → x ≡ place_in f → n ≡ mark_of f + 2 * m → LookedFrom ws ps m k
      → LookedFrom ws (set ps (k - 1) x) n (k - 1)
  one_more k z h e g q i =
      let last : k ≡ suc (k - 1) = omega arith in
      word_before (k - 1) (omega arith) e g q (subst (λ (v : ℕ). LookedFrom ws ps m v) last i)

-- of six words there are marks up to 63
pub marks_few : (ws ps : List ℕ) (m k : ℕ) → length ws ≤ 6 → LookedFrom ws ps m k → m ≤ 63
marks_few ws ps m k h i =
    let count = length-map (drop k ws) found_of ∙ length-drop k ws in
    let most : 2 ^ length (map found_of (drop k ws)) ≤ 2 ^ 6 =
    pow-le-pow_right (omega arith) {i = length (map found_of (drop k ws))} {j = 6} (omega (arith, count)) in
    omega (arith, i.1, marks_within (map found_of (drop k ws)), most)

-- ---- all are looked up

-- the place of an unknown word is none, and so the places have no number
unknown_place : (found : List (Option ℕ)) → 0 < marks_of found → all_places (map place_in found) ≡ false
unfolding marks_of all_places
unknown_place [] h = absurd (omega arith)
unknown_place (Some i ∷ found) h = go (ltb i 2048) (unknown_place found (omega arith))
  where
    go : (b : Bool) → all_places (map place_in found) ≡ false → (b && all_places (map place_in found)) ≡ false
    go true e = e
    go false e = refl
unknown_place (None ∷ found) h = refl

unknown_number : (found : List (Option ℕ)) → 0 < marks_of found → number_of (map place_in found) ≡ None
unfolding number_of
unknown_number found h = rw (unknown_place found h)

-- what is said of marks and a number
abbrev pub said : ℕ → Option ℕ → Reading
said m n = ok_or n (why_not m)

unmarked : (m : ℕ) (n : Option ℕ) → ltb 0 m ≡ false → said m n ≡ marked_or m n
unmarked m (Some p) t = rw t
unmarked m None t = rw t

said-found : (found : List (Option ℕ)) → said (marks_of found) (number_of (map place_in found)) ≡ found_reading found
unfolding found_reading
said-found found =
    cases (ltb 0 (marks_of found))
    (λ t. ap (said (marks_of found)) (unknown_number found (ltb-true 0 (marks_of found) t)) ∙ marked (marks_of found) (number_of (map place_in found)) t)
    (unmarked (marks_of found) (number_of (map place_in found)))
  where
    marked : (m : ℕ) (n : Option ℕ) → ltb 0 m ≡ true → said m None ≡ marked_or m n
    marked m n t = rw t

pub all_looked : (ws ps : List ℕ) (m k : ℕ) → k ≤ 0 → LookedFrom ws ps m k → said m (number_of ps) ≡ found_reading (map found_of ws)
all_looked ws ps m zero h i =
    ap₂ (λ (v : ℕ) (vs : List ℕ). said v (number_of vs)) i.1 i.0 ∙ said-found (map found_of ws)
all_looked ws ps m (suc k) h i = absurd (omega arith)
