-- The bytes of a block that is put together from what is left of the message, the byte behind it and the length.
use Rattle.std.proofs.Common.{◌≡◌, ◌≢◌, ℕ, zero, suc, ◌+◌, ◌-◌, ◌*◌, ◌<◌, ◌≤◌, List, ◌++◌}
use Rattle.std.proofs.Common.{length, slice_index, get_or, take, drop, set, sym, ap, ◌∙◌, arith, eq-eqb, ne_eqb}
use Rattle.std.proofs.Common.{length-set, get_or-set_same, get_or-set_other, subst, zero-add, add-zero}
use Rattle.std.proofs.Common.{length-append, length-drop, length-take, length-take-le, ltb, ltb-true, ltb-false}
use Rattle.std.proofs.Math.Decide.{ℕ_discrete}
use Rattle.std.proofs.Math.ListN.{replicate}
use borrow.Rule.Slice.PartMut.{put_mid}
use Rattle.std.proofs.lemmas.List.{get_or_append_left, get_or-append_right, get_or-drop, get_or-replicate, get_or-take, get_or_past, length-replicate}
use Rattle.std.proofs.lemmas.Grind.{common_steps}
use Rattle.std.specs.Array.{IsFromFnResult, IsFromFnResultFrom}
use Rattle.std.specs.Fn.{Called}
use denote.Param.Members.{Mut}
use Rattle.text.specs.Tests.{cases}
use Rattle.digests.specs.declared.Order.{Order}
use Rattle.digests.specs.Lists.{up_to, length-up_to, get_d_up_to, Filling, filling_ends}
use Rattle.digests.specs.Padding.{blocks, length_byte, padded_byte}
use Rattle.block.specs.Inside.{message_bytes, length_bytes, marked_byte, marked_bytes, block_bytes}
use Rattle.block.specs.Laws.{byte_length, bytes_message}

-- a list by its elements
pub by_index : (b : List ℕ) (n : ℕ) (f : ℕ → ℕ) → length b ≡ n → ((i : ℕ) → i < n → get_or b i 0 ≡ f i) → b ≡ up_to n f
by_index b n f long each =
    let whole : Filling b n n f = record { within = omega arith; long = long; filled = each } in
    filling_ends whole (omega arith)

marked_past : (m : List ℕ) (i : ℕ) → length m < i → marked_byte m i ≡ 0
marked_past m i h = rw (ne_eqb i (length m) (omega arith)) (get_or_past m i 0 (omega arith))

-- where nothing is left of the message
pub none_left : (m : List ℕ) (j : ℕ) → length m < 64 * j → replicate 64 0 ≡ marked_bytes m j
unfolding marked_bytes
none_left m j h =
    by_index (replicate 64 0) 64 (λ i. marked_byte m (64 * j + i)) (length-replicate {A = ℕ} 64 0)
    (λ i below. get_or-replicate 64 i 0 0 below ∙ sym (marked_past m (64 * j + i) (omega arith)))

-- what is left of it, and the byte behind
module _ (m own z : List ℕ) (j k : ℕ) (e : own ≡ take k (drop (64 * j) m)) (none : z ≡ replicate 64 0) (at : 64 * j + k ≡ length m) (inside : k < 64) where
  zeros : List ℕ
  zeros = drop k z

  long : length own ≡ k
  long = ap length e ∙ length-take-le k (drop (64 * j) m) (simp length-drop (omega arith))

  room : length zeros ≡ 64 - k
  unfolding zeros
  room = length-drop k z ∙ ap (λ (l : List ℕ). length l - k) none ∙ ap (λ (n : ℕ). n - k) (length-replicate {A = ℕ} 64 0)

  zero_at : (i : ℕ) → k + i < 64 → get_or zeros i 0 ≡ 0
  unfolding zeros
  zero_at i h = get_or-drop k z i 0 ∙ ap (λ (l : List ℕ). get_or l (k + i) 0) none ∙ get_or-replicate 64 (k + i) 0 0 h

  before : (i : ℕ) → i < k → get_or (own ++ zeros) i 0 ≡ marked_byte m (64 * j + i)
  before i h =
      get_or_append_left own zeros 0 i (omega (arith, long)) ∙ ap (λ (l : List ℕ). get_or l i 0) e
      ∙ get_or-take k (drop (64 * j) m) i 0 h ∙ get_or-drop (64 * j) m i 0
      ∙ sym (rw (ne_eqb (64 * j + i) (length m) (omega arith)))

  behind : (i : ℕ) → i < 64 → k < i → get_or (own ++ zeros) i 0 ≡ marked_byte m (64 * j + i)
  behind i below h =
      get_or-append_right own zeros k i 0 long (omega arith) ∙ zero_at (i - k) (omega arith)
      ∙ sym (marked_past m (64 * j + i) (omega arith))

  here : (i : ℕ) → i < 64 → Dec (i ≡ k) → get_or (set (own ++ zeros) k 128) i 0 ≡ marked_byte m (64 * j + i)
  here i below (yes same) =
      let within : k < length (own ++ zeros) = simp length-append (omega (arith, long, room)) in
      let end : 64 * j + i ≡ length m = omega arith in
      ap (λ (n : ℕ). get_or (set (own ++ zeros) k 128) n 0) same ∙ get_or-set_same (own ++ zeros) k 128 0 within
      ∙ sym (rw (eq-eqb (64 * j + i) (length m) end))
  here i below (no other) =
      get_or-set_other (own ++ zeros) k i 128 0 other
      ∙ cases (ltb i k) (λ t. before i (ltb-true i k t)) (λ t. behind i below (omega (arith, other, ltb-false i k t)))

  pub ended : set (own ++ drop k z) k 128 ≡ marked_bytes m j
  unfolding marked_bytes zeros
  ended =
      by_index (set (own ++ zeros) k 128) 64 (λ i. marked_byte m (64 * j + i))
      (length-set (own ++ zeros) k 128 ∙ length-append own zeros ∙ omega (arith, long, room))
      (λ i below. here i below (ℕ_discrete i k))

-- before the length the message and zeros stand
marked_padded : (order : Order) (m : List ℕ) (i : ℕ) → i < 64 * blocks (length m) - 8 → marked_byte m i ≡ padded_byte order m i
unfolding padded_byte
marked_padded order m i h = grind (arith, common_steps)

-- the bytes of a block that the length doesn't end
pub unended : (order : Order) (m b : List ℕ) (j : ℕ) → b ≡ marked_bytes m j → j < blocks (length m) → j + 1 ≢ blocks (length m) → b ≡ block_bytes order m j
unfolding marked_bytes block_bytes
unended order m b j e h other =
    by_index b 64 (λ i. padded_byte order m (64 * j + i)) (ap length e ∙ length-up_to 64 (λ i. marked_byte m (64 * j + i)))
    (λ i below. ap (λ (l : List ℕ). get_or l i 0) e ∙ get_d_up_to 64 (λ k. marked_byte m (64 * j + k)) i below
    ∙ marked_padded order m (64 * j + i) (omega arith))

-- and of one that it does
module _ (order : Order) (m b ys : List ℕ) (j : ℕ) (e : b ≡ marked_bytes m j) (f : ys ≡ length_bytes order (length m)) (last : j + 1 ≡ blocks (length m)) where
  own : length b ≡ 64
  unfolding marked_bytes
  own = ap length e ∙ length-up_to 64 (λ i. marked_byte m (64 * j + i))

  eight : length ys ≡ 8
  eight = ap length f ∙ length-up_to 8 (length_byte order (8 * length m))

  low : (i : ℕ) → i < 56 → get_or (put_mid 56 8 b ys) i 0 ≡ padded_byte order m (64 * j + i)
  unfolding marked_bytes
  low i h =
      get_or_append_left (take 56 b) (ys ++ drop 8 (drop 56 b)) 0 i (simp length-take (omega (arith, own)))
      ∙ get_or-take 56 b i 0 h ∙ ap (λ (l : List ℕ). get_or l i 0) e
      ∙ get_d_up_to 64 (λ k. marked_byte m (64 * j + k)) i (omega arith) ∙ marked_padded order m (64 * j + i) (omega arith)

  high : (i : ℕ) → i < 64 → 56 ≤ i → get_or (put_mid 56 8 b ys) i 0 ≡ padded_byte order m (64 * j + i)
  high i below h =
      let place : i - 56 ≡ 64 * j + i - (64 * blocks (length m) - 8) = omega arith in
      get_or-append_right (take 56 b) (ys ++ drop 8 (drop 56 b)) 56 i 0 (simp length-take (omega (arith, own))) h
      ∙ get_or_append_left ys (drop 8 (drop 56 b)) 0 (i - 56) (omega (arith, eight)) ∙ ap (λ (l : List ℕ). get_or l (i - 56) 0) f
      ∙ get_d_up_to 8 (length_byte order (8 * length m)) (i - 56) (omega arith) ∙ ap (length_byte order (8 * length m)) place
      ∙ sym (byte_length order m (64 * j + i) (omega arith) (omega arith))

  pub lengthened : put_mid 56 8 b ys ≡ block_bytes order m j
  unfolding block_bytes
  lengthened =
      by_index (put_mid 56 8 b ys) 64 (λ i. padded_byte order m (64 * j + i))
      (simp (length-append, length-drop, length-take) (omega (arith, own, eight)))
      (λ i below. cases (ltb i 56) (λ t. low i (ltb-true i 56 t)) (λ t. high i below (ltb-false i 56 t)))

-- a block that lies in the message
pub message_block : (order : Order) (m b : List ℕ) (j n : ℕ) → b ≡ take n (drop (64 * j) m) → n ≡ 64 → 64 * j + 64 ≤ length m → b ≡ block_bytes order m j
unfolding message_bytes
message_block order m b j n e same h =
    let f : b ≡ take 64 (drop (64 * j) m) = e ∙ ap (λ (k : ℕ). take k (drop (64 * j) m)) same in
    by_index b 64 (λ i. slice_index m (64 * j + i)) (ap length f ∙ length-take-le 64 (drop (64 * j) m) (simp length-drop (omega arith)))
    (λ i below. ap (λ (l : List ℕ). get_or l i 0) f ∙ get_or-take 64 (drop (64 * j) m) i 0 below ∙ get_or-drop (64 * j) m i 0)
    ∙ bytes_message order m j h

-- an array that a closure of the index makes, one that stays as it is
module _ {F : Type 0} (g : Mut F (ℕ × Unit {0}) ℕ) (h : ℕ → ℕ) (f : F) (ys : List ℕ) where
  made_from : (n i : ℕ) → ((k y : ℕ) (q : F) → k < i + n → Called g f (k, tt) y q → (q ≡ f) × (y ≡ h k))
      → IsFromFnResultFrom g f ys i n → (k : ℕ) → k < n → get_or ys (i + k) 0 ≡ h (i + k)
  made_from zero i calls each k below = absurd (omega arith)
  made_from (suc n) i calls (q, y, place, called, others) zero below = rw add-zero (place.1 0 ∙ (calls i y q (omega arith) called).1)
  made_from (suc n) i calls (q, y, place, called, others) (suc k) below =
      let e : i + suc k ≡ i + 1 + k = omega arith in
      let same : q ≡ f = (calls i y q (omega arith) called).0 in
      let rest = subst (λ (p : F). IsFromFnResultFrom g p ys (i + 1) n) same others in
      ap (λ (x : ℕ). get_or ys x 0) e ∙ made_from n (i + 1) (λ k y q l c. calls k y q (omega arith) c) rest k (omega arith) ∙ ap h (sym e)

  pub made : (n : ℕ) → ((k y : ℕ) (q : F) → k < n → Called g f (k, tt) y q → (q ≡ f) × (y ≡ h k)) → IsFromFnResult g f ys n → ys ≡ up_to n h
  made n calls all =
      by_index ys n h all.long
      (λ i below. ap (λ (k : ℕ). get_or ys k 0) (sym (zero-add i)) ∙ made_from n 0 (λ k y q l c. calls k y q (omega arith) c) all.each i below
      ∙ ap h (zero-add i))
