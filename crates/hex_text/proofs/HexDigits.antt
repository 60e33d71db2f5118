-- A text read digit by digit.
use Rattle.std.specs.Prelude.{Ok, Err, Some, None}
use Prim.Native.Nat.{ℕ, suc, ◌+◌, ◌*◌, ◌^◌, ◌≤◌, ◌<◌}
use native.Mathlib.Omega.{arith}
use native.Mathlib.Nat.{zero-add, add-zero, pow-suc, pow-le-pow_right, lt_of_lt_of_le}
use native.Mathlib.Numerals.{add-one}
use mathlib.Core.Path.{◌≡◌, ap}
use mathlib.Core.Bool.{Bool, true, false, cond, ◌&&◌}
use mathlib.Core.List.{List, [], ◌∷◌}
use Rattle.std.specs.Prelude.{Some, None}
use lib.Arith.{digits_lt}
use lib.Dec.{eqb}
use lib.ListN.{length, get_or, drop, drop_of_length-le}
use lib.Seq.{drop-cons}
use borrow.Author.Tests.{eq-eqb, ne_eqb, lt-ltb}
use Rattle.refusal.specs.declared.Refusal.{Refusal}
use Rattle.text.specs.Kinds.{is_white}
use Rattle.text.specs.Tests.{every, second_fails}
use Rattle.text.specs.Scan.{unspaced}
use Rattle.text.specs.Digits.{is_hex, digit_found, number_after}
use Rattle.text.specs.DigitLaws.{hex_value, found_some, found_none}
use Rattle.hex_text.specs.Hex.{sixteen_digits, hex_reading}
use Rattle.hex_text.specs.Inside.{hex_after}

-- a number of n digits with one more
pub hex_grows : (v d n : ℕ) → v < 16 ^ n → d < 16 → v * 16 + d < 16 ^ (n + 1)
hex_grows v d n h g = rw (add-one, pow-suc) (digits_lt h g)

pub sixteen_fit : (v n : ℕ) → v < 16 ^ n → n ≤ 16 → v < 2 ^ 64
sixteen_fit v n h g = lt_of_lt_of_le h (pow-le-pow_right {n = 16} (omega arith) g)

pub white_byte : (s : List ℕ) (i : ℕ) → i < length s → is_white (get_or s i 0) ≡ true → unspaced (drop i s) ≡ unspaced (drop (i + 1) s)
unfolding unspaced
white_byte s i h e = rw (drop-cons s i 0, e, add-one)

pub solid_byte : (s : List ℕ) (i : ℕ) → i < length s → is_white (get_or s i 0) ≡ false → unspaced (drop i s) ≡ get_or s i 0 ∷ unspaced (drop (i + 1) s)
unfolding unspaced
solid_byte s i h e = rw (drop-cons s i 0, e, add-one)

pub hex_start : (u : List ℕ) → hex_reading u ≡ hex_after 0 0 u
unfolding hex_reading sixteen_digits hex_after
hex_start u = rw zero-add

-- a digit more
pub hex_digit : (n v b d : ℕ) (u : List ℕ) → digit_found b ≡ Some d → hex_after n v (b ∷ u) ≡ hex_after (n + 1) (v * 16 + d) u
unfolding hex_after number_after every
hex_digit n v b d u e =
    let count : n + suc (length u) ≡ n + 1 + length u = omega arith in
    let here = found_some b d e in
    rw (hex_value b, here.0, lt-ltb d 16 here.1, count)

-- a byte that is no digit
pub hex_other : (n v b : ℕ) (u : List ℕ) → digit_found b ≡ None → hex_after n v (b ∷ u) ≡ Err Refusal.ReplyUnread
unfolding hex_after every
hex_other n v b u e =
    ap (λ (t : Bool). cond t (Ok (number_after 16 v (b ∷ u))) (Err Refusal.ReplyUnread))
    (second_fails (eqb (n + suc (length u)) 16) (is_hex b && every is_hex u) (ap (λ (t : Bool). t && every is_hex u) (found_none b e)))

-- a seventeenth digit
pub hex_long : (n v b : ℕ) (u : List ℕ) → n ≡ 16 → hex_after n v (b ∷ u) ≡ Err Refusal.ReplyUnread
unfolding hex_after
hex_long n v b u e = rw (ne_eqb (n + suc (length u)) 16 (λ q. omega arith))

-- the end
pub hex_end : (n v : ℕ) → n ≡ 16 → hex_after n v [] ≡ Ok v
unfolding hex_after number_after every
hex_end n v e = rw (add-zero, eq-eqb n 16 e)

pub hex_short : (n v : ℕ) → (n ≡ 16 → ⊥) → hex_after n v [] ≡ Err Refusal.ReplyUnread
unfolding hex_after every
hex_short n v e = rw (add-zero, ne_eqb n 16 e)

pub none_left : (s : List ℕ) (i : ℕ) → length s ≤ i → unspaced (drop i s) ≡ []
unfolding unspaced
none_left s i h = ap unspaced (drop_of_length-le s h)
