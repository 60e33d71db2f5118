-- Laws of a card's lines: how long they are, and line after line.
use Prim.Native.Nat.{ℕ, zero, suc, ◌+◌, ◌-◌, ◌*◌, ◌≤◌, ◌<◌}
use Rattle.std.specs.Prelude.{◌≡◌, refl, length}
use Rattle.std.proofs.Math.Path.{sym, ap, ap₂}
use Rattle.std.proofs.Common.{◌∙◌, suc-add}
use mathlib.Core.List.{List, ◌++◌, append_assoc, append-nil}
use native.Mathlib.Omega.{arith}
use Rattle.std.proofs.Math.ListN.{length-append}
use Rattle.hex_text.specs.Laws.{hex_length}
use Rattle.sixwords.specs.Spelling.{words_of}
use Rattle.sixwords.specs.SpellingLaws.{words_length}
use Rattle.text.specs.Counts.{width_of}
use Rattle.text.specs.CountLaws.{length_decimal, width_few}
use Rattle.cards.specs.CardLines.{line_of, card_text}

pub length_line : (count p : ℕ) → length (line_of count p) ≡ width_of count + length (words_of p) + 19
unfolding line_of
length_line count p = simp length-append (omega (arith, length_decimal count, hex_length p))

-- "99 lines of 52 bytes": no line is longer
pub line_length : (count p : ℕ) → length (line_of count p) ≤ 52
line_length count p = omega (arith, length_line count p, width_few count, words_length p)

module _ (f : ℕ → ℕ) where
  -- i lines, and then m lines
  pub card_split : (i m n : ℕ) → card_text f n (i + m) ≡ card_text f n i ++ card_text f (n - i) m
  unfolding card_text
  card_split zero m n =
      let none : 0 + m ≡ m = omega arith in
      let all : n - 0 ≡ n = omega arith in
      ap₂ (card_text f) (sym all) none
  card_split (suc i) m n =
      let less : n - 1 - i ≡ n - suc i = omega arith in
      ap (card_text f n) (suc-add i m)
      ∙ ap (λ (l : List ℕ). line_of n (f n) ++ l) (card_split i m (n - 1) ∙ ap (λ (j : ℕ). card_text f (n - 1) i ++ card_text f j m) less)
      ∙ sym (append_assoc (line_of n (f n)) (card_text f (n - 1) i) (card_text f (n - suc i) m))

  -- one line more
  pub card_more : (i n : ℕ) → card_text f n (i + 1) ≡ card_text f n i ++ line_of (n - i) (f (n - i))
  unfolding card_text
  card_more i n = card_split i 1 n ∙ ap (λ (l : List ℕ). card_text f n i ++ l) (append-nil (line_of (n - i) (f (n - i))))

  -- the lines before the i-th, that line, and the rest
  pub card_line : (i k n : ℕ) → i < k → card_text f n k ≡ card_text f n i ++ line_of (n - i) (f (n - i)) ++ card_text f (n - i - 1) (k - i - 1)
  unfolding card_text
  card_line i k n h =
      let parts : k ≡ i + suc (k - i - 1) = omega arith in
      ap (card_text f n) parts ∙ card_split i (suc (k - i - 1)) n
      ∙ sym (append_assoc (card_text f n i) (line_of (n - i) (f (n - i))) (card_text f (n - i - 1) (k - i - 1)))

  -- a line fits where all the lines do
  pub card_room : (i k n : ℕ) → i < k → length (card_text f n i) + length (line_of (n - i) (f (n - i))) ≤ length (card_text f n k)
  card_room i k n h =
      omega (arith, simp length-append at (ap length (card_line i k n h)))

  pub card_length : (k n : ℕ) → length (card_text f n k) ≤ 52 * k
  unfolding card_text
  card_length zero n = omega arith
  card_length (suc k) n = rw length-append (omega (arith, line_length n (f n), card_length k (n - 1)))

-- cards with the same password at each of their counts are the same
pub card_same : (f g : ℕ → ℕ) (k n : ℕ) → k ≤ n → ((count : ℕ) → n < count + k → count ≤ n → f count ≡ g count) → card_text f n k ≡ card_text g n k
unfolding card_text
card_same f g zero n h e = refl
card_same f g (suc k) n h e =
    ap₂ (λ (p : ℕ) (l : List ℕ). line_of n p ++ l) (e n (omega arith) (omega arith))
    (card_same f g k (n - 1) (omega arith) (λ count a b. e count (omega arith) (omega arith)))
