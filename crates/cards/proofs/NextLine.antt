-- The lines of a card one after the other: what the next adds, where `i` stand before it and `count` is its count.
use Rattle.std.proofs.Common.{◌≡◌, ℕ, ◌+◌, ◌-◌, ◌≤◌, ◌<◌, List, ◌++◌, length, get_or, ap, ap₂, ◌∙◌, arith, length-append}
use Rattle.sixwords.specs.Spelling.{words_of}
use Rattle.text.specs.Counts.{width_of}
use Rattle.cards.specs.CardLines.{line_of, card_text, at}
use Rattle.cards.specs.CardLineLaws.{length_line, card_more, card_room}

module _ (ps : List ℕ) (top i count : ℕ) (e : count + i ≡ top) where
  line : line_of (top - i) (at ps top (top - i)) ≡ line_of count (get_or ps i 0)
  line =
      let its : top - i ≡ count = omega arith in
      let back : top - (top - i) ≡ i = omega arith in
      ap₂ (λ (n j : ℕ). line_of n (get_or ps j 0)) its back

  pub next_line : card_text (at ps top) top (i + 1) ≡ card_text (at ps top) top i ++ line_of count (get_or ps i 0)
  next_line = card_more (at ps top) i top ∙ ap (λ (l : List ℕ). card_text (at ps top) top i ++ l) line

  pub next_length : length (card_text (at ps top) top (i + 1))
      ≡ length (card_text (at ps top) top i) + (width_of count + length (words_of (get_or ps i 0)) + 19)
  next_length =
      ap length next_line ∙ length-append (card_text (at ps top) top i) (line_of count (get_or ps i 0))
      ∙ ap (λ (n : ℕ). length (card_text (at ps top) top i) + n) (length_line count (get_or ps i 0))

  pub next_room : (k : ℕ) → i < k
      → length (card_text (at ps top) top i) + (width_of count + length (words_of (get_or ps i 0)) + 19) ≤ length (card_text (at ps top) top k)
  next_room k h = omega (arith, card_room (at ps top) i k top h, ap length line, length_line count (get_or ps i 0))
