-- What is printed, from what the card writer answers in a buffer with room for the largest card.
use Rattle.std.specs.Prelude.{Ok, Err}
use Prim.Native.Nat.{ℕ, ◌≤◌, ◌<◌}
use mathlib.Core.Path.{◌≡◌, refl, ◌∙◌, ap}
use mathlib.Core.Bool.{Bool, cond}
use mathlib.Core.List.{List}
use native.Mathlib.Omega.{arith}
use lib.ListN.{length}
use borrow.Author.Tests.{le-leb, lt-ltb, le-ltb}
use Rattle.refusal.specs.declared.Refusal.{Refusal}
use Rattle.refusal.specs.Answers.{Checked}
use Rattle.refusal.specs.Checks.{unless}
use Rattle.text.specs.Put.{Put, written_of, leaves}
use Rattle.cards.specs.CardChecks.{card_checked}
use Rattle.cards.specs.Cards.{card_of, card_written}
use Rattle.cards.specs.Printed.{first_line, kept_line, past_line, lines_asked, refused_text, printed, printed_card, answer_of}
use Rattle.cards.specs.Laws.{largest_card}

module _ (phrase challenge : List ℕ) (k : ℕ) where
  -- the writer's answer by what the checks find
  answered : (c : Checked) → card_checked phrase challenge k ≡ c
      → card_written phrase challenge k 5148 ≡ unless Err c (Ok (length (card_of phrase challenge k)))
  unfolding card_written
  answered (Ok _) e =
      ap (λ (c : Checked). unless Err c (written_of 5148 (card_of phrase challenge k))) e
      ∙ ap (λ (t : Bool). cond t (Ok (length (card_of phrase challenge k))) (Err Refusal.BufferShort))
      (le-leb (length (card_of phrase challenge k)) 5148 (largest_card phrase challenge k e))
  answered (Err why) e = ap (λ (c : Checked). unless Err c (written_of 5148 (card_of phrase challenge k))) e

  -- the card that was written
  pub wrote_card : (n : ℕ) (b b' : List ℕ) → Ok n ≡ card_written phrase challenge k 5148 → b'
      ≡ leaves (Ok n) (card_of phrase challenge k) b
      → Put (printed_card phrase challenge k) b b' n
  unfolding printed_card
  wrote_card n b b' e l = by (card_checked phrase challenge k) refl
    where
      by : (c : Checked) → card_checked phrase challenge k ≡ c → Put (printed c (card_of phrase challenge k)) b b' n
      by (Ok _) f =
          let same = e ∙ answered (Ok tt) f in
          let count : n ≡ length (card_of phrase challenge k) = cc in
          (count, l)
      by (Err why) f =
          let same = e ∙ answered (Err why) f in
          let z : ◌≡◌ {A = ℕ} 0 1 = cc in
          absurd (omega arith)

  -- the refusal that is printed in its place
  pub refused_card : (why : Refusal) → Err why ≡ card_written phrase challenge k 5148 → refused_text why ≡ printed_card phrase challenge k
  unfolding printed_card
  refused_card why e = by (card_checked phrase challenge k) refl
    where
      by : (c : Checked) → card_checked phrase challenge k ≡ c → refused_text why ≡ printed c (card_of phrase challenge k)
      by (Ok _) f =
          let same = e ∙ answered (Ok tt) f in
          let z : ◌≡◌ {A = ℕ} 0 1 = cc in
          absurd (omega arith)
      by (Err other) f =
          let same = e ∙ answered (Err other) f in
          let one : why ≡ other = cc in
          ap refused_text one

pub long_input : (input : List ℕ) → 256 < length input → refused_text Refusal.InputLong ≡ answer_of input
unfolding answer_of
long_input input h = rw (lt-ltb 256 (length input) h)

pub short_input : (input : List ℕ) → length input ≤ 256
    → printed_card (first_line input) (kept_line (past_line input)) (lines_asked (first_line (past_line (past_line input)))) ≡ answer_of input
unfolding answer_of
short_input input h = rw (le-ltb 256 (length input) h)
