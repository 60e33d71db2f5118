-- Each line of a card holds the generator's password, which its hex and its words read as.
use Rattle.std.specs.Prelude.{ℕ, ◌-◌, ◌<◌, ◌≡◌, List, [], ◌∷◌, ◌++◌, Ok}
use Rattle.std.proofs.Math.Path.{sym}
use Rattle.std.proofs.Common.{◌∙◌, arith}
use Rattle.password.specs.Algorithm.{algorithm_number}
use Rattle.password.specs.Password.{password, generated}
use Rattle.password.specs.Laws.{generated_numbered}
use Rattle.password.specs.Bounds.{password_bound}
use Rattle.hex_text.specs.Hex.{hex_of}
use Rattle.sixwords.specs.Spelling.{words_of}
use Rattle.reply.specs.Reply.{reading_of}
use Rattle.text.specs.Counts.{decimal_of}
use Rattle.challenge.specs.Challenges.{challenge_of, algorithm_of, seed_of}
use Rattle.cards.specs.CardLines.{line_of, card_text}
use Rattle.cards.specs.CardLineLaws.{card_line}
use Rattle.cards.specs.CardChecks.{count_of, card_checked}
use Rattle.cards.specs.Cards.{card_of}
use Rattle.cards.specs.Laws.{card_generated}
use Rattle.readback.specs.ReplyRead.{hex_written_read, words_read}

module _ (phrase challenge : List ℕ) (k : ℕ) (e : card_checked phrase challenge k ≡ Ok tt) where
  -- Each line's count with its words or its hex, read as a reply, is the password that the generator gives at that
  -- count by the challenge's algorithm: the card is the i lines before, the line for the count n - i, and the lines after.
  pub card_lines : (i : ℕ) → i < k →
      let algorithm = algorithm_of (challenge_of challenge) in
      let n = count_of (challenge_of challenge) in
      let password_at = password algorithm phrase (seed_of challenge) in
      let p = password_at (n - i) in
      (card_of phrase challenge k
      ≡ card_text password_at n i
      ++ (decimal_of (n - i) ++ 32 ∷ [] ++ hex_of p ++ 32 ∷ [] ++ words_of p ++ 10 ∷ [])
      ++ card_text password_at (n - i - 1) (k - i - 1))
      × (reading_of (hex_of p) ≡ generated (algorithm_number algorithm) phrase (seed_of challenge) (n - i))
      × (reading_of (words_of p) ≡ generated (algorithm_number algorithm) phrase (seed_of challenge) (n - i))
  unfolding card_of line_of
  card_lines i h =
      let algorithm = algorithm_of (challenge_of challenge) in
      let n = count_of (challenge_of challenge) in
      let password_at = password algorithm phrase (seed_of challenge) in
      let small = password_bound algorithm phrase (seed_of challenge) (n - i) in
      let there =
      sym (generated_numbered algorithm phrase (seed_of challenge) (n - i)
      ∙ card_generated phrase challenge k e algorithm (n - i) (omega arith)) in (
        card_line password_at i k n h,
        hex_written_read (password_at (n - i)) small ∙ there,
        words_read (password_at (n - i)) small ∙ there,
      )
