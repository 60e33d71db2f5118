-- What the program `card` prints goes by its rows.
use Rattle.std.specs.Prelude.{ℕ, zero, suc, ◌-◌, ◌≤◌, ◌≡◌, ◌↔◌, Bool, true, false, cond, List, [], ◌∷◌, ◌++◌, ltb, length, get_or, Ok, Err}
use Rattle.std.proofs.Common.{arith, sym, ◌∙◌, true≢false}
use Rattle.std.proofs.Math.Path.{refl, ap, subst}
use Rattle.std.proofs.lemmas.List.{append_cancel_left, append_cancel_right}
use Rattle.refusal.specs.declared.Refusal.{Refusal}
use Rattle.refusal.specs.Answers.{Checked}
use Rattle.text.specs.Kinds.{is_digit}
use Rattle.text.specs.Tests.{every, both}
use Rattle.text.specs.Digits.{number_of}
use Rattle.text.specs.Quoted.{codes}
use Rattle.text.specs.Counts.{width_of, decimal_of}
use Rattle.text.specs.CountLaws.{width_few, length_decimal}
use Rattle.readback.specs.CountRead.{digits_decimal, decimal_number}
use Rattle.hex_text.specs.Hex.{hex_of}
use Rattle.sixwords.specs.Spelling.{words_of}
use Rattle.cards.specs.CardLines.{line_of, card_text}
use Rattle.cards.specs.CardChecks.{card_checked}
use Rattle.cards.specs.Cards.{card_of}
use Rattle.cards.specs.Printed.{first_line, kept_line, past_line, lines_asked, refused_text, printed, printed_card, answer_of}
use Rattle.grounds.specs.Conditions.{NoneHolds, FirstHolds, program_rows, refused_with, card_asked}
use Rattle.grounds.specs.Exactly.{listed_as, number_bounds, Follows, refused_first, first_refused, good_none, none_good, otherwise}
use Rattle.grounds.specs.Refusing.{card_rows_lem}

-- ---- no card reads `refused`, and no two numbers are printed alike

-- A card begins with a digit, if with anything.
card_digit : (password_at : ℕ → ℕ) (n k : ℕ) → is_digit (get_or (card_text password_at n k) 0 48) ≡ true
unfolding card_text line_of every
card_digit password_at n zero = refl
card_digit password_at n (suc k) =
    let long = (width_few n).0 in
    go (decimal_of n) (digits_decimal (width_of n) n) (omega (arith, length_decimal n))
  where
    p : ℕ
    p = password_at n

    go : (l : List ℕ) → every is_digit l ≡ true → 1 ≤ length l
        → is_digit (get_or (l ++ 32 ∷ [] ++ hex_of p ++ 32 ∷ [] ++ words_of p ++ 10 ∷ [] ++ card_text password_at (n - 1) k) 0 48) ≡ true
    go [] e h = absurd (omega arith)
    go (d ∷ l) e h = (both (is_digit d) (every is_digit l) e).0

not_card : (n : ℕ) (password_at : ℕ → ℕ) (count k : ℕ) → card_text password_at count k ≡ refused_with n → ⊥
unfolding codes
not_card n password_at count k e =
    true≢false (sym (card_digit password_at count k) ∙ ap (λ (text : List ℕ). is_digit (get_or text 0 48)) e)

one_number : (m n : ℕ) → m ≤ 9999 → n ≤ 9999 → refused_with m ≡ refused_with n → m ≡ n
one_number m n h g e =
    sym (decimal_number m h)
    ∙ ap (number_of 10)
    (append_cancel_left (codes "refused ") (decimal_of m) (decimal_of n)
    (append_cancel_right (codes "refused " ++ decimal_of m) (codes "refused " ++ decimal_of n) (10 ∷ []) e))
    ∙ decimal_number n g

-- ---- what is printed

module _ (input : List ℕ) where
  -- The program's checks.
  abbrev input_checked : Checked
  input_checked =
      cond (ltb 256 (length input)) (Err Refusal.InputLong)
      (card_checked (first_line input) (kept_line (past_line input)) (lines_asked (first_line (past_line (past_line input)))))

  input_rows : Follows input_checked (program_rows input)
  input_rows =
      otherwise (λ (c : Checked). c) Err (λ why. refl) (ltb 256 (length input)) Refusal.InputLong _ _
      (card_rows_lem (first_line input) (kept_line (past_line input)) (lines_asked (first_line (past_line (past_line input)))))

  answer_printed : answer_of input ≡ printed input_checked (card_asked input)
  unfolding answer_of printed_card
  answer_printed = go (ltb 256 (length input))
    where
      rest : Checked
      rest = card_checked (first_line input) (kept_line (past_line input)) (lines_asked (first_line (past_line (past_line input))))

      go : (t : Bool) → cond t (refused_text Refusal.InputLong) (printed rest (card_asked input))
          ≡ printed (cond t (Err Refusal.InputLong) rest) (card_asked input)
      go true = refl
      go false = refl

  pub refused_printed : (n : ℕ) → n ≤ 9999 → (answer_of input ≡ refused_with n) ↔ FirstHolds n (program_rows input)
  unfolding refused_text card_of
  refused_printed n h = (
    λ e. there input_checked refl (sym answer_printed ∙ e),
    λ first.
        let why = first_refused input_checked (program_rows input) input_rows n first in
        answer_printed ∙ ap (λ (c : Checked). printed c (card_asked input)) why.1 ∙ ap refused_with why.2,
  )
    where
      there : (c : Checked) → input_checked ≡ c → printed c (card_asked input) ≡ refused_with n → FirstHolds n (program_rows input)
      there (Ok _) g e = absurd (not_card n _ _ _ e)
      there (Err why) g e =
          subst (λ (m : ℕ). FirstHolds m (program_rows input)) (one_number (listed_as why) n (number_bounds why).1 h e)
          (refused_first input_checked (program_rows input) input_rows why g)

  pub card_printed : (answer_of input ≡ card_asked input) ↔ NoneHolds (program_rows input)
  unfolding refused_text card_of
  card_printed = (
    λ e. there input_checked refl (sym answer_printed ∙ e),
    λ none. answer_printed ∙ ap (λ (c : Checked). printed c (card_asked input)) (none_good input_checked (program_rows input) input_rows none),
  )
    where
      there : (c : Checked) → input_checked ≡ c → printed c (card_asked input) ≡ card_asked input → NoneHolds (program_rows input)
      there (Ok _) g e = good_none input_checked (program_rows input) input_rows g
      there (Err why) g e = absurd (not_card (listed_as why) _ _ _ (sym e))
