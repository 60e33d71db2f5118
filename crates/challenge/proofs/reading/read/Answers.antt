-- `read` meets its promise: steps 1 to 3 from left to right, then the seed's.
use Rattle.std.proofs.Common.{◌≡◌, sym, ap, ap₂, ◌∙◌, ◌+◌, true, Some, Err, ℕ, List, Bor, take, drop}
use Rattle.refusal.specs.Laws.{missing, present, passed_on}
use Rattle.text.specs.Digits.{number_of}
use Rattle.text.specs.Kinds.{is_blank}
use Rattle.text.specs.Scan.{run_of}
use Rattle.text.specs.Tests.{same}
use Rattle.password.specs.Algorithm.{named}
use Rattle.text.specs.Counts.{is_count, counted_of}
use Rattle.text.specs.CountLaws.{is_read, is_unread}
use Rattle.challenge.specs.Challenges.{opening, token_at, end_of, next_at, count_at, seed_at}
use Rattle.challenge.specs.Inside.{seed_from}
use Rattle.challenge.specs.Laws.{opened_long, stop1, stop2, stop3, from_seed}
use Rattle.challenge.proofs.reading.read.Goals as goal
use Rattle.challenge.proofs.reading.read.Goals.{After-read_name, After-read_count, Else-not-is_opened, In_ok-algorithm, In_ok-count}

opened : (c : Else-not-is_opened) → same (take 4 c.args.text.now) opening ≡ true
opened c = sym c.is_opened.ensures ∙ c.if-not-is_opened.false

name : (c : After-read_name) → c.read_name.result ≡ named (token_at c.args.text.now 4)
name c = c.read_name.ensures ∙ ap named c.token_and_end.ensures.0

known : (c : In_ok-algorithm) → named (token_at c.args.text.now 4) ≡ Some c.in_ok-algorithm.algorithm
known c = sym (c.read_name.ensures ∙ ap named c.token_and_end.ensures.0) ∙ present _ _ _ (sym c.ok_or.ensures.value ∙ c.in_ok-algorithm.was)

-- past the blanks from where a token ends
abbrev past : Bor (List ℕ) → ℕ → ℕ
past t k = k + run_of is_blank (drop k t.now)

counted : (c : After-read_count) → c.read_count.result ≡ counted_of (token_at c.args.text.now (count_at c.args.text.now))
unfolding count_at next_at
counted c =
    let name_end = c.token_and_end.ensures in
    let there = c.past_blanks.ensures in
    c.read_count.ensures ∙ ap counted_of (c.token_and_end-2.ensures.0
    ∙ ap₂ (λ (t : Bor (List ℕ)) (k : ℕ). token_at t.now k) (there.0 ∙ name_end.1) (there.1 ∙ ap₂ past name_end.1 name_end.2))

good_count : (c : In_ok-count) → (is_count (token_at c.args.text.now (count_at c.args.text.now)) ≡ true)
    × (number_of 10 (token_at c.args.text.now (count_at c.args.text.now)) ≡ c.in_ok-count.count)
unfolding count_at next_at
good_count c =
    let name_end = c.token_and_end.ensures in
    let there = c.past_blanks.ensures in
    let said = c.read_count.ensures ∙ ap counted_of (c.token_and_end-2.ensures.0
    ∙ ap₂ (λ (t : Bor (List ℕ)) (k : ℕ). token_at t.now k) (there.0 ∙ name_end.1) (there.1 ∙ ap₂ past name_end.1 name_end.2)) in
    is_read _ _ (sym said ∙ present _ _ _ (sym c.ok_or-2.ensures.value ∙ c.in_ok-count.was))

pub returns-then-not-is_opened : goal.returns-then-not-is_opened
returns-then-not-is_opened c = sym (stop1 _ (sym c.is_opened.ensures ∙ c.if-not-is_opened.true))

pub invariant_of-name_at : goal.invariant_of-name_at
invariant_of-name_at c = record { within = opened_long c.args.text.now (opened (goal.at.invariant_of-name_at c).Else-not-is_opened) }

pub returns-in_err-algorithm : goal.returns-in_err-algorithm
returns-in_err-algorithm c =
    let none = missing _ _ _ (sym c.ok_or.ensures.value ∙ c.in_err-algorithm.was) in
    passed_on _ _ c.from_residual.ensures.1
    ∙ ap Err (sym none.1)
    ∙ sym (stop2 c.args.text.now (opened (goal.at.returns-in_err-algorithm c).Else-not-is_opened)
    (sym (name (goal.at.returns-in_err-algorithm c).After-read_name) ∙ none.0))

pub returns-in_err-count : goal.returns-in_err-count
returns-in_err-count c =
    let none = missing _ _ _ (sym c.ok_or-2.ensures.value ∙ c.in_err-count.was) in
    passed_on _ _ c.from_residual-in_err-count.ensures.1
    ∙ ap Err (sym none.1)
    ∙ sym (stop3 c.args.text.now (opened (goal.at.returns-in_err-count c).Else-not-is_opened) c.in_ok-algorithm.algorithm
    (known (goal.at.returns-in_err-count c).In_ok-algorithm)
    (is_unread _ (sym (counted (goal.at.returns-in_err-count c).After-read_count) ∙ none.0)))

pub returns : goal.returns
unfolding count_at seed_at next_at
returns c =
    let text = c.args.text.now in
    let name_end = c.token_and_end.ensures in
    let there = c.past_blanks.ensures in
    let in_text = there.0 ∙ name_end.1 in
    let count_end = c.token_and_end-2.ensures in
    c.seed_from.ensures
    ∙ ap₂ (λ (t : Bor (List ℕ)) (k : ℕ). seed_from t.now c.in_ok-algorithm.algorithm c.in_ok-count.count k)
    (c.past_blanks-2.ensures.0 ∙ count_end.1 ∙ in_text)
    (c.past_blanks-2.ensures.1
    ∙ ap₂ past (count_end.1 ∙ in_text)
    (count_end.2 ∙ ap₂ (λ (t : Bor (List ℕ)) (k : ℕ). end_of t.now k) in_text (there.1 ∙ ap₂ past name_end.1 name_end.2)))
    ∙ sym (from_seed text (opened (goal.at.returns c).Else-not-is_opened) c.in_ok-algorithm.algorithm (known (goal.at.returns c).In_ok-algorithm)
    (good_count (goal.at.returns c).In_ok-count).0 _ (good_count (goal.at.returns c).In_ok-count).1)
