-- `write_by` meets its promise: the checks in their order, then the text.
use Rattle.std.specs.Prelude.{Ok, Err}
use borrow.Author.Tests.{lt-ltb, le-ltb, lt-leb, le-leb}
use Prim.Native.Nat.{ℕ, ◌+◌, ◌≤◌, ◌<◌}
use mathlib.Core.Path.{◌≡◌, refl, sym, ◌∙◌, ap}
use mathlib.Core.Bool.{Bool}
use mathlib.Core.List.{List}
use native.Mathlib.Omega.{arith}
use lib.ListN.{length}
use Rattle.refusal.specs.declared.Refusal.{Refusal}
use Rattle.refusal.specs.Laws.{passed_on}
use Rattle.text.specs.Put.{written_of}
use Rattle.text.specs.PutLaws.{refused_leaves}
use Rattle.password.specs.declared.algorithm.Algorithm.{Algorithm}
use Rattle.password.specs.Algorithm.{algorithm_name}
use Rattle.password.specs.PhraseAndSeed.{seed_checked}
use Rattle.text.specs.Counts.{width_of}
use Rattle.challenge.specs.Challenges.{ending, challenge_text, challenge_written_by}
use Rattle.text.specs.CountLaws.{width_few}
use Rattle.challenge.specs.Laws.{ending_few, length_challenge}
use Rattle.challenge.proofs.writing.write_by.Goals as goal
use Rattle.challenge.proofs.writing.write_by.Goals.{After-ending_length, After-width, In_ok-check_seed}

module _ (ext : Bool) (algorithm : Algorithm) (seed : List ℕ) (count room : ℕ) where
  refused_seed : (why : Refusal) → seed_checked seed ≡ Err why → Err why ≡ challenge_written_by ext algorithm seed count room
  unfolding challenge_written_by
  refused_seed why e = rw e

  module _ (e : seed_checked seed ≡ Ok tt) where
    refused_count : 9999 < count → Err Refusal.CountHigh ≡ challenge_written_by ext algorithm seed count room
    unfolding challenge_written_by
    refused_count h = rw (e, lt-ltb 9999 count h)

    then_written : count ≤ 9999 → challenge_written_by ext algorithm seed count room ≡ written_of room (challenge_text ext algorithm seed count)
    unfolding challenge_written_by
    then_written h = rw (e, le-ltb 9999 count h)

    short : count ≤ 9999 → room < length (algorithm_name algorithm) + width_of count + length seed + length (ending ext) + 6
        → Err Refusal.BufferShort ≡ challenge_written_by ext algorithm seed count room
    short h g = sym (then_written h ∙ rw (lt-leb (length (challenge_text ext algorithm seed count)) room (rw length_challenge g)))

    fits : (n : ℕ) → count ≤ 9999 → length (algorithm_name algorithm) + width_of count + length seed + length (ending ext) + 6 ≤ room
        → n ≡ length (challenge_text ext algorithm seed count) → Ok n ≡ challenge_written_by ext algorithm seed count room
    fits n h g p = ap Ok p ∙ sym (then_written h ∙ rw (le-leb (length (challenge_text ext algorithm seed count)) room (rw length_challenge g)))

seed_good : (c : In_ok-check_seed) → seed_checked c.args.seed.now ≡ Ok tt
seed_good c = sym c.check_seed.ensures ∙ c.in_ok-check_seed.was

width_small : (c : After-width) → c.width.result ≤ 4
width_small c = omega (arith, c.width.ensures, (width_few c.args.count).1)

small : (c : After-ending_length) → c.ending_length.result ≤ 5
small c = rw c.ending_length.ensures (ending_few c.args.ext)

pub returns-in_err-check_seed : goal.returns-in_err-check_seed
returns-in_err-check_seed c =
    let refused = passed_on _ _ c.from_residual.ensures.1 in record {
      answered = refused ∙ refused_seed _ _ _ _ _ _ (sym c.check_seed.ensures ∙ c.in_err-check_seed.was);
      left = refused_leaves _ _ _ _ refused;
    }

pub returns-then-count-gt9999 : goal.returns-then-count-gt9999
returns-then-count-gt9999 c =
    record { answered = refused_count _ _ _ _ _ (seed_good (goal.at.returns-then-count-gt9999 c).In_ok-check_seed) c.if-count-gt9999.true; left = refl }

pub overflow_add-name_length-3 : goal.overflow_add-name_length-3
overflow_add-name_length-3 c = omega (
  arith,
  small (goal.at.overflow_add-name_length-3 c).After-ending_length,
  width_small (goal.at.overflow_add-name_length-3 c).After-width,
  c.name_length.ensures.1,
)

pub overflow_add-name_length-4 : goal.overflow_add-name_length-4
overflow_add-name_length-4 c = omega (
  arith,
  small (goal.at.overflow_add-name_length-4 c).After-ending_length,
  width_small (goal.at.overflow_add-name_length-4 c).After-width,
  c.name_length.ensures.1,
)

pub returns-then-buf-name_length : goal.returns-then-buf-name_length
returns-then-buf-name_length c =
    let a = c.args in record {
      answered = short a.ext a.algorithm a.seed.now a.count (length a.buf.now) (seed_good (goal.at.returns-then-buf-name_length c).In_ok-check_seed)
          c.if-count-gt9999.false (omega (arith, c.name_length.ensures.0, c.width.ensures, c.ending_length.ensures, c.if-buf-name_length.true));
      left = refl;
    }

pub returns : goal.returns
returns c =
    let a = c.args in record {
      answered = fits a.ext a.algorithm a.seed.now a.count (length a.buf.now) (seed_good (goal.at.returns c).In_ok-check_seed) _
          c.if-count-gt9999.false
          (omega (arith, c.name_length.ensures.0, c.width.ensures, c.ending_length.ensures, c.if-buf-name_length.false))
          c.put_challenge.ensures.0;
      left = c.put_challenge.ensures.1;
    }
