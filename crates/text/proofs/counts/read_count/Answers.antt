-- `read_count` meets its promise: the tests of a count, and then its number.
use Rattle.std.specs.Prelude.{Some, None}
use Prim.Native.Nat.{ℕ, ◌≤◌, ◌<◌}
use mathlib.Core.Path.{◌≡◌, sym, ◌∙◌, ap}
use mathlib.Core.Bool.{true, false, not, ◌&&◌}
use mathlib.Core.List.{List}
use lib.Dec.{leb, eqb}
use lib.ListN.{length}
use borrow.Author.Tests.{le-leb, lt-leb}
use Rattle.text.specs.Kinds.{is_digit}
use Rattle.text.specs.Scan.{run_of}
use Rattle.text.specs.Digits.{number_of}
use Rattle.text.specs.ScanLaws.{run_whole}
use Rattle.text.specs.Counts.{leading_zero, is_count, counted_of}
use Rattle.text.specs.CountLaws.{count_digits}
use Rattle.text.proofs.counts.read_count.Goals as goal
use Rattle.text.proofs.counts.read_count.Goals.{Then-n-run}

tested : (t : List ℕ) (d : ℕ) → 1 ≤ length t → d ≡ run_of is_digit t → (leb (length t) 4 && eqb d (length t) && not (leading_zero t)) ≡ is_count t
unfolding is_count
tested t d h e = rw (e, run_whole is_digit t, le-leb 1 (length t) h)

counted : (t : List ℕ) (n : ℕ) → is_count t ≡ true → n ≡ number_of 10 t → Some n ≡ counted_of t
counted t n e f = rw e (ap Some f)

uncounted : (t : List ℕ) → is_count t ≡ false → None ≡ counted_of t
uncounted t e = rw e

empty : (t : List ℕ) → length t < 1 → is_count t ≡ false
unfolding is_count
empty t h = rw (lt-leb 1 (length t) h)

passed : (c : Then-n-run) → is_count c.args.t.now ≡ true
passed c = sym (tested _ _ c.if-n-lt1.false c.run.ensures) ∙ c.if-n-run.true

pub returns-then-n-lt1 : goal.returns-then-n-lt1
returns-then-n-lt1 c = uncounted _ (empty _ c.if-n-lt1.true)

pub number-requires : goal.number-requires
number-requires c = count_digits _ (passed (goal.at.number-requires c).Then-n-run)

pub returns-then-n-run : goal.returns-then-n-run
returns-then-n-run c = counted _ _ (passed (goal.at.returns-then-n-run c).Then-n-run) c.number.ensures

pub returns : goal.returns
returns c = uncounted _ (sym (tested _ _ c.if-n-lt1.false c.run.ensures) ∙ c.if-n-run.false)
