-- `count_in` meets its promise: by whether the word is a count, which has four digits at most.
use Rattle.std.specs.Prelude.{Option, Some, None}
use Rattle.std.specs.Option.{unwrap_or}
use Prim.Native.Nat.{ℕ, ◌≤◌}
use mathlib.Core.Path.{◌≡◌, refl, ◌∙◌, ap}
use mathlib.Core.Bool.{Bool, true, false, cond}
use mathlib.Core.List.{List}
use native.Mathlib.Omega.{arith}
use Rattle.text.specs.Digits.{number_of}
use Rattle.text.specs.Counts.{is_count, counted_of}
use Rattle.text.specs.CountLaws.{count_low}
use Rattle.text.specs.Tests.{either}
use Rattle.extended.specs.Parameters.{count_in}
use Rattle.extended.proofs.parameters.count_in.Goals as goal
use Rattle.extended.proofs.parameters.count_in.Goals.{After-unwrap_or}

counts : (t : List ℕ) (r : Option ℕ) → r ≡ counted_of t → unwrap_or r 0 ≡ count_in t
counts t r e = ap (λ (found : Option ℕ). unwrap_or found 0) e ∙ by (is_count t)
  where
    by : (b : Bool) → unwrap_or (cond b (Some (number_of 10 t)) None) 0 ≡ cond b (number_of 10 t) 0
    by true = refl
    by false = refl

low : (t : List ℕ) → count_in t ≤ 9999
low t = either (λ (n : ℕ). n ≤ 9999) (is_count t) (λ e. count_low t e) (λ e. omega arith)

known : (c : After-unwrap_or) → c.unwrap_or.result ≡ count_in c.args.word.now
known c = c.unwrap_or.ensures ∙ counts c.args.word.now _ c.read_count.ensures

pub overflow_cast-result : goal.overflow_cast-result
overflow_cast-result c = omega (arith, known (goal.at.overflow_cast-result c).After-unwrap_or, low c.args.word.now)

pub returns : goal.returns
returns c = known (goal.at.returns c).After-unwrap_or
