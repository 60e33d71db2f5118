-- `lines_asked` meets its promise: a count of one or two digits.
use Rattle.std.specs.Prelude.{Option, Some, None}
use Rattle.std.specs.Option.{unwrap_or}
use borrow.Author.Tests.{le-leb, lt-leb}
use Prim.Native.Nat.{ℕ, ◌≤◌, ◌<◌}
use mathlib.Core.Path.{◌≡◌, sym, ◌∙◌, ap}
use mathlib.Core.Bool.{Bool, cond}
use mathlib.Core.List.{List}
use lib.Dec.{leb}
use lib.ListN.{length}
use Rattle.text.specs.Digits.{number_of}
use Rattle.text.specs.Tests.{second_fails}
use Rattle.text.specs.Counts.{is_count, counted_of}
use Rattle.text.specs.CountLaws.{is_read, is_unread}
use Rattle.cards.specs.Printed.{lines_asked}
use Rattle.cards.proofs.printed.lines_asked.Goals as goal

long : (t : List ℕ) → 2 < length t → 0 ≡ lines_asked t
unfolding lines_asked
long t h = rw (lt-leb (length t) 2 h)

unread : (t : List ℕ) → counted_of t ≡ None → 0 ≡ lines_asked t
unfolding lines_asked
unread t e = sym (ap (λ (b : Bool). cond b (number_of 10 t) 0) (second_fails (leb (length t) 2) (is_count t) (is_unread t e)))

asked : (t : List ℕ) (k : ℕ) → length t ≤ 2 → counted_of t ≡ Some k → k ≡ lines_asked t
unfolding lines_asked
asked t k h e = let read = is_read t k e in rw (le-leb (length t) 2 h, read.0) (sym read.1)

pub returns-then-t-gt2 : goal.returns-then-t-gt2
returns-then-t-gt2 c = long c.args.t.now c.if-t-gt2.true

said : (t : List ℕ) → length t ≤ 2 → (found : Option ℕ) → counted_of t ≡ found → unwrap_or found 0 ≡ lines_asked t
said t h None e = unread t e
said t h (Some k) e = asked t k h e

pub returns : goal.returns
returns c = c.unwrap_or.ensures ∙ said c.args.t.now c.if-t-gt2.false _ (sym c.read_count.ensures)
