-- `shift` meets its promise: each case is the formula of its round.
use Prim.Native.Nat.{ℕ, zero, suc, ◌+◌, ◌*◌, ◌%◌, ◌≤◌, ◌<◌}
use native.Mathlib.Omega.{arith}
use Rattle.md5_hash.specs.declared.round.Round.{Round}
use Rattle.md5_hash.specs.Formulas.{shift_in}
use Rattle.md5_hash.proofs.order_and_shift.shift.Goals as goal

product_small : (j : ℕ) → j < 4 → j * (j + 7) ≤ 30
product_small zero h = omega arith
product_small (suc zero) h = omega arith
product_small (suc (suc zero)) h = omega arith
product_small (suc (suc (suc zero))) h = omega arith
product_small (suc (suc (suc (suc j)))) h = omega arith

small : (step : ℕ) → step % 4 * (step % 4 + 7) ≤ 30
small step = product_small (step % 4) (omega arith)

pub returns-in-First : goal.returns-in-First
returns-in-First c = shift_in c.args.round Round.First c.args.step c.requires c.in-First.is

pub returns-in-Second : goal.returns-in-Second
returns-in-Second c = shift_in c.args.round Round.Second c.args.step c.requires c.in-Second.is

pub returns-in-Third : goal.returns-in-Third
returns-in-Third c = shift_in c.args.round Round.Third c.args.step c.requires c.in-Third.is

pub returns-in-Fourth : goal.returns-in-Fourth
returns-in-Fourth c = shift_in c.args.round Round.Fourth c.args.step c.requires c.in-Fourth.is
