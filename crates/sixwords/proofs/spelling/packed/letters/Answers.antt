-- `letters` meets its promise.
use Rattle.std.proofs.Common.{arith, rules}
use Rattle.sixwords.proofs.spelling.PackedLetters.{one_letter, two_letters, three_letters, four_letters}
use Rattle.sixwords.proofs.spelling.packed.letters.Goals as goal

pub returns-in-0 : goal.returns-in-0
returns-in-0 c = one_letter c.args.bytes.now c.told-bytes (λ i. search rules) (omega arith) (omega arith)

pub returns-in-0-2 : goal.returns-in-0-2
returns-in-0-2 c = two_letters c.args.bytes.now c.told-bytes (λ i. search rules) (omega arith) (λ e. omega arith) (omega arith)

pub returns-in-0-3 : goal.returns-in-0-3
returns-in-0-3 c = three_letters c.args.bytes.now c.told-bytes (λ i. search rules) (omega arith) (λ e. omega arith) (λ e. omega arith)

pub returns-in_default : goal.returns-in_default
returns-in_default c = four_letters c.args.bytes.now c.told-bytes (λ i. search rules) (λ e. omega arith)
