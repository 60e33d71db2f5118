-- `spell` meets its promise: each digit more is one of the text, from its end on.
use Rattle.std.specs.List.{range_with_len}
use Rattle.std.proofs.Common.{◌≡◌, refl, sym, ◌∙◌, ap, List, ◌++◌, ◌-◌, ◌+◌, ◌/◌, ◌%◌}
use Rattle.std.proofs.Common.{◌<◌, ℕ, arith, eqb, eqb-true, zero-add, mod-lt, get_or, drop, set, length-set}
use Rattle.std.proofs.lemmas.List.FromFn.{get_or-range_with_len}
use Rattle.text.specs.Digits.{digit_of, digits_of}
use Rattle.text.specs.Quoted.{codes}
use Rattle.text.specs.Tests.{every, every_at}
use Rattle.text.specs.DigitLaws.{length_digits, spelt}
use Rattle.text.proofs.put.spell.Goals as goal

-- the digits in a row: each at its own place
table : List ℕ
table = codes "0123456789abcdef"

shown : (d : ℕ) → d < 16 → digit_of d ≡ get_or table d 0
unfolding every codes table
shown d h =
    let same = λ (k : ℕ). eqb (digit_of k) (get_or table k 0) in
    let place : get_or (range_with_len 0 16) d 0 ≡ d = get_or-range_with_len 0 16 d 0 h ∙ zero-add d in
    eqb-true (digit_of d) (get_or table d 0) (ap same (sym place) ∙ every_at same (range_with_len 0 16) 0 refl d h)

pub loop-i-preserved : goal.loop-i-preserved
unfolding codes table
loop-i-preserved c =
    let base = c.args.base in
    let at = c.loop-i in
    let back : at.i ≡ at.i - 1 + 1 = omega arith in (
      simp length-set at.invariant.0,
      at.invariant.1
          ∙ ap (λ (k : ℕ). digits_of base k at.rest ++ drop k at.buf) back
          ∙ spelt base at.buf (at.i - 1) at.rest (omega arith)
          ∙ ap (λ (v : ℕ). digits_of base (at.i - 1) (at.rest / base) ++ drop (at.i - 1) (set at.buf (at.i - 1) v))
          (shown (at.rest % base) (omega (arith, mod-lt at.rest {m = base} (omega (arith, c.requires))))),
    )

pub returns : goal.returns
unfolding digits_of
returns c =
    let a = c.args in
    let at = c.loop-i in
    let long = length_digits a.base a.k a.n in
    let none : at.i ≡ 0 = omega arith in (
      sym long,
      sym (at.invariant.1 ∙ ap (λ (j : ℕ). digits_of a.base j at.rest ++ drop j at.buf) none)
          ∙ ap (λ (m : ℕ). digits_of a.base a.k a.n ++ drop m a.buf.now) (sym long),
    )
