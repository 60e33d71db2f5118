-- `put_tail` meets its promise: one part after the other, each into the rest.
use Rattle.std.proofs.Common.{◌≡◌, ℕ, ◌+◌, ◌-◌, ◌≤◌, List, [], ◌∷◌, ◌++◌, length, ap, subst, ◌∙◌, arith, append_assoc, length-append}
use borrow.Rule.Slice.PartMut.{mid_of}
use Rattle.text.specs.Put.{Put}
use Rattle.text.specs.PutLaws.{then_put, length_front, length_rest_lent}
use Rattle.text.specs.Counts.{decimal_of}
use Rattle.text.specs.CountLaws.{length_count, width_few}
use Rattle.password.specs.declared.algorithm.Algorithm.{Algorithm}
use Rattle.password.specs.Algorithm.{algorithm_name}
use Rattle.password.specs.AlgorithmLaws.{name_few}
use Rattle.extended.specs.declared.reply_types.ReplyType.{ReplyType}
use Rattle.extended.specs.ReplyWriting.{password_text, values_text, tail_text}
use Rattle.extended.proofs.reply_writer.put_tail.Goals as goal

-- what is left behind a text
room : (t b b' : List ℕ) (n k : ℕ) → Put t b b' n → length t + k ≤ length b → k ≤ length (mid_of n (length b' - n) b')
room t b b' n k p h = omega (arith, length_rest_lent n b', p.0, ap length p.1 ∙ length_front t b (omega arith))

put_same : (t u b b' : List ℕ) (n : ℕ) → t ≡ u → Put t b b' n → Put u b b' n
put_same t u b b' n e p = subst (λ (l : List ℕ). Put l b b' n) e p

abbrev named : Algorithm → List ℕ
named algorithm = (58 ∷ []) ++ (algorithm_name algorithm ++ 32 ∷ [])

abbrev counted : Algorithm → ℕ → List ℕ
counted algorithm count = named algorithm ++ (decimal_of count ++ 32 ∷ [])

abbrev seeded : Algorithm → ℕ → List ℕ → List ℕ
seeded algorithm count seed = counted algorithm count ++ (seed ++ 58 ∷ [])

length_counted : (algorithm : Algorithm) (count : ℕ) → length (counted algorithm count) ≤ 11
length_counted algorithm count =
    simp length-append (omega (arith, name_few algorithm, length_count count 32, width_few count, length-append (decimal_of count) (32 ∷ [])))

parts : (kind : ReplyType) (algorithm : Algorithm) (count : ℕ) (seed : List ℕ) (new : ℕ)
    → seeded algorithm count seed ++ password_text kind new ≡ tail_text kind algorithm count seed new
unfolding tail_text values_text
parts kind algorithm count seed new = simp append_assoc

pub put_name-requires : goal.put_name-requires
put_name-requires c = room (58 ∷ []) c.args.buf.now _ _ _ c.copy-a.ensures (omega (arith, name_few c.args.renewal.now.algorithm))

pub put_count_and-requires : goal.put_count_and-requires
put_count_and-requires c =
    let algorithm = c.args.renewal.now.algorithm in
    let count = c.args.renewal.now.count in
    room (named algorithm) c.args.buf.now _ _ _
    (then_put (58 ∷ []) (algorithm_name algorithm ++ 32 ∷ []) c.args.buf.now _ _ _ _ c.copy-a.ensures c.put_name.ensures)
    (simp length-append (omega (arith, name_few algorithm, width_few count)))

pub copy_and-requires : goal.copy_and-requires
copy_and-requires c =
    let r = c.args.renewal.now in
    room (counted r.algorithm r.count) c.args.buf.now _ _ _
    (then_put (named r.algorithm) (decimal_of r.count ++ 32 ∷ []) c.args.buf.now _ _ _ _
    (then_put (58 ∷ []) (algorithm_name r.algorithm ++ 32 ∷ []) c.args.buf.now _ _ _ _ c.copy-a.ensures c.put_name.ensures)
    c.put_count_and.ensures)
    (omega (arith, length_counted r.algorithm r.count, r.short))

pub put_password-requires : goal.put_password-requires
put_password-requires c =
    let r = c.args.renewal.now in
    room (seeded r.algorithm r.count r.seed.now) c.args.buf.now _ _ _
    (then_put (counted r.algorithm r.count) (r.seed.now ++ 58 ∷ []) c.args.buf.now _ _ _ _
    (then_put (named r.algorithm) (decimal_of r.count ++ 32 ∷ []) c.args.buf.now _ _ _ _
    (then_put (58 ∷ []) (algorithm_name r.algorithm ++ 32 ∷ []) c.args.buf.now _ _ _ _ c.copy-a.ensures c.put_name.ensures)
    c.put_count_and.ensures)
    c.copy_and.ensures)
    (omega (
      arith,
      length-append (counted r.algorithm r.count) (r.seed.now ++ 58 ∷ []),
      length-append r.seed.now (58 ∷ []),
      length_counted r.algorithm r.count,
      r.short,
    ))

pub returns : goal.returns
returns c =
    let r = c.args.renewal.now in
    put_same _ _ c.args.buf.now _ _ (parts c.args.kind r.algorithm r.count r.seed.now r.new)
    (then_put (seeded r.algorithm r.count r.seed.now) (password_text c.args.kind r.new) c.args.buf.now _ _ _ _
    (then_put (counted r.algorithm r.count) (r.seed.now ++ 58 ∷ []) c.args.buf.now _ _ _ _
    (then_put (named r.algorithm) (decimal_of r.count ++ 32 ∷ []) c.args.buf.now _ _ _ _
    (then_put (58 ∷ []) (algorithm_name r.algorithm ++ 32 ∷ []) c.args.buf.now _ _ _ _ c.copy-a.ensures c.put_name.ensures)
    c.put_count_and.ensures)
    c.copy_and.ensures)
    c.put_password.ensures)
