-- `put_password` meets its promise: the hex and the space, then the words and the newline into the rest.
use Rattle.std.proofs.Common.{◌≡◌, ◌<◌, ◌-◌, ℕ, List, [], ◌∷◌, ◌++◌, length, length-append, arith, ap, ◌∙◌}
use borrow.Rule.Slice.PartMut.{mid_of}
use Rattle.text.specs.Put.{Put}
use Rattle.text.specs.PutLaws.{then_put, length_front, length_rest_lent}
use Rattle.hex_text.specs.Hex.{hex_of}
use Rattle.hex_text.specs.Laws.{hex_length}
use Rattle.sixwords.specs.Spelling.{words_of}
use Rattle.sixwords.specs.SpellingLaws.{words_length}
use Rattle.cards.proofs.card_lines.put_password.Goals as goal
use Rattle.cards.proofs.card_lines.put_password.Goals.{After-put_after-a}

hexed : (c : After-put_after-a) → Put (hex_of c.args.p ++ 32 ∷ []) c.args.buf.now c.put_after-a.new.buf c.put_after-a.result
hexed c = let a = c.args in c.put_after-a.ensures (hex_of a.p) a.buf.now (omega (arith, hex_length a.p)) c.write_hex-hex.ensures

-- sixteen digits and a space, and the buffer as long as before
seventeen : (c : After-put_after-a) → (c.put_after-a.result ≡ 17) × (length c.put_after-a.new.buf ≡ length c.args.buf.now)
seventeen c =
    let hex = length-append (hex_of c.args.p) (32 ∷ []) in (
      omega (arith, (hexed c).0, hex, hex_length c.args.p),
      ap length (hexed c).1 ∙ length_front (hex_of c.args.p ++ 32 ∷ []) c.args.buf.now (omega (arith, hex, hex_length c.args.p)),
    )

-- what is lent for the words, and one byte more than they take
abbrev rest : After-put_after-a → List ℕ
rest c = mid_of c.put_after-a.result (length c.put_after-a.new.buf - c.put_after-a.result) c.put_after-a.new.buf

room : (c : After-put_after-a) → length (words_of c.args.p) < length (rest c)
room c = omega (arith, seventeen c, length_rest_lent c.put_after-a.result c.put_after-a.new.buf, c.requires)

pub put_after-a-requires : goal.put_after-a-requires
put_after-a-requires c = let a = c.args in
    (hex_of a.p, a.buf.now, omega (arith, hex_length a.p), c.write_hex-hex.ensures)

pub slice_bounds-rest-count : goal.slice_bounds-rest-count
slice_bounds-rest-count c = omega (arith, seventeen (goal.at.slice_bounds-rest-count c).After-put_after-a)

pub slice_bounds-rest-start : goal.slice_bounds-rest-start
slice_bounds-rest-start c = omega (arith, seventeen (goal.at.slice_bounds-rest-start c).After-put_after-a)

pub put_after-requires : goal.put_after-requires
put_after-requires c =
    let hex = (goal.at.put_after-requires c).After-put_after-a in
    (words_of c.args.p, rest hex, room hex, c.write_words-words.ensures)

pub overflow_add-result : goal.overflow_add-result
overflow_add-result c =
    let p = c.args.p in
    let put = c.put_after.ensures (words_of p) (rest (goal.at.overflow_add-result c).After-put_after-a) (room (goal.at.overflow_add-result c).After-put_after-a)
    c.write_words-words.ensures in
    omega (arith, seventeen (goal.at.overflow_add-result c).After-put_after-a, put.0, length-append (words_of p) (10 ∷ []), words_length p)

pub returns : goal.returns
returns c =
    let a = c.args in
    then_put (hex_of a.p ++ 32 ∷ []) (words_of a.p ++ 10 ∷ []) a.buf.now c.put_after-a.new.buf c.put_after.new.buf c.put_after-a.result c.put_after.result
    (hexed (goal.at.returns c).After-put_after-a)
    (c.put_after.ensures (words_of a.p) (rest (goal.at.returns c).After-put_after-a) (room (goal.at.returns c).After-put_after-a) c.write_words-words.ensures)
