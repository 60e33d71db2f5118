-- `read_hex` meets its promise: each byte is white space, a digit more, or what ends the reading.
use Rattle.std.proofs.Common.{◌≡◌, ◌+◌, ◌*◌, ◌∷◌, sym, ◌∙◌, ap, arith, drop, get_or}
use Rattle.text.specs.Scan.{unspaced}
use Rattle.text.specs.DigitLaws.{found_some}
use Rattle.hex_text.specs.Hex.{hex_reading}
use Rattle.hex_text.specs.Inside.{hex_after}
use Rattle.hex_text.proofs.HexDigits.{hex_grows, sixteen_fit, white_byte, solid_byte, hex_start, hex_digit, hex_other, hex_long, hex_end, hex_short, none_left}
use Rattle.hex_text.proofs.read_hex.Goals as goal
use Rattle.hex_text.proofs.read_hex.Goals.{After-digit_value}

pub loop-b-init : goal.loop-b-init
loop-b-init c = (omega arith, omega arith, hex_start (unspaced c.args.s.now))

pub loop-b-preserved-then-is_white : goal.loop-b-preserved-then-is_white
loop-b-preserved-then-is_white c =
    let at = c.loop-b in (
      at.invariant.0,
      at.invariant.1,
      at.invariant.2
          ∙ ap (hex_after at.n at.value) (white_byte c.args.s.now at.b-index c.loop-b-test.true (sym c.is_white.ensures ∙ c.if-is_white.true)),
    )

-- the byte that is looked at, and those after it
solid : (c : After-digit_value) → hex_reading (unspaced c.args.s.now)
    ≡ hex_after c.loop-b.n c.loop-b.value (get_or c.args.s.now c.loop-b.b-index 0 ∷ unspaced (drop (c.loop-b.b-index + 1) c.args.s.now))
solid c =
    c.loop-b.invariant.2 ∙ ap (hex_after c.loop-b.n c.loop-b.value)
    (solid_byte c.args.s.now c.loop-b.b-index c.loop-b-test.true (sym c.is_white.ensures ∙ c.if-is_white.false))

pub returns-in_default : goal.returns-in_default
returns-in_default c =
    sym (solid (goal.at.returns-in_default c).After-digit_value
    ∙ hex_other c.loop-b.n c.loop-b.value _ (unspaced (drop (c.loop-b.b-index + 1) c.args.s.now)) (sym c.digit_value.ensures ∙ c.in_default.is))

pub returns-then-n-eq16 : goal.returns-then-n-eq16
returns-then-n-eq16 c =
    sym (solid (goal.at.returns-then-n-eq16 c).After-digit_value
    ∙ hex_long c.loop-b.n c.loop-b.value _ (unspaced (drop (c.loop-b.b-index + 1) c.args.s.now)) c.if-n-eq16.true)

pub overflow_mul-value : goal.overflow_mul-value
overflow_mul-value c =
    let at = c.loop-b in
    omega (arith, sixteen_fit (at.value * 16 + 0) (at.n + 1) (hex_grows at.value 0 at.n at.invariant.1 (omega arith)) (omega arith))

pub overflow_add-value : goal.overflow_add-value
overflow_add-value c =
    let at = c.loop-b in
    let small = found_some (get_or c.args.s.now at.b-index 0) c.in-Some.d (sym c.digit_value.ensures ∙ c.in-Some.is) in
    omega (arith, sixteen_fit (at.value * 16 + c.in-Some.d) (at.n + 1) (hex_grows at.value c.in-Some.d at.n at.invariant.1 small.1) (omega arith))

pub loop-b-preserved : goal.loop-b-preserved
loop-b-preserved c =
    let at = c.loop-b in
    let read = sym c.digit_value.ensures ∙ c.in-Some.is in
    let b = get_or c.args.s.now at.b-index 0 in
    let more = hex_digit at.n at.value b c.in-Some.d (unspaced (drop (at.b-index + 1) c.args.s.now)) read in (
      omega arith,
      rw c.from.ensures (hex_grows at.value c.in-Some.d at.n at.invariant.1 (found_some b c.in-Some.d read).1),
      rw c.from.ensures (solid (goal.at.loop-b-preserved c).After-digit_value ∙ more),
    )

pub returns-then-n-eq16-2 : goal.returns-then-n-eq16-2
returns-then-n-eq16-2 c =
    let at = c.loop-b in
    sym (at.invariant.2 ∙ ap (hex_after at.n at.value) (none_left c.args.s.now at.b-index c.loop-b-test.false)
    ∙ hex_end at.n at.value c.if-n-eq16-2.true)

pub returns : goal.returns
returns c =
    let at = c.loop-b in
    sym (at.invariant.2 ∙ ap (hex_after at.n at.value) (none_left c.args.s.now at.b-index c.loop-b-test.false)
    ∙ hex_short at.n at.value c.if-n-eq16-2.false)
