-- `read_hex` meets its promise. The loop's invariant: the whole reads as the digits passed and what is left.
use Rattle.std.proofs.Common.{◌≡◌, ◌≤◌, ◌<◌, ◌^◌, drop}
use Rattle.text.specs.Scan.{unspaced}
use Rattle.hex_text.specs.Hex.{hex_reading}
use Rattle.hex_text.specs.Inside.{hex_after}
use Rattle.hex_text.proofs.read_hex.Given as goal

abbrev pub invariant-loop-b : goal.invariant-loop-b
invariant-loop-b l =
    (l.n ≤ 16)
    × (l.value < 16 ^ l.n)
    × (hex_reading (unspaced l.s) ≡ hex_after l.n l.value (unspaced (drop l.b-index l.s)))
