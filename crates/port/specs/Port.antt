-- What becomes of a port's own record: document 01, 'Table, ports and turns'.
use Rattle.std.specs.Prelude.{◌+◌, ◌-◌, cond, leb}
use Rattle.refusal.specs.declared.Refusal.{Refusal}
use Rattle.port.specs.declared.Port.{Port}

-- A wrong reply at a port: "its wrong run grows by 1, answer 61; at 3 the run is cleared, shut ticks become 900, answer 62".
abbrev pub wrongly : Port → Port
wrongly p = cond (leb 3 (p.wrong + 1)) (record { wrong = 0; shut = 900 }) (record { wrong = p.wrong + 1; shut = p.shut })

abbrev pub wrong_answer : Port → Refusal
wrong_answer p = cond (leb 3 (p.wrong + 1)) Refusal.ReplyWrongThird Refusal.ReplyWrong

-- A right one: "clear the port's wrong run".
abbrev pub rightly : Port → Port
rightly p = record { wrong = 0; shut = p.shut }

-- Tick: "each shut count above 0 falls by 1".
abbrev pub cooled : Port → Port
cooled p = record { wrong = p.wrong; shut = p.shut - 1 }
