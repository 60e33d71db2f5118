-- `tick` meets its promise: the first records are a tick later.
use Rattle.std.proofs.Common.{◌≡◌, ◌++◌, map, length, take, drop}
use Rattle.port.specs.Port.{cooled}
use Rattle.login.proofs.ticking.tick.Given as goal

abbrev pub invariant-loop-port : goal.invariant-loop-port
invariant-loop-port l =
    (length l.port-items ≡ 4) × (l.port-items ≡ map cooled (take l.port-index l.fn.table.ports) ++ drop l.port-index l.fn.table.ports)
