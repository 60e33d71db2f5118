-- `type_numbered` meets its promise. The loop's invariant: none of the types so far has that number.
use Rattle.std.proofs.Common.{◌≡◌, drop, eqb}
use Rattle.extended.specs.ReplyTypes.{type_number, type_numbered}
use Rattle.extended.specs.Inside.{first_of}
use Rattle.extended.specs.declared.reply_types.TheConstants.{TYPES}
use Rattle.extended.proofs.reply_types.type_numbered.Given as goal

abbrev pub invariant-loop-kind : goal.invariant-loop-kind
invariant-loop-kind l = first_of (λ kind. eqb l.number (type_number kind)) (drop l.kind-index TYPES) ≡ type_numbered l.number
