-- `read_type` meets its promise. The loop's invariant: none of the types so far has that name.
use Rattle.std.proofs.Common.{◌≡◌, drop}
use Rattle.text.specs.Tests.{same}
use Rattle.extended.specs.ReplyTypes.{type_name, typed}
use Rattle.extended.specs.Inside.{first_of}
use Rattle.extended.specs.declared.reply_types.TheConstants.{TYPES}
use Rattle.extended.proofs.reply_types.read_type.Given as goal

abbrev pub invariant-loop-kind : goal.invariant-loop-kind
invariant-loop-kind l = first_of (λ kind. same l.name (type_name kind)) (drop l.kind-index TYPES) ≡ typed l.name
