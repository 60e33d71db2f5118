-- `name` meets its promise: by each arm the type's name.
use Rattle.std.proofs.Common.{ap, sym}
use Rattle.text.specs.Quoted.{codes}
use Rattle.extended.specs.ReplyTypes.{type_name}
use Rattle.extended.proofs.reply_types.ReplyType.name.Goals as goal

pub returns-in-Hex : goal.returns-in-Hex
unfolding type_name codes
returns-in-Hex c = ap type_name (sym c.in-Hex.is)

pub returns-in-Word : goal.returns-in-Word
unfolding type_name codes
returns-in-Word c = ap type_name (sym c.in-Word.is)

pub returns-in-InitHex : goal.returns-in-InitHex
unfolding type_name codes
returns-in-InitHex c = ap type_name (sym c.in-InitHex.is)

pub returns-in-InitWord : goal.returns-in-InitWord
unfolding type_name codes
returns-in-InitWord c = ap type_name (sym c.in-InitWord.is)
