-- What an offer answers: "the new count", or why there is none.
use Rattle.std.specs.Prelude.{ℕ, Result}
use Rattle.refusal.specs.declared.Refusal.{Refusal}

abbrev pub Replied : Type 0
Replied = Result ℕ Refusal
