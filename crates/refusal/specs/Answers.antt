-- The answers that several crates give over a refusal: a value, or what is wrong.
use Rattle.std.specs.Prelude.{ℕ, Result, ⊤}
use Rattle.refusal.specs.declared.Refusal.{Refusal}

-- Nothing wrong, or what is.
abbrev pub Checked : Type 0
Checked = Result ⊤ Refusal

-- A password as a number, first byte most significant, or why there is none.
abbrev pub Reading : Type 0
Reading = Result ℕ Refusal

-- How many bytes stand at the front of the lent buffer, or why none were written.
abbrev pub Written : Type 0
Written = Result ℕ Refusal
