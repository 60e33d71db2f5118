-- A helper definition of private functions: nothing outside this crate rests on it.
use Rattle.std.specs.Prelude.{ℕ, zero, suc}
use Rattle.password.specs.declared.algorithm.Algorithm.{Algorithm}
use Rattle.password.specs.Password.{hash, bytes_of}

-- The password n counts up from p.
unfoldable pub chained : Algorithm → ℕ → ℕ → ℕ
chained algorithm zero p = p
chained algorithm (suc n) p = hash algorithm (bytes_of (chained algorithm n p))
