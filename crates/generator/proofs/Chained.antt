-- The chain from the password at count 0 gives the password at every count.
use Prim.Native.Nat.{ℕ, zero, suc}
use mathlib.Core.Path.{◌≡◌, refl, ap}
use mathlib.Core.List.{List}
use Rattle.password.specs.declared.algorithm.Algorithm.{Algorithm}
use Rattle.password.specs.Password.{hash, bytes_of, password}
use Rattle.generator.specs.Inside.{chained}

pub chained-password : (algorithm : Algorithm) (phrase seed : List ℕ) (n : ℕ)
    → chained algorithm n (password algorithm phrase seed 0) ≡ password algorithm phrase seed n
unfolding chained password
chained-password algorithm phrase seed zero = refl
chained-password algorithm phrase seed (suc n) =
    ap (λ (p : ℕ). hash algorithm (bytes_of p)) (chained-password algorithm phrase seed n)
