-- A password is below 2 ^ 64: eight bytes.
use Rattle.std.specs.Prelude.{ℕ, zero, suc, ◌%◌, ◌^◌, ◌<◌, List, [], ◌∷◌, ◌++◌, map}
use Rattle.std.proofs.Common.{sym, subst, mod-lt, arith}
use Rattle.std.specs.Int.Bits.{bit_xor}
use Rattle.digests.specs.declared.Order.{Order}
use Rattle.digests.specs.Words32.{bytes4}
use Rattle.digests.specs.Md5.{registers, md5}
use Rattle.digests.specs.Sha1.{hash_value}
use Rattle.text.specs.Kinds.{lower_of}
use Rattle.password.specs.declared.algorithm.Algorithm.{Algorithm}
use Rattle.password.specs.Password.{fold_words, number_after, number_of, bytes_of, hash, password}
use Rattle.password.specs.FoldLaws.{fold_words_lem}

eight_small : (b₀ b₁ b₂ b₃ b₄ b₅ b₆ b₇ : ℕ)
    → b₀ < 256 → b₁ < 256 → b₂ < 256 → b₃ < 256 → b₄ < 256 → b₅ < 256 → b₆ < 256 → b₇ < 256
    → number_of (b₀ ∷ b₁ ∷ b₂ ∷ b₃ ∷ b₄ ∷ b₅ ∷ b₆ ∷ b₇ ∷ []) < 2 ^ 64
unfolding number_after
eight_small b₀ b₁ b₂ b₃ b₄ b₅ b₆ b₇ h₀ h₁ h₂ h₃ h₄ h₅ h₆ h₇ = omega arith

byte : (n : ℕ) → n % 256 < 256
byte n = mod-lt n {m = 256} (omega arith)

two_words : (x y : ℕ) → number_of (bytes4 Order.Little x ++ bytes4 Order.Little y) < 2 ^ 64
two_words x y = eight_small _ _ _ _ _ _ _ _ (byte _) (byte _) (byte _) (byte _) (byte _) (byte _) (byte _) (byte _)

pub hash_bound : (algorithm : Algorithm) (m : List ℕ) → hash algorithm m < 2 ^ 64
unfolding hash md5 fold_words
hash_bound Algorithm.Md5 m =
    let q = registers m in
    subst (λ (bytes : List ℕ). number_of bytes < 2 ^ 64) (sym (fold_words_lem q.a q.b q.c q.d))
    (two_words (bit_xor q.a q.c) (bit_xor q.b q.d))
hash_bound Algorithm.Sha1 m =
    let h = hash_value m in
    two_words (bit_xor (bit_xor h.a h.c) h.e) (bit_xor h.b h.d)

pub password_bound : (algorithm : Algorithm) (phrase seed : List ℕ) (n : ℕ) → password algorithm phrase seed n < 2 ^ 64
unfolding password
password_bound algorithm phrase seed zero = hash_bound algorithm (map lower_of seed ++ phrase)
password_bound algorithm phrase seed (suc n) = hash_bound algorithm (bytes_of (password algorithm phrase seed n))
