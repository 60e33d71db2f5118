-- What a digest function answers.
use Rattle.std.specs.Prelude.{ℕ, cond, List, length, nat_lt, Err}
use Rattle.refusal.specs.declared.Refusal.{Refusal}
use Rattle.refusal.specs.Answers.{Written}
use Rattle.text.specs.Put.{written_of}

-- 01, From pass-phrase to password: "MD5 takes 0 to 4,096 bytes", and SHA-1 likewise; Refusal numbers, 12, then 40.
-- The answer on a message m and a buffer of `room` bytes, where `digest` gives a message's digest.
abbrev pub digest_of : (List ℕ → List ℕ) → List ℕ → ℕ → Written
digest_of digest m room = cond (nat_lt 4096 (length m)) (Err Refusal.InputLong) (written_of room (digest m))
