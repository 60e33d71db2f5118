-- A text at the front of a lent buffer, and what a writer answers and leaves.
use Rattle.std.specs.Prelude.{ℕ, ◌≡◌, cond, List, ◌++◌, leb, length, drop, Ok, Err}
use Rattle.refusal.specs.declared.Refusal.{Refusal}
use Rattle.refusal.specs.Answers.{Written}

-- the buffer b with the text t at its front, and what lies past t as it was
abbrev pub front : List ℕ → List ℕ → List ℕ
front t b = t ++ drop (length t) b

-- t was put at the front of b, which left b', and n is the count of its bytes
abbrev pub Put : List ℕ → List ℕ → List ℕ → ℕ → Type 0
Put t b b' n = (n ≡ length t) × (b' ≡ front t b)

-- 01, Refusal numbers, 40: "buffer shorter than the text to be written"
abbrev pub written_of : ℕ → List ℕ → Written
written_of room t = cond (leb (length t) room) (Ok (length t)) (Err Refusal.BufferShort)

-- "A refusal changes no buffer"; "A writer touches only the bytes it reports"
abbrev pub leaves : Written → List ℕ → List ℕ → List ℕ
leaves (Ok n) t b = front t b
leaves (Err why) t b = b

-- the promise of a writer of t into the buffer b: it answers r and leaves b'
abbrev pub Writes : List ℕ → List ℕ → List ℕ → Written → Type 0
Writes t b b' r = (r ≡ written_of (length b) t) × (b' ≡ leaves r t b)
