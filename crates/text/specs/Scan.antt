-- How far bytes of one kind go, a stretch of them, and the tokens of a reply.
use Rattle.std.specs.Prelude.{ℕ, suc, eqb, Bool, cond, not, List, [], ◌∷◌, ◌++◌, take, drop}
use Rattle.text.specs.Kinds.{is_white}

-- how many bytes at the start of s, one after the other, pass the test
unfoldable pub run_of : (ℕ → Bool) → List ℕ → ℕ
run_of test [] = 0
run_of test (b ∷ s) = cond (test b) (suc (run_of test s)) 0

-- how many bytes stand in front of the first byte b of s, or as many as s has where there is none
abbrev pub index_of : ℕ → List ℕ → ℕ
index_of b s = run_of (λ c. not (eqb c b)) s

-- the bytes that pass the test, one after the other, from a place on
abbrev pub stretch : (ℕ → Bool) → List ℕ → ℕ → List ℕ
stretch test s at = take (run_of test (drop at s)) (drop at s)

-- a piece of a text, unless nothing is in it
abbrev pub piece : List ℕ → List (List ℕ)
piece [] = []
piece (b ∷ t) = (b ∷ t) ∷ []

-- the pieces that white space parts, with `met` the bytes already met of the first
unfoldable pub parted : List ℕ → List ℕ → List (List ℕ)
parted met [] = piece met
parted met (b ∷ s) = cond (is_white b) (piece met ++ parted [] s) (parted (met ++ b ∷ []) s)

-- 01, Six words and hex: the tokens of a reply, in order
abbrev pub tokens : List ℕ → List (List ℕ)
tokens s = parted [] s

-- 01, Six words and hex: "the bytes left without white space"
unfoldable pub unspaced : List ℕ → List ℕ
unspaced [] = []
unspaced (b ∷ s) = cond (is_white b) (unspaced s) (b ∷ unspaced s)
