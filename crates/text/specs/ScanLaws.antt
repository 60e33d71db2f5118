-- Laws of runs and tokens.
use Rattle.std.specs.List.{prefix_len, take_while}
use Rattle.std.specs.Prelude.{ℕ, suc, ◌+◌, ◌-◌, ◌≤◌, ◌<◌, ◌≡◌, refl, Bool, true, false, cond, not, ◌&&◌, List, [], ◌∷◌, ◌++◌, length, get_or, take, drop, eqb}
use Rattle.std.proofs.Common.{zero-le, suc-le-suc, sym, ◌∙◌, ap, ap₂, append-nil, arith, add-one}
use Rattle.std.proofs.Common.{one-add, length-take, length-drop, drop_of_length-le, leb, leb-true, leb-false, min, take_all}
use Rattle.std.proofs.Common.{length-take-le, drop-cons}
use Rattle.std.proofs.Math.Seq.{append_snoc, take-length, drop-length, take-append_seam, drop-append_seam}
use Rattle.std.proofs.lemmas.List.Folds.{length-prefix_len}
use Rattle.std.proofs.Math.Dec.{eqb-suc-suc, eqb-zero-suc}
use Rattle.std.proofs.lemmas.Bool.{not-true}
use Rattle.text.specs.Tests.{every, cases, either, both}
use Rattle.text.specs.Kinds.{is_white, is_solid}
use Rattle.text.specs.Scan.{run_of, stretch, piece, parted, tokens, unspaced}

-- a run past the end is empty
pub run_past : (test : ℕ → Bool) (s : List ℕ) (i : ℕ) → length s ≤ i → run_of test (drop i s) ≡ 0
unfolding run_of
run_past test s i h = ap (run_of test) (drop_of_length-le s h)

-- a byte that passes the test makes the run one longer
pub run_goes_on : (test : ℕ → Bool) (s : List ℕ) (i : ℕ) → i < length s → test (get_or s i 0) ≡ true → run_of test (drop i s)
    ≡ suc (run_of test (drop (i + 1) s))
unfolding run_of
run_goes_on test s i h e = rw (drop-cons s i 0, e, add-one)

-- a byte that fails it ends the run
pub run_ends : (test : ℕ → Bool) (s : List ℕ) (i : ℕ) → i < length s → test (get_or s i 0) ≡ false → run_of test (drop i s) ≡ 0
unfolding run_of
run_ends test s i h e = rw (drop-cons s i 0, e)

-- a run stays within the text
pub run_within : (test : ℕ → Bool) (s : List ℕ) → run_of test s ≤ length s
unfolding run_of
run_within test [] = zero-le
run_within test (b ∷ s) = either (λ (n : ℕ). n ≤ suc (length s)) (test b) (λ e. suc-le-suc (run_within test s)) (λ e. zero-le)

-- a run from within the text ends within it
pub run_ends_within : (test : ℕ → Bool) (s : List ℕ) (at : ℕ) → at ≤ length s → at + run_of test (drop at s) ≤ length s
run_ends_within test s at h = omega (arith, run_within test (drop at s), length-drop at s)

-- a stretch is as long as its run
pub stretch-length : (test : ℕ → Bool) (s : List ℕ) (at : ℕ) → length (stretch test s at) ≡ run_of test (drop at s)
stretch-length test s at = length-take-le (run_of test (drop at s)) (drop at s) (run_within test (drop at s))

-- each byte of a run passes the test
pub run_every : (test : ℕ → Bool) (s : List ℕ) → every test (take (run_of test s) s) ≡ true
unfolding run_of every
run_every test [] = refl
run_every test (b ∷ s) =
    either (λ (n : ℕ). every test (take n (b ∷ s)) ≡ true) (test b)
    (λ e. ap₂ (λ (t u : Bool). t && u) e (run_every test s))
    (λ e. refl)

-- white space before a text is passed over
pub tokens_white : (s : List ℕ) → tokens s ≡ tokens (drop (run_of is_white s) s)
unfolding run_of parted
tokens_white [] = refl
tokens_white (b ∷ s) = go (tokens_white s) (is_white b) refl
  where
    go : tokens s ≡ tokens (drop (run_of is_white s) s) → (t : Bool) → is_white b ≡ t →
        cond t (parted [] s) (parted (b ∷ []) s) ≡ tokens (drop (cond t (suc (run_of is_white s)) 0) (b ∷ s))
    go ih true e = ih
    go ih false e = sym (ap (λ (t : Bool). cond t (parted [] s) (parted (b ∷ []) s)) e)

-- the bytes already met and the run of solid bytes make a token
pub parted_run : (met s : List ℕ) → parted met s ≡ piece (met ++ take (run_of is_solid s) s) ++ tokens (drop (run_of is_solid s) s)
unfolding run_of parted
parted_run met [] = sym (append-nil (piece (met ++ [])) ∙ ap piece (append-nil met))
parted_run met (b ∷ s) = go (parted_run (met ++ b ∷ []) s) (is_white b) refl
  where
    n : ℕ
    n = run_of is_solid s

    go : parted (met ++ b ∷ []) s ≡ piece (met ++ b ∷ [] ++ take n s) ++ tokens (drop n s) → (t : Bool) → is_white b ≡ t →
        cond t (piece met ++ parted [] s) (parted (met ++ b ∷ []) s) ≡
        piece (met ++ take (cond (not t) (suc n) 0) (b ∷ s)) ++ tokens (drop (cond (not t) (suc n) 0) (b ∷ s))
    go ih true e =
        ap₂ (λ (l : List ℕ) (ts : List (List ℕ)). piece l ++ ts) (sym (append-nil met))
        (sym (ap (λ (t : Bool). cond t (parted [] s) (parted (b ∷ []) s)) e))
    go ih false e = ih ∙ ap (λ (l : List ℕ). piece l ++ tokens (drop n s)) (append_snoc met b (take n s))

-- a text is its first run of solid bytes, if any, and the tokens after it
pub tokens_run : (s : List ℕ) → tokens s ≡ piece (take (run_of is_solid s) s) ++ tokens (drop (run_of is_solid s) s)
tokens_run s = parted_run [] s

-- what lies past white space starts with a token
pub solid_after : (s : List ℕ) → run_of is_white s < length s → 0 < run_of is_solid (drop (run_of is_white s) s)
unfolding run_of
solid_after [] h = h
solid_after (b ∷ s) h = go (solid_after s) (is_white b) refl h
  where
    go : (run_of is_white s < length s → 0 < run_of is_solid (drop (run_of is_white s) s)) → (t : Bool) → is_white b ≡ t →
        cond t (suc (run_of is_white s)) 0 < suc (length s) → 0 < run_of is_solid (drop (cond t (suc (run_of is_white s)) 0) (b ∷ s))
    go ih true e l = ih (omega arith)
    go ih false e l = rw e (omega arith)

-- a text of white space has no token
pub tokens_none : (s : List ℕ) → length s ≤ run_of is_white s → tokens s ≡ []
unfolding parted
tokens_none s h = tokens_white s ∙ ap tokens (drop_of_length-le s h)

-- and any other has one
pub tokens_some : (s : List ℕ) → run_of is_white s < length s → 0 < length (tokens s)
tokens_some s h =
    let rest = drop (run_of is_white s) s in
    rw (tokens_white s, tokens_run rest)
    (piece_some (take (run_of is_solid rest) rest) (tokens (drop (run_of is_solid rest) rest))
    (simp length-take (omega (arith, solid_after s h, run_within is_solid rest))))
  where
    piece_some : (t : List ℕ) (ts : List (List ℕ)) → 0 < length t → 0 < length (piece t ++ ts)
    piece_some [] ts h = absurd (omega arith)
    piece_some (b ∷ t) ts h = omega arith

-- a run that nothing ends
pub run_all : (test : ℕ → Bool) (s : List ℕ) → every test s ≡ true → run_of test s ≡ length s
unfolding run_of every
run_all test [] e = refl
run_all test (b ∷ s) e =
    let halves = both (test b) (every test s) e in
    ap (λ (t : Bool). cond t (suc (run_of test s)) 0) halves.0 ∙ ap suc (run_all test s halves.1)

-- a run that the byte b ends
pub run_until : (test : ℕ → Bool) (s : List ℕ) (b : ℕ) (rest : List ℕ) → every test s ≡ true → test b ≡ false → run_of test (s ++ b ∷ rest) ≡ length s
unfolding run_of every
run_until test [] b rest e f = ap (λ (t : Bool). cond t (suc (run_of test rest)) 0) f
run_until test (a ∷ s) b rest e f =
    let halves = both (test a) (every test s) e in
    ap (λ (t : Bool). cond t (suc (run_of test (s ++ b ∷ rest))) 0) halves.0 ∙ ap suc (run_until test s b rest halves.1 f)

-- a piece that is not empty, before others
pub piece_cons : (t : List ℕ) (ts : List (List ℕ)) → 0 < length t → piece t ++ ts ≡ t ∷ ts
piece_cons [] ts h = absurd (omega arith)
piece_cons (b ∷ t) ts h = refl

-- solid bytes alone are one token
pub tokens_one : (s : List ℕ) → every is_solid s ≡ true → 0 < length s → tokens s ≡ s ∷ []
unfolding parted
tokens_one s e h =
    tokens_run s
    ∙ ap (λ (n : ℕ). piece (take n s) ++ tokens (drop n s)) (run_all is_solid s e)
    ∙ ap₂ (λ (l r : List ℕ). piece l ++ tokens r) (take-length s) (drop-length s)
    ∙ piece_cons s [] h

-- solid bytes before a space are the first token
pub tokens_space : (s rest : List ℕ) → every is_solid s ≡ true → 0 < length s → tokens (s ++ 32 ∷ rest) ≡ s ∷ tokens rest
unfolding parted
tokens_space s rest e h =
    tokens_run (s ++ 32 ∷ rest)
    ∙ ap (λ (n : ℕ). piece (take n (s ++ 32 ∷ rest)) ++ tokens (drop n (s ++ 32 ∷ rest))) (run_until is_solid s 32 rest e refl)
    ∙ ap₂ (λ (l r : List ℕ). piece l ++ tokens r) (take-append_seam s (32 ∷ rest)) (drop-append_seam s (32 ∷ rest))
    ∙ piece_cons s (tokens rest) h

-- without white space nothing is left out
pub unspaced_solid : (s : List ℕ) → every is_solid s ≡ true → unspaced s ≡ s
unfolding unspaced every
unspaced_solid [] e = refl
unspaced_solid (b ∷ s) e =
    let halves = both (is_solid b) (every is_solid s) e in
    ap (λ (t : Bool). cond t (unspaced s) (b ∷ unspaced s)) (not-true (is_white b) halves.0)
    ∙ ap (λ (l : List ℕ). b ∷ l) (unspaced_solid s halves.1)

-- a test holds of each byte exactly if its run goes to the end
pub run_whole : (test : ℕ → Bool) (s : List ℕ) → eqb (run_of test s) (length s) ≡ every test s
unfolding run_of every
run_whole test [] = refl
run_whole test (b ∷ s) = one_more (test b) (every test s) (run_of test s) (length s) (run_whole test s)
  where
    one_more : (t p : Bool) (n m : ℕ) → eqb n m ≡ p → eqb (cond t (suc n) 0) (suc m) ≡ (t && p)
    one_more true p n m e = eqb-suc-suc n m ∙ e
    one_more false p n m e = eqb-zero-suc m

-- a run is as long as what the library takes while the test passes
run_prefix : (test : ℕ → Bool) (s : List ℕ) → run_of test s ≡ prefix_len test s
unfolding run_of
run_prefix test [] = refl
run_prefix test (b ∷ s) = rw one-add (ap (λ (n : ℕ). cond (test b) (suc n) 0) (run_prefix test s))

pub run_taken : (test : ℕ → Bool) (s : List ℕ) → length (take_while test s) ≡ run_of test s
run_taken test s = length-prefix_len test s ∙ sym (run_prefix test s)

-- what lies from a place on, or from the end if that comes first
pub rest_least : (s : List ℕ) (at k : ℕ) → k ≡ min at (length s) → take (length s - k) (drop k s) ≡ drop at s
rest_least s at k e =
    take_all (length s - k) (drop k s) (simp length-drop (omega arith))
    ∙ cases (leb at (length s))
    (λ t. let within = leb-true at (length s) t in let same : k ≡ at = omega arith in ap (λ (n : ℕ). drop n s) same)
    (λ t. let past = leb-false at (length s) t in drop_of_length-le s (omega arith) ∙ sym (drop_of_length-le s (omega arith)))
