-- Laws of a text at the front of a buffer: two texts one after the other, and a text that grows byte by byte.
use Rattle.std.specs.Prelude.{ℕ, suc, ◌+◌, ◌-◌, ◌≤◌, ◌<◌, ◌≡◌, refl, List, [], ◌∷◌, ◌++◌}
use Rattle.std.specs.Prelude.{length, get_or, take, drop, set, Bool, true, false, cond, leb, Ok, Err}
use Rattle.std.proofs.Common.{sym, ◌∙◌, ap, ap₂, append_assoc, append-nil, arith, add-one, length-append, length-drop, drop_of_length-le, take_all, take_at}
use Rattle.std.proofs.Common.{drop_at, drop-drop, drop-cons, take-suc, length-take-le, le-leb}
use Rattle.std.proofs.lemmas.List.{set_at}
use Rattle.std.proofs.Math.Seq.{append_snoc}
use borrow.Rule.Slice.PartMut.{mid_of, put_mid}
use Rattle.std.proofs.lemmas.Bool.{lt-leb}
use Rattle.refusal.specs.declared.Refusal.{Refusal}
use Rattle.refusal.specs.Answers.{Written}
use Rattle.text.specs.Put.{front, Put, Writes, leaves}

-- a refusal leaves the buffer as it was
pub refused_leaves : (answer : Written) (why : Refusal) (t b : List ℕ) → answer ≡ Err why → b ≡ leaves answer t b
refused_leaves answer why t b e = sym (ap (λ (w : Written). leaves w t b) e)

pub length_front : (t b : List ℕ) → length t ≤ length b → length (front t b) ≡ length b
length_front t b h = simp (length-append, length-drop) (omega arith)

-- a text at the front lies within the buffer: a rule for `omega`, which then knows of each writer's count that it is within what was lent
pub front_within : (t b b' : List ℕ) → b' ≡ front t b → length t ≤ length b'
front_within t b b' e = omega (arith, simp (length-append, length-drop) at (ap length e))

-- past a text at the front lies what lay there before
pub drop-front : (t b : List ℕ) → drop (length t) (front t b) ≡ drop (length t) b
drop-front t b = drop_at t (drop (length t) b) (length t) refl

-- a text at the front, then another at the front of the rest, is both at the front
pub front-front : (t u b : List ℕ) → t ++ front u (drop (length t) b) ≡ front (t ++ u) b
front-front t u b = sym (append_assoc t u _) ∙ ap (λ (l : List ℕ). (t ++ u) ++ l) (drop-drop (length u) (length t) b
    ∙ ap (λ (n : ℕ). drop n b) (sym (length-append t u)))

-- the part from n on, lent as `&mut b[n..]`, is what lies past n
pub rest_lent : (n : ℕ) (b : List ℕ) → mid_of n (length b - n) b ≡ drop n b
rest_lent n b = take_all (length b - n) (drop n b) (simp length-drop (omega arith))

pub length_rest_lent : (n : ℕ) (b : List ℕ) → length (mid_of n (length b - n) b) ≡ length b - n
length_rest_lent n b = ap length (rest_lent n b) ∙ length-drop n b

-- and it comes back past n
pub rest_back : (n : ℕ) (b ys : List ℕ) → put_mid n (length b - n) b ys ≡ take n b ++ ys
rest_back n b ys =
    ap (λ (l : List ℕ). take n b ++ (ys ++ l)) (drop_of_length-le (drop n b) {i = length b - n} (simp length-drop (omega arith)))
    ∙ ap (λ (l : List ℕ). take n b ++ l) (append-nil ys)

-- the same for the counts: t, then u into the rest that is lent, is both
pub then_put : (t u b b₁ ys : List ℕ) (n m : ℕ) → Put t b b₁ n → Put u (mid_of n (length b₁ - n) b₁) ys m
    → Put (t ++ u) b (put_mid n (length b₁ - n) b₁ ys) (n + m)
then_put t u b b₁ ys n m p q =
    (simp length-append (omega (arith, p.0, q.0)), rest_back n b₁ ys ∙ ap₂ (λ (l r : List ℕ). l ++ r) kept put ∙ front-front t u b)
  where
    kept : take n b₁ ≡ t
    kept = ap₂ (λ (k : ℕ) (l : List ℕ). take k l) p.0 p.1 ∙ take_at t (drop (length t) b) (length t) refl

    put : ys ≡ front u (drop (length t) b)
    put =
        q.1
        ∙ ap (front u) (rest_lent n b₁ ∙ ap₂ (λ (k : ℕ) (l : List ℕ). drop k l) p.0 p.1 ∙ drop-front t b)

-- a text at the front, then one byte past it
pub then_byte : (t b b₁ : List ℕ) (n x : ℕ) → n < length b₁ → Put t b b₁ n → Put (t ++ x ∷ []) b (set b₁ n x) (n + 1)
then_byte t b b₁ n x h p = (
  simp length-append (omega (arith, p.0)),
  ap₂ (λ (l : List ℕ) (k : ℕ). set l k x) p.1 p.0
      ∙ ap (λ (l : List ℕ). set (t ++ l) (length t) x) (drop-cons b (length t) 0 (omega (arith, p.0, longer)))
      ∙ set_at t (get_or b (length t) 0) (drop (suc (length t)) b) x (length t) refl
      ∙ sym (append_snoc t x (drop (suc (length t)) b))
      ∙ ap (λ (k : ℕ). (t ++ x ∷ []) ++ drop k b) (sym (length-append t (x ∷ []) ∙ add-one (length t))),
)
  where
    longer : length b₁ ≡ length t + (length b - length t)
    longer = ap length p.1 ∙ simp (length-append, length-drop)

-- one byte more of t
pub copied : (t b : List ℕ) (i : ℕ) → i < length t → length t ≤ length b → set (take i t ++ drop i b) i (get_or t i 0) ≡ take (i + 1) t ++ drop (i + 1) b
copied t b i h g =
    ap (λ (l : List ℕ). set (take i t ++ l) i (get_or t i 0)) (drop-cons b i 0 (omega arith))
    ∙ set_at (take i t) (get_or b i 0) (drop (suc i) b) (get_or t i 0) i (length-take-le i t (omega arith))
    ∙ sym (append_snoc (take i t) (get_or t i 0) (drop (suc i) b))
    ∙ ap (λ (l : List ℕ). l ++ drop (suc i) b) (sym (take-suc t i 0 h))
    ∙ ap (λ (k : ℕ). take k t ++ drop k b) (sym (add-one i))

-- a text that was put where it had room was written
pub put_writes : (t b b' : List ℕ) (n : ℕ) → length t ≤ length b → Put t b b' n → Writes t b b' (Ok n)
put_writes t b b' n h p = (
  ap Ok p.0 ∙ sym (ap (λ (e : Bool). cond e (Ok (length t)) (Err Refusal.BufferShort))
      (le-leb (length t) (length b) h)),
  p.1,
)

-- a text without room is refused, and the buffer is as it was
pub short_writes : (t b : List ℕ) → length b < length t → Writes t b b (Err Refusal.BufferShort)
short_writes t b h =
    (sym (ap (λ (e : Bool). cond e (Ok (length t)) (Err Refusal.BufferShort)) (lt-leb (length t) (length b) h)), refl)

-- a writer that reports n bytes has put the text
pub wrote_put : (t b b' : List ℕ) (n : ℕ) → Writes t b b' (Ok n) → Put t b b' n
wrote_put t b b' n w = (count (leb (length t) (length b)) w.0, w.1)
  where
    count : (e : Bool) → Ok n ≡ cond e (Ok (length t)) (Err Refusal.BufferShort) → n ≡ length t
    count true q = cc
    count false q = let z : ◌≡◌ {A = ℕ} 0 1 = cc in absurd (omega arith)

-- where there is room nothing is refused
pub has_room : (t b b' : List ℕ) (why : Refusal) → length t ≤ length b → Writes t b b' (Err why) → ⊥
has_room t b b' why h w =
    let room = le-leb (length t) (length b) h in
    let z : ◌≡◌ {A = ℕ} 0 1 = cc (ap (λ (e : Bool). cond e (Ok (length t)) (Err Refusal.BufferShort)) room) in
    omega arith

-- the bytes that a writer reports are the text
pub written_front : (t b b' : List ℕ) (n : ℕ) → Writes t b b' (Ok n) → take n b' ≡ t
written_front t b b' n w =
    let p = wrote_put t b b' n w in
    ap (take n) p.1 ∙ take_at t (drop (length t) b) n (sym p.0)
