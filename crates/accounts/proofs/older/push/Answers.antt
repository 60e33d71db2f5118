-- `push` meets its promise: the present seed with its length, and six places behind it.
use Rattle.std.proofs.Common.{◌≡◌, ℕ, List, [], ◌∷◌, ◌++◌, length, set, take, drop, drop_at, length-take-le, ap, ap₂, ◌∙◌, arith}
use Rattle.std.proofs.Math.ListN.{drop_of_length-le}
use Rattle.std.proofs.lemmas.List.{append-nil, append_assoc}
use Rattle.std.specs.List.{copy_within}
use borrow.Rule.Slice.PartMut.{put_mid}
use Rattle.accounts.specs.Rooms.{seed_in}
use Rattle.accounts.proofs.older.push.Goals as goal

moved : (p seed : List ℕ) (n : ℕ) → length p ≡ 119 → put_mid 1 16 (set (copy_within p 0 102 17) 0 n) seed ≡ n ∷ (seed ++ take 102 p)
moved [] seed n all = absurd (omega arith)
moved (x ∷ q) seed n all =
    let p = x ∷ q in
    ap (λ (l : List ℕ). n ∷ (seed ++ l))
    (ap (drop 16) (append_assoc (take 16 q) (take 102 p) (drop 119 p))
    ∙ drop_at (take 16 q) (take 102 p ++ drop 119 p) 16 (length-take-le 16 q (omega arith))
    ∙ ap (λ (l : List ℕ). take 102 p ++ l) (drop_of_length-le p {i = 119} (omega arith)) ∙ append-nil (take 102 p))

pub returns : goal.returns
returns c =
    ap₂ (λ (l part : List ℕ). put_mid 1 16 (set l 0 c.seed_len.result) part) c.copy_within.ensures.after c.copy_from_slice.ensures.after
    ∙ ap (λ (n : ℕ). put_mid 1 16 (set (copy_within c.args.places.now 0 102 17) 0 n) c.args.account.seed) c.seed_len.ensures.0
    ∙ moved c.args.places.now c.args.account.seed (length (seed_in c.args.account)) c.requires
