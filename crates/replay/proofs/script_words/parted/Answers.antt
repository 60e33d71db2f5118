-- What stands behind the space that ends the first word.
use Rattle.std.specs.Prelude.{ℕ, ◌+◌, ◌-◌, ◌≤◌, ◌<◌, ◌≡◌, Bool, cond, List, length, take, drop, Some, None}
use Rattle.std.proofs.Common.{sym, ◌∙◌, ap, arith, length-drop, take_all, drop-drop, lt-ltb}
use Rattle.text.specs.Scan.{index_of}
use Rattle.replay.specs.ReplayWords.{behind_word}
use Rattle.replay.proofs.script_words.parted.Goals as goal

behind : (s b : List ℕ) (n : ℕ) → n ≡ 0 + index_of 32 s → b ≡ drop n s → 1 ≤ length b → length b + n ≡ length s
    → Some (take (length b - 1) (drop 1 b)) ≡ behind_word s
behind s b n found rest some all =
    let place : n ≡ index_of 32 s = omega (arith, found) in
    let whole : take (length b - 1) (drop 1 b) ≡ drop 1 b = take_all (length b - 1) (drop 1 b) (omega (arith, length-drop 1 b)) in
    let left : drop 1 b ≡ drop (index_of 32 s + 1) s = ap (drop 1) rest ∙ drop-drop 1 n s ∙ ap (λ (k : ℕ). drop (k + 1) s) place in
    let inside : index_of 32 s < length s = omega (arith, place) in
    ap Some (whole ∙ left)
    ∙ sym (ap (λ (t : Bool). cond t (Some (drop (index_of 32 s + 1) s)) None) (lt-ltb (index_of 32 s) (length s) inside))

pub returns-in-len1-up-clause-left : goal.returns-in-len1-up-clause-left
returns-in-len1-up-clause-left c =
    let split = c.split_at_mut-word.ensures in
    behind c.args.line.now c.split_at_mut-word.result.1.now c.find-end.result c.find-end.ensures.place split.back c.in-len1-up.len_at_least split.back_len
