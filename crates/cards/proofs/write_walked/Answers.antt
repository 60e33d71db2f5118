-- `write_walked` meets its promise: the passwords by one walk, then the lines.
use Rattle.std.proofs.Common.{◌≡◌, ◌∙◌, ◌-◌, ℕ, List, length, subst, ap, arith, length-take-le, replicate, take}
use Rattle.text.specs.Put.{Writes}
use Rattle.password.specs.Password.{password}
use Rattle.cards.specs.CardLines.{card_text, at}
use Rattle.cards.specs.Inside.{Falling}
use Rattle.cards.proofs.Ways.{walked}
use Rattle.cards.proofs.write_walked.Goals as goal
use Rattle.cards.proofs.write_walked.Goals.{After-walk}

count : (c : After-walk) → length (take {A = ℕ} c.args.k (replicate 99 0)) ≡ c.args.k
count c = length-take-le c.args.k (replicate {A = ℕ} 99 0) (omega (arith, c.requires))

lines : (c : After-walk) (phrase seed : List ℕ) → c.args.p ≡ password c.args.algorithm phrase seed (c.args.n - (c.args.k - 1))
    → card_text (at c.walk.new.ps c.args.n) c.args.n (length c.walk.new.ps) ≡ card_text (password c.args.algorithm phrase seed) c.args.n c.args.k
lines c phrase seed e =
    let a = c.args in
    let falling = subst (λ (n : ℕ). Falling a.algorithm a.p n c.walk.new.ps) (count c) c.walk.ensures in
    ap (card_text (at c.walk.new.ps a.n) a.n) (c.walk.auto.ps ∙ count c)
    ∙ walked a.algorithm phrase seed c.walk.new.ps a.n a.k c.requires.0 c.requires.2
    (subst (λ (p : ℕ). Falling a.algorithm p a.k c.walk.new.ps) e falling)

pub returns : goal.returns
returns c phrase seed e =
    let a = c.args in
    subst (λ (t : List ℕ). Writes t a.buf.now c.write_lines.new.buf c.write_lines.result)
    (lines (goal.at.returns c).After-walk phrase seed e) c.write_lines.ensures
