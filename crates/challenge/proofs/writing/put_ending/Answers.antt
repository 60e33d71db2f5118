-- `put_ending` meets its promise: by whether there is the mark.
use Prim.Native.Nat.{ℕ, ◌≤◌}
use mathlib.Core.Path.{◌≡◌, sym, subst}
use mathlib.Core.Bool.{Bool}
use mathlib.Core.List.{List}
use lib.ListN.{length}
use Rattle.text.specs.Quoted.{codes}
use Rattle.text.specs.Put.{Put}
use Rattle.challenge.specs.Challenges.{ending}
use Rattle.challenge.proofs.writing.put_ending.Goals as goal

room : (b t : Bool) (buf : List ℕ) → b ≡ t → length (ending b) ≤ length buf → length (ending t) ≤ length buf
room b t buf e h = subst (λ (x : Bool). length (ending x) ≤ length buf) e h

put : (b t : Bool) (buf left : List ℕ) (n : ℕ) → b ≡ t → Put (ending t) buf left n → Put (ending b) buf left n
put b t buf left n e p = subst (λ (x : Bool). Put (ending x) buf left n) (sym e) p

pub copy-requires : goal.copy-requires
unfolding ending codes
copy-requires c =
    room c.args.ext _ c.args.buf.now c.if-ext.true c.requires

pub returns-then-ext : goal.returns-then-ext
unfolding ending codes
returns-then-ext c =
    put c.args.ext _ _ _ _ c.if-ext.true c.copy.ensures

pub copy-requires-2 : goal.copy-requires-2
unfolding ending codes
copy-requires-2 c =
    room c.args.ext _ c.args.buf.now c.if-ext.false c.requires

pub returns : goal.returns
unfolding ending codes
returns c =
    put c.args.ext _ _ _ _ c.if-ext.false c.copy-2.ensures
