-- Nothing outside this crate rests on this: words as they are written one after the other.
use Rattle.std.specs.Prelude.{ℕ, List, [], ◌∷◌, ◌++◌}

-- words with a space after each
unfoldable pub ended : List (List ℕ) → List ℕ
ended [] = []
ended (w ∷ ws) = (w ++ 32 ∷ []) ++ ended ws
