-- What the account that was looked up says of its id.
use Rattle.std.specs.Prelude.{ℕ, suc, ◌≡◌, refl, Bool, true, false, cond, not, ◌&&◌, List, [], ◌∷◌, eqb, ltb, length, get_or}
use Rattle.std.proofs.Common.{sym, ap, ◌∙◌, arith, lt-ltb, eqb-true}
use Rattle.std.proofs.Math.Dec.{leb-suc-suc}
use Rattle.table.specs.Table.{Held, free_room, place_of, holds}

-- What is found where an id is looked up.
abbrev tested : ℕ → Bool → Bool
tested id b = not (eqb id 0) && b

-- An account is there exactly if the id of what was found isn't 0.
pub account_there_lem : (id : ℕ) (rooms : List Held) → not (eqb (get_or rooms (place_of id rooms) free_room).account.id 0) ≡ (not (eqb id 0) && holds id rooms)
unfolding place_of
account_there_lem id [] = by (not (eqb id 0))
  where
    by : (b : Bool) → false ≡ (b && false)
    by true = refl
    by false = refl
account_there_lem id (held ∷ rooms) = by (eqb held.account.id id) refl (account_there_lem id rooms)
  where
    whole : (b : Bool) → b ≡ (b && true)
    whole true = refl
    whole false = refl

    by : (b : Bool) → eqb held.account.id id ≡ b → not (eqb (get_or rooms (place_of id rooms) free_room).account.id 0) ≡ (not (eqb id 0) && holds id rooms)
        → not (eqb (get_or (held ∷ rooms) (cond b 0 (suc (place_of id rooms))) free_room).account.id 0)
        ≡ (not (eqb id 0) && ltb (cond b 0 (suc (place_of id rooms))) (suc (length rooms)))
    by true e f =
        ap (λ (n : ℕ). not (eqb n 0)) (eqb-true held.account.id id e)
        ∙ whole (not (eqb id 0))
        ∙ ap (tested id) (sym (lt-ltb 0 (suc (length rooms)) (omega arith)))
    by false e f = f ∙ ap (tested id) (sym (leb-suc-suc (suc (place_of id rooms)) (length rooms)))
