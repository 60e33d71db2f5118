-- What a proposal says of the values.
use Rattle.std.specs.Prelude.{ℕ, ◌≡◌, refl, List, Result, Ok, Err}
use Rattle.std.proofs.Common.{sym, arith}
use Rattle.refusal.specs.declared.Refusal.{Refusal}
use Rattle.refusal.specs.Answers.{Checked}
use Rattle.refusal.specs.Checks.{checked_of}
use Rattle.accounts.specs.declared.Account.{Account}
use Rattle.accounts.specs.Rooms.{Room, room_of}
use Rattle.accounts.specs.Accounts.{Proposal, proposal, proposed}

-- an account: the values are good, and it is the one with them
pub is_proposed : (check : Checked) (made room : Room) → ◌≡◌ {A = Proposal} (Ok made) (proposed check room) → (check ≡ Ok tt) × (made ≡ room)
is_proposed (Ok _) made room e = (refl, cc)
is_proposed (Err why) made room e = let z : ◌≡◌ {A = ℕ} 0 1 = cc in absurd (omega arith)

-- or what is wrong with them
pub not_proposed : (check : Checked) (why : Refusal) (room : Room) → ◌≡◌ {A = Proposal} (Err why) (proposed check room) → check ≡ Err why
not_proposed (Ok _) why room e = let z : ◌≡◌ {A = ℕ} 0 1 = cc in absurd (omega arith)
not_proposed (Err other) why room e = cc

-- so the values are found as it says
pub found_proposed : (made : Result Account Refusal) (part : List ℕ) (check : Checked) (room : Room) → proposal made part ≡ proposed check room
    → checked_of made ≡ check
found_proposed (Ok account) part check room e = sym (is_proposed check (room_of account part) room e).0
found_proposed (Err why) part check room e = sym (not_proposed check why room e)
