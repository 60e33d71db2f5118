-- The checks on the room, its line and its account are the written ones, of a table of 32 rooms.
use Rattle.std.specs.Prelude.{ℕ, ◌≡◌, [], ◌∷◌, ltb, length}
use Rattle.std.proofs.Common.{sym, ap, ◌∙◌}
use Rattle.refusal.specs.declared.Refusal.{Refusal}
use Rattle.refusal.specs.Checks.{must, in_order}
use Rattle.refusal.specs.Laws.{in_parts}
use Rattle.table.specs.Table.{State, own_room, stands_at, own_account}
use Rattle.table.specs.TableChecks.{port_known, in_front, account_held, not_used_up}
use Rattle.table.specs.Steps.{turn_checked}
use Rattle.turns.specs.TurnChecks.{place_checks, account_checks, front_checked}

-- The place in line, then the account.
pub front_checked_lem : (port : ℕ) (s : State) → length s.rooms ≡ 32
    → front_checked port (stands_at port s.rooms) (own_room port s).line (own_account port s) ≡ turn_checked port s
unfolding front_checked turn_checked
front_checked_lem port s all =
    let at = stands_at port s.rooms in
    in_parts (place_checks port at (own_room port s).line) (account_checks (own_account port s))
    ∙ ap (λ (n : ℕ). in_order (port_known port ∷ must (ltb at n) Refusal.PortNotInLine ∷ in_front port s
    ∷ account_held (own_account port s) ∷ not_used_up (own_account port s) ∷ [])) (sym all)
