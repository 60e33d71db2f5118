-- What each call answers goes by its rows. It stands here, and not in specs/, so that an edit of a call's rows is refused for that call's law alone.
use Rattle.std.specs.Prelude.{refl, Ok}
use Rattle.table.specs.Table.{State}
use Rattle.reached.specs.Calls.{Call, answer, numbers}
use Rattle.reached.specs.Made.{Made}
use Rattle.grounds.specs.Conditions.{Exactly, conditions_of}
use Rattle.grounds.specs.Exactly.{Follows, no_rows}
use Rattle.grounds.specs.Refusing.{answer_checked, answer_exactly}
use Rattle.grounds.specs.RefusingCalls.{enrol_rows, remove_rows, join_rows, leave_rows, challenge_rows_lem, offer_rows, renewal_rows}

call_rows : (s : State) → Made s → (c : Call) → Follows (answer_checked (answer c s)) (conditions_of c s)
call_rows s m (Call.Enrol id number count seed password) = enrol_rows id number count seed password s m
call_rows s m (Call.Remove id) = remove_rows id s
call_rows s m (Call.Join port id) = join_rows port id s m
call_rows s m (Call.Leave port) = leave_rows port s
call_rows s m (Call.Challenge port room) = challenge_rows_lem port room s m
call_rows s m (Call.Offer port password) = offer_rows port password s m
call_rows s m (Call.OfferRenewal port number count seed new password) = renewal_rows port number count seed new password s m
call_rows s m Call.Tick = no_rows (Ok tt) refl

pub call_exactly : (s : State) → Made s → (c : Call) → Exactly (numbers (answer c s)).0.0 (conditions_of c s)
call_exactly s m c = answer_exactly (answer c s) (conditions_of c s) (call_rows s m c)
