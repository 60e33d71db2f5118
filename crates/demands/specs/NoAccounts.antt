-- The letter's case, a building with no tenants: a table with no account answers every call, for every id, port, text and room.
use Rattle.std.specs.Prelude.{ℕ, ◌≡◌, refl, false, List, [], ◌∷◌, map, length, Err}
use Rattle.std.proofs.Common.{ap, ◌∙◌}
use Rattle.refusal.specs.declared.Refusal.{Refusal}
use Rattle.refusal.specs.Answers.{Checked}
use Rattle.refusal.specs.Checks.{unless, in_order}
use Rattle.password.specs.Algorithm.{numbered, algorithm_checked}
use Rattle.password.specs.PhraseAndSeed.{seed_checked}
use Rattle.line.specs.Line.{empty}
use Rattle.port.specs.Port.{cooled}
use Rattle.accounts.specs.Accounts.{count_within, new_room}
use Rattle.table.specs.Table.{State, line_of, waits, with_account}
use Rattle.table.specs.TableChecks.{id_given, port_known, in_line, in_front}
use Rattle.reached.specs.Calls.{Call, Answer, checked_answer, answer, after}
use Rattle.reached.specs.Offered.{Offers}
use Rattle.reached.specs.InTurn.{Reached}
use Rattle.reached.specs.Equal.{accounts_in}
use Rattle.grounds.specs.Keeps.{made}
use Rattle.grounds.specs.WithoutAccounts.{
  lines_empty,
  nobody_waits,
  turn_outside,
  enrol_first,
  remove_nobody,
  join_nobody,
  leave_outside,
  leave_answer,
  challenge_nobody,
  offers_nobody,
  tick_cools,
}

-- Nobody is in line then, in a table that calls make, for any account.
pub nobody_in_line : (s : State) → Reached s → accounts_in s.rooms ≡ 0 → ((id : ℕ) → line_of id s ≡ empty) × ((port : ℕ) → waits port s ≡ false)
nobody_in_line s r none = (lines_empty s (made s r) none, nobody_waits s (made s r) none)

-- Enrol's own checks, 50, 51, 21, 23 and 24: no id is taken and no table full.
abbrev pub own_checks : ℕ → ℕ → ℕ → List ℕ → Checked
own_checks id number count seed = in_order (id_given id ∷ count_within count ∷ algorithm_checked (numbered number) ∷ seed_checked seed ∷ [])

-- 55 for a port over 3, otherwise that refusal.
abbrev pub at_port : ℕ → Refusal → Answer
at_port port why = checked_answer (in_order (port_known port ∷ Err why ∷ []))

-- What each call answers,
abbrev pub answer_without : Call → Answer
answer_without (Call.Enrol id number count seed password) = checked_answer (own_checks id number count seed)
answer_without (Call.Remove id) = Answer.Refused Refusal.AccountMissing
answer_without (Call.Join port id) = at_port port Refusal.AccountMissing
answer_without (Call.Leave port) = at_port port Refusal.PortNotInLine
answer_without (Call.Challenge port room) = at_port port Refusal.PortNotInLine
answer_without (Call.Offer port password) = at_port port Refusal.PortNotInLine
answer_without (Call.OfferRenewal port number count seed new password) = at_port port Refusal.PortNotInLine
answer_without Call.Tick = Answer.Done

-- and the table after it: Enrol takes the first room, a tick lowers the ports' shut ticks, all else is as it was.
abbrev pub after_without : Call → State → State
after_without (Call.Enrol id number count seed password) s =
    unless (λ why. s) (own_checks id number count seed) (with_account 0 (new_room id number count seed password) s)
after_without (Call.Remove id) s = s
after_without (Call.Join port id) s = s
after_without (Call.Leave port) s = s
after_without (Call.Challenge port room) s = s
after_without (Call.Offer port password) s = s
after_without (Call.OfferRenewal port number count seed new password) s = s
after_without Call.Tick s = record { rooms = s.rooms; ports = map cooled s.ports }

-- So it is in every table that calls make.
pub empty_answers : (s : State) → Reached s → accounts_in s.rooms ≡ 0 → (c : Call) → answer c s ≡ answer_without c
empty_answers s r none (Call.Enrol id number count seed password) = (enrol_first s none (made s r).room_count id number count seed password).0
empty_answers s r none (Call.Remove id) = (remove_nobody s none id).0
empty_answers s r none (Call.Join port id) = (join_nobody s none port id).0
empty_answers s r none (Call.Leave port) = (leave_outside s (made s r) none port).0
empty_answers s r none (Call.Challenge port room) = (challenge_nobody s none port room).0 ∙ ap checked_answer (turn_outside s (made s r) none port)
empty_answers s r none (Call.Offer port password) =
    (offers_nobody s none port _ _ (Offers.by_offer password)).0 ∙ ap checked_answer (turn_outside s (made s r) none port)
empty_answers s r none (Call.OfferRenewal port number count seed new password) =
    (offers_nobody s none port _ _ (Offers.by_renewal number count seed new password)).0 ∙ ap checked_answer (turn_outside s (made s r) none port)
empty_answers s r none Call.Tick = refl

pub empty_after : (s : State) → Reached s → accounts_in s.rooms ≡ 0 → (c : Call) → after c s ≡ after_without c s
empty_after s r none (Call.Enrol id number count seed password) = (enrol_first s none (made s r).room_count id number count seed password).1
empty_after s r none (Call.Remove id) = (remove_nobody s none id).1
empty_after s r none (Call.Join port id) = (join_nobody s none port id).1
empty_after s r none (Call.Leave port) = (leave_outside s (made s r) none port).1
empty_after s r none (Call.Challenge port room) = refl
empty_after s r none (Call.Offer port password) = (offers_nobody s none port _ _ (Offers.by_offer password)).1
empty_after s r none (Call.OfferRenewal port number count seed new password) =
    (offers_nobody s none port _ _ (Offers.by_renewal number count seed new password)).1
empty_after s r none Call.Tick = tick_cools s (made s r) none

-- "A table .. that no calls could make is still answered": there a port may be in line for an account that isn't there. Leave is done,
-- and Challenge and Offer answer 60, or 54 in front.
abbrev pub in_turn : ℕ → State → Answer
in_turn port s = checked_answer (in_order (port_known port ∷ in_line port s ∷ in_front port s ∷ Err Refusal.AccountMissing ∷ []))

abbrev pub answer_anyway : Call → State → Answer
answer_anyway (Call.Enrol id number count seed password) s = checked_answer (own_checks id number count seed)
answer_anyway (Call.Remove id) s = Answer.Refused Refusal.AccountMissing
answer_anyway (Call.Join port id) s = at_port port Refusal.AccountMissing
answer_anyway (Call.Leave port) s = checked_answer (in_order (port_known port ∷ in_line port s ∷ []))
answer_anyway (Call.Challenge port room) s = in_turn port s
answer_anyway (Call.Offer port password) s = in_turn port s
answer_anyway (Call.OfferRenewal port number count seed new password) s = in_turn port s
answer_anyway Call.Tick s = Answer.Done

-- So it is in any table of 32 rooms, as every table has.
pub any_empty_answers : (s : State) → length s.rooms ≡ 32 → accounts_in s.rooms ≡ 0 → (c : Call) → answer c s ≡ answer_anyway c s
any_empty_answers s rooms none (Call.Enrol id number count seed password) = (enrol_first s none rooms id number count seed password).0
any_empty_answers s rooms none (Call.Remove id) = (remove_nobody s none id).0
any_empty_answers s rooms none (Call.Join port id) = (join_nobody s none port id).0
any_empty_answers s rooms none (Call.Leave port) = leave_answer port s
any_empty_answers s rooms none (Call.Challenge port room) = (challenge_nobody s none port room).0
any_empty_answers s rooms none (Call.Offer port password) = (offers_nobody s none port _ _ (Offers.by_offer password)).0
any_empty_answers s rooms none (Call.OfferRenewal port number count seed new password) =
    (offers_nobody s none port _ _ (Offers.by_renewal number count seed new password)).0
any_empty_answers s rooms none Call.Tick = refl
