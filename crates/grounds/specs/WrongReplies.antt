-- What 61 and 62 change, and who is answered with them.
use Rattle.std.specs.Prelude.{ℕ, ◌-◌, Bool, cond, not, ◌&&◌, List, [], ◌∷◌, map, eqb, ltb, length, Ok, Err}
use Rattle.std.proofs.Common.{arith, sym, ap, ◌∙◌}
use Rattle.std.proofs.Math.Path.{◌≡◌, refl}
use Rattle.std.proofs.Math.Bool.{true, false}
use Rattle.std.proofs.Math.Dec.{leb}
use Rattle.refusal.specs.declared.Refusal.{Refusal}
use Rattle.refusal.specs.Answers.{Checked}
use Rattle.refusal.specs.Numbers.{listing_of}
use Rattle.refusal.specs.Checks.{unless, in_order}
use Rattle.password.specs.PhraseAndSeed.{seed_checked}
use Rattle.password.specs.Algorithm.{numbered}
use Rattle.password.specs.Password.{bytes_of, hash}
use Rattle.challenge.specs.Challenges.{challenge_text, challenge_written_by}
use Rattle.port.specs.Port.{wrong_answer}
use Rattle.accounts.specs.Rooms.{Room}
use Rattle.table.specs.Table.{State, holds, is_there, account_of, port_of, waits, own_account}
use Rattle.table.specs.TableChecks.{account_there}
use Rattle.table.specs.Steps as Steps
use Rattle.table.specs.Steps.{refused, reply_refused, done, enrol_checked, join_checked, leave_checked, turn_checked, compared}
use Rattle.reached.specs.Calls.{Call, Answer, checked_answer, replied_answer, written_answer, answer}
use Rattle.reached.specs.Offered.{Offered, Offers, offer_checked, present_in, next_of, offers}
use Rattle.reached.specs.OfferedLaws.{call_offers}
use Rattle.reached.specs.Day.{WrongReply}
use Rattle.grounds.specs.Listed.{is_in}
use Rattle.grounds.specs.Never.{
  Test,
  test,
  of_algorithm,
  of_seed,
  check_of,
  others,
  Never,
  other_never,
  test_never,
  seed_never,
  rows_never,
  turn_never,
  table_never,
}

module _ (why : Refusal) (wrong : is_in (listing_of why).0 (61 ∷ 62 ∷ []) ≡ true) where
  -- ---- checks and calls that never answer so

  abbrev Other : Checked → Type 0
  Other check = Never (61 ∷ 62 ∷ []) why wrong check

  checks_other : (rows : List Test) → others (61 ∷ 62 ∷ []) rows ≡ true → Other (in_order (map check_of rows))
  checks_other = rows_never (61 ∷ 62 ∷ []) why wrong

  turn_other : (port : ℕ) (s : State) → Other (turn_checked port s)
  turn_other port s = turn_never (61 ∷ 62 ∷ []) why wrong port s refl

  table_other : (port : ℕ) (what : Offered) (s : State) → Other (offer_checked port what s)
  table_other port what s = table_never (61 ∷ 62 ∷ []) why wrong port what s refl (λ number count seed. refl)

  settled_other : (s s' : State) (check : Checked) → Other check → checked_answer (unless (refused s) check (done s')).answer ≡ Answer.Refused why → ⊥
  settled_other s s' (Ok _) n e = let z : ◌≡◌ {A = ℕ} 0 1 = cc in omega arith
  settled_other s s' (Err w) n e = let same : w ≡ why = cc in n (ap Err same)

  challenge_other : (port room : ℕ) (s : State) → answer (Call.Challenge port room) s ≡ Answer.Refused why → ⊥
  unfolding Steps.challenge challenge_written_by
  challenge_other port room s =
      let stored = (own_account port s).seed in
      let text = challenge_text true (own_account port s).algorithm stored ((own_account port s).count - 1) in
      go (turn_checked port s) (turn_other port s) (seed_checked stored) (seed_never (61 ∷ 62 ∷ []) why wrong stored refl refl)
      (ltb 9999 ((own_account port s).count - 1)) (leb (length text) room) (length text)
    where
      as_check : (w : Refusal) → Other (Err w) → Answer.Refused w ≡ Answer.Refused why → ⊥
      as_check w n e = let same : w ≡ why = cc in n (ap Err same)

      go : (a : Checked) → Other a → (b : Checked) → Other b → (c d : Bool) (n : ℕ)
          → written_answer (unless Err a (unless Err b
          (cond c (Err Refusal.CountHigh) (cond d (Ok n) (Err Refusal.BufferShort))))) ≡ Answer.Refused why
          → ⊥
      go (Err w) k b l c d n e = as_check w k e
      go (Ok _) k (Err w) l c d n e = as_check w l e
      go (Ok _) k (Ok _) l true d n e = as_check Refusal.CountHigh (other_never (61 ∷ 62 ∷ []) why wrong Refusal.CountHigh refl) e
      go (Ok _) k (Ok _) l false true n e = let z : ◌≡◌ {A = ℕ} 0 1 = cc in omega arith
      go (Ok _) k (Ok _) l false false n e = as_check Refusal.BufferShort (other_never (61 ∷ 62 ∷ []) why wrong Refusal.BufferShort refl) e

  -- ---- a password that is compared

  -- The answer goes by the port's run, and the table is that of a wrong reply.
  Rejected : ℕ → State → State → Type 0
  Rejected port s s' = (why ≡ wrong_answer (port_of port s)) × (s' ≡ (Steps.rejected port s).state)

  compared_wrong : (port w : ℕ) (next : Room) (s : State) → replied_answer (compared port w next s).answer ≡ Answer.Refused why
      → Rejected port s (compared port w next s).state
  unfolding compared Rejected
  compared_wrong port w next s = go (eqb (hash (own_account port s).algorithm (bytes_of w)) (own_account port s).password)
    where
      go : (t : Bool) → replied_answer (cond t (Steps.accepted port next s) (Steps.rejected port s)).answer ≡ Answer.Refused why
          → (why ≡ wrong_answer (port_of port s)) × ((cond t (Steps.accepted port next s) (Steps.rejected port s)).state ≡ (Steps.rejected port s).state)
      go true e = let z : ◌≡◌ {A = ℕ} 0 1 = cc in absurd (omega arith)
      go false e = (cc, refl)

  offers_wrong : (port : ℕ) (what : Offered) (s : State) → replied_answer (offers port what s).answer ≡ Answer.Refused why
      → Rejected port s (offers port what s).state
  unfolding offers
  offers_wrong port what s = go (offer_checked port what s) (table_other port what s)
    where
      go : (k : Checked) → Other k
          → replied_answer (unless (reply_refused s) k (compared port (present_in what) (next_of what (own_account port s)) s)).answer ≡ Answer.Refused why
          → Rejected port s (unless (reply_refused s) k (compared port (present_in what) (next_of what (own_account port s)) s)).state
      go (Err v) n e = let same : v ≡ why = cc in absurd (n (ap Err same))
      go (Ok _) n e = compared_wrong port (present_in what) (next_of what (own_account port s)) s e

  -- ---- every call

  wrong_at : (port : ℕ) (what : Offered) (c : Call) (s : State) → Offers port what c → answer c s ≡ Answer.Refused why → WrongReply why c s
  unfolding Rejected
  wrong_at port what c s p e =
      let did = call_offers port what c s p in
      let wrongly = offers_wrong port what s (sym did.0 ∙ e) in
      record { port = port; what = what; offered = p; answered = wrongly.0; changed = did.1 ∙ wrongly.1 }

  pub wrong_reply : (c : Call) (s : State) → answer c s ≡ Answer.Refused why → WrongReply why c s
  unfolding Steps.enrol Steps.remove Steps.join Steps.leave enrol_checked join_checked leave_checked
  wrong_reply (Call.Enrol id number count seed password) s e =
      absurd (settled_other s _ (enrol_checked id number count seed s)
      (checks_other (test (not (eqb id 0)) Refusal.IdZero ∷ test (leb 2 count && leb count 9999) Refusal.CountOutside
      ∷ of_algorithm (numbered number) ∷ of_seed seed ∷ test (not (is_there id s)) Refusal.IdTaken ∷ test (holds 0 s.rooms) Refusal.TableFull ∷ []) refl) e)
  wrong_reply (Call.Remove id) s e =
      absurd (settled_other s _ (account_there id s) (test_never (61 ∷ 62 ∷ []) why wrong (is_there id s) Refusal.AccountMissing refl) e)
  wrong_reply (Call.Join port id) s e =
      absurd (settled_other s _ (join_checked port id s)
      (checks_other (test (leb port 3) Refusal.PortUnknown ∷ test (is_there id s) Refusal.AccountMissing
      ∷ test (not (waits port s)) Refusal.PortInLine ∷ test (eqb (port_of port s).shut 0) Refusal.PortShut
      ∷ test (ltb 1 (account_of id s).count) Refusal.AccountUsedUp ∷ []) refl) e)
  wrong_reply (Call.Leave port) s e =
      absurd (settled_other s _ (leave_checked port s)
      (checks_other (test (leb port 3) Refusal.PortUnknown ∷ test (waits port s) Refusal.PortNotInLine ∷ []) refl) e)
  wrong_reply (Call.Challenge port room) s e = absurd (challenge_other port room s e)
  wrong_reply (Call.Offer port password) s e = wrong_at port _ _ s (Offers.by_offer password) e
  wrong_reply (Call.OfferRenewal port number count seed new password) s e = wrong_at port _ _ s (Offers.by_renewal number count seed new password) e
  wrong_reply Call.Tick s e = let z : ◌≡◌ {A = ℕ} 0 1 = cc in absurd (omega arith)
