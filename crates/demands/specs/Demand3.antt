-- The letter's third demand, a theorem for each sentence; R-4: it "speaks of the account's own line, and 180 still holds". `HasTurn p i` says
-- that the port p is in front of the line of the account i.
use Rattle.std.specs.Prelude.{ℕ, ◌≤◌, ◌<◌, ◌≡◌, true, List, length, Ok}
use Rattle.std.proofs.Common.{subst}
use Rattle.text.specs.Tests.{every}
use Rattle.password.specs.PhraseAndSeed.{phrase_checked}
use Rattle.password.specs.Algorithm.{numbered, algorithm_in}
use Rattle.password.specs.Password.{password}
use Rattle.accounts.specs.Rooms.{Room}
use Rattle.table.specs.Table.{State, account_of, line_of}
use Rattle.table.specs.Steps.{join, challenge_for}
use Rattle.reached.specs.Calls.{Call, Answer, answer, after, run}
use Rattle.reached.specs.Offered.{Offered, Offers}
use Rattle.reached.specs.InTurn.{Reached, ticks, quiet, quiet_meanwhile, HasTurn, TurnBegins}
use Rattle.reached.specs.Day.{password_of, Day}
use Rattle.grounds.specs.TurnComes.{turn_starts, wait_ends, all_meanwhile, joined_waits, reached_run, reached_after}
use Rattle.grounds.specs.Keeps.{made}
use Rattle.grounds.specs.Owned.{call_keeps, turn_keeps, challenge_kept}
use Rattle.grounds.specs.Answering.{day, day_later, renewed_stored, taken_by_id}
use Rattle.grounds.specs.Replies.{call_taken}

-- "From a fresh table, after any calls, a port that joins successfully has its turn begin by the 180th tick, if its account
-- isn't removed and the port only looks at its challenge meanwhile, whatever other ports do."
pub turn_begins : (s : State) → Reached s → (p i : ℕ) → (join p i s).answer ≡ Ok tt
    → (later : List Call) → quiet_meanwhile p i later (join p i s).state ≡ true → 180 ≤ ticks later
    → TurnBegins p i 180 later (join p i s).state
turn_begins s r p i e later q t =
    let waits = joined_waits p i s (made s r) e in
    wait_ends p i later 180 (join p i s).state waits.0 waits.1 waits.2 q t

-- The same where every later call is quiet.
pub turn_begins_quiet : (s : State) → Reached s → (p i : ℕ) → (join p i s).answer ≡ Ok tt
    → (calls : List Call) → every (quiet p i) calls ≡ true → 180 ≤ ticks calls
    → TurnBegins p i 180 calls (join p i s).state
turn_begins_quiet s r p i e calls q t =
    let waits = joined_waits p i s (made s r) e in
    wait_ends p i calls 180 (join p i s).state waits.0 waits.1 waits.2 (all_meanwhile p i calls (join p i s).state q) t

-- "Whenever the front port leaves, for any reason, the next one starts at 60. A port that joins an empty line starts at 60 at once":
-- whatever call gives a port its turn for an account, the turn of that account's line stands at 60 then.
pub turn_starts_at_60 : (s : State) → Reached s → (c : Call) (p i : ℕ) → (HasTurn p i s → ⊥) → HasTurn p i (after c s)
    → (line_of i (after c s)).turn ≡ 60
turn_starts_at_60 s r c p i before now = turn_starts p i c s (made s r) before now

-- "During that turn only its own calls change the account's count or stored password, removal aside": a call that is not the port's
-- own, or is Challenge, and does not remove the account leaves it as it is, its seed too.
pub turn_is_own : (s : State) → Reached s → (p i : ℕ) → HasTurn p i s → (c : Call) → quiet p i c ≡ true
    → account_of i (after c s) ≡ account_of i s
turn_is_own s r p i t c q = call_keeps p i s (made s r) t c q

-- So any number of such calls do, from one moment of the turn to another.
pub turn_stays_own : (s : State) → Reached s → (p i : ℕ) → HasTurn p i s
    → (during : List Call) → every (quiet p i) during ≡ true → HasTurn p i (run during s)
    → account_of i (run during s) ≡ account_of i s
turn_stays_own s r p i t during q u = turn_keeps p i during s (made s r) t q u

-- "If the account isn't used up, and its stored password is what this pass-phrase, seed and count give, then the generator's reply to
-- the challenge, in hex or words, is accepted in that turn." The pass-phrase is one that the generator takes, and the buffer for the
-- challenge has room for it. The algorithm is the account's own, whichever that is; the challenge names it, and has R-6's mark. A text is read, and what
-- it says is offered: so is every one that is read to the password to log in, as `hex:` and `word:` replies are (`replies_of`). R-7: so are the eight raw
-- bytes of the generator's password, with no text.
pub reply_is_accepted : (s : State) → Reached s → (p i : ℕ) → HasTurn p i s → (phrase : List ℕ) → phrase_checked phrase ≡ Ok tt
    → 1 < (account_of i s).count
    → (account_of i s).password ≡ password_of phrase (account_of i s) (account_of i s).count
    → (buffer : List ℕ) → length (challenge_for p s) ≤ length buffer
    → Day p i phrase buffer s s
reply_is_accepted s r p i t phrase long unused stored buffer room = day p i phrase buffer s (made s r) t unused long stored room

-- The turn that the first sentence gives begins in a table of which the other two speak.
pub turn_is_reached : (s : State) → Reached s → (p i : ℕ) (calls : List Call) → Reached (run calls (join p i s).state)
turn_is_reached s r p i calls = reached_run (join p i s).state calls (reached_after s (Call.Join p i) r)

-- The challenge stays the same during the turn.
pub challenge_stays : (s : State) → Reached s → (p i : ℕ) → HasTurn p i s
    → (during : List Call) → every (quiet p i) during ≡ true → HasTurn p i (run during s)
    → challenge_for p (run during s) ≡ challenge_for p s
challenge_stays s r p i t during q u = challenge_kept p i during s (made s r) t q u

-- So the reply may come at any later moment of it: the challenge is read, then others call and ticks pass, and the generator's reply to the
-- challenge that was read before is accepted.
pub later_reply_is_accepted : (s : State) → Reached s → (p i : ℕ) → HasTurn p i s → (phrase : List ℕ) → phrase_checked phrase ≡ Ok tt
    → 1 < (account_of i s).count
    → (account_of i s).password ≡ password_of phrase (account_of i s) (account_of i s).count
    → (buffer : List ℕ) → length (challenge_for p s) ≤ length buffer
    → (during : List Call) → every (quiet p i) during ≡ true → HasTurn p i (run during s)
    → Day p i phrase buffer s (run during s)
later_reply_is_accepted s r p i t phrase long unused stored buffer room during q u =
    day_later p i phrase buffer s (made s r) t unused long stored room during q u

-- R-1, "renewal may change it": after an accepted renewal, also one to another algorithm, whose new password is what a pass-phrase gives with the new
-- algorithm, seed and count, the account isn't used up and its stored password is what `reply_is_accepted` asks for, in a later turn.
pub renewal_begins_a_day : (s : State) → Reached s → (p i : ℕ) → HasTurn p i s
    → (n number count : ℕ) (seed : List ℕ) (new present : ℕ) (c : Call) → Offers p (Offered.Renewal number count seed new present) c
    → answer c s ≡ Answer.Count n → (phrase : List ℕ) → new ≡ password (algorithm_in (numbered number)) phrase seed count
    → (let room = account_of i (after c s) in (1 < room.count) × (room.password ≡ password_of phrase room room.count))
renewal_begins_a_day s r p i t n number count seed new present c own e phrase given =
    let what = Offered.Renewal number count seed new present in
    let taken = call_taken p n what s c own e in
    subst (λ (room : Room). (1 < room.count) × (room.password ≡ password_of phrase room room.count))
    (taken_by_id p i n what s (after c s) (made s r) t taken) (renewed_stored p n number count seed new present s (after c s) taken phrase given)
