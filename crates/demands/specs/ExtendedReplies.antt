-- R-6, extended replies, over the table. `colons` counts a text's colons; `reply_text_of` is what the text of a reply is read to, whatever the table: a
-- password to log in, a renewal with new values and two passwords, or a refusal; `read_and_offered` is what a caller does that reads it and offers that.
-- Which text is read to what, and that what is written reads back: ExtendedTexts. The refusals, each exactly if its condition holds: Demand1. That a reply
-- of the types `hex` and `word` is accepted in the turn: Demand3. What an accepted renewal does to the account: OneStep; to its seeds: SeedsAgain.
use Rattle.std.specs.Prelude.{ℕ, ◌+◌, ◌-◌, ◌≤◌, ◌≡◌, true, List, length, Ok}
use Rattle.std.proofs.Common.{sym, ap, ◌∙◌}
use Rattle.refusal.specs.Answers.{Reading}
use Rattle.text.specs.Counts.{width_of}
use Rattle.password.specs.Algorithm.{algorithm_name}
use Rattle.challenge.specs.Challenges.{challenge_of, seed_of, a_challenge}
use Rattle.reply.specs.Reply.{reading_of}
use Rattle.extended.specs.ReplyTexts.{Said, colons, said_in, with_read, reply_text_of, seed_part, a_login, a_renewal}
use Rattle.accounts.specs.Accounts.{renewed_room}
use Rattle.table.specs.Answers.{Replied}
use Rattle.table.specs.Table.{State, account_of}
use Rattle.table.specs.Steps.{After, reply_refused, challenge_for, offer_renewal}
use Rattle.reached.specs.Calls.{Call, replied_answer}
use Rattle.reached.specs.Offered.{Offered, Offers}
use Rattle.reached.specs.ReadAndOffered.{offered_as, read_and_offered, read_and_renewed}
use Rattle.reached.specs.InTurn.{Reached, HasTurn}
use Rattle.grounds.specs.Keeps.{made}
use Rattle.grounds.specs.Answering.{challenge_read_marked}
use Rattle.grounds.specs.Remembering.{next_by_id}
use Rattle.grounds.specs.TextsOffered as TextsOffered
use Rattle.demands.specs.OneStep.{accepted_renews}
use Rattle.readback.specs.LaidOut.{colon_refused}

-- "A text with a colon is an extended reply ..; others are plain": a plain one is read as it was before R-6, and the password is offered, on any table.
pub plain_is_offered : (port : ℕ) (text : List ℕ) (s : State) → colons text ≡ 0
    → read_and_offered port text s ≡ offered_as port text (with_read (reading_of text) a_login) s
plain_is_offered port text s plain = TextsOffered.plain_offered port text s plain

-- "The two `init` types do what Renew does": on any table what is done with an `init` text that can be read is the offer of a renewal with its values and
-- its two passwords;
pub init_is_a_renewal : (port : ℕ) (text : List ℕ) (s : State) (number count start len new present : ℕ)
    → reply_text_of text ≡ a_renewal number count start len new present
    → read_and_offered port text s ≡ offer_renewal port number count (seed_part text start len) new present s
init_is_a_renewal port text s number count start len new present e =
    TextsOffered.read_offered port text s (a_renewal number count start len new present) e

-- and so it is with the same values, the same new password, and a plain text that is read, or refused, as the present one is (`said_in`: the text's own parts,
-- each as it is read).
pub init_does_what_renew_does : (port : ℕ) (text : List ℕ) (s : State) (number count start len new : ℕ) (present : Reading)
    → said_in text ≡ Said.Renewal number count start len (Ok new) present
    → (plain : List ℕ) → reading_of plain ≡ present
    → read_and_offered port text s ≡ read_and_renewed port number count (seed_part text start len) new plain s
init_does_what_renew_does = TextsOffered.init_renewed

-- An accepted `init` reply doesn't step the count down as a login does: it answers the new one, and in tables that calls make the account for which the
-- port has the turn has it then, with the new algorithm, seed and password.
pub init_takes_the_new_count : (s : State) → Reached s → (p i n number count start len new present : ℕ) (text : List ℕ) → HasTurn p i s
    → reply_text_of text ≡ a_renewal number count start len new present → (read_and_offered p text s).answer ≡ Ok n
    → (n ≡ count) × (account_of i (read_and_offered p text s).state ≡ renewed_room (account_of i s) number count (seed_part text start len) new)
init_takes_the_new_count s r p i n number count start len new present text t e f =
    let seed = seed_part text start len in
    let same = init_is_a_renewal p text s number count start len new present e in
    let g = ap (λ (a : After Replied). a.answer) (sym same) ∙ f in (
      (accepted_renews p n number count seed new present s g).0,
      ap (λ (a : After Replied). account_of i a.state) same
          ∙ next_by_id p i n (Call.OfferRenewal p number count seed new present) s (made s r) t (ap replied_answer g)
          (Offered.Renewal number count seed new present) (Offers.by_renewal number count seed new present),
    )

-- "Renew's text stays plain; a colon gives 33", and 30 over 128 bytes: on any table, and nothing is offered.
pub renew_text_stays_plain : (port number count : ℕ) (seed : List ℕ) (new : ℕ) (text : List ℕ) (s : State) → 1 ≤ colons text
    → read_and_renewed port number count seed new text s ≡ reply_refused s (colon_refused text)
renew_text_stays_plain port number count seed new text s colon = TextsOffered.colon_renewed port number count seed new text s colon

-- "The table's Challenge writes ` ext` before its newline": in tables that calls make what it writes for the port that has the turn reads back with the
-- mark, and all its bytes are used. The seed starts behind `otp-`, the algorithm's name, the count and two spaces.
pub challenge_has_the_mark : (s : State) → Reached s → (p i : ℕ) → HasTurn p i s →
    let account = account_of i s in
    (challenge_of (challenge_for p s) ≡ a_challenge account.algorithm (account.count - 1)
    (6 + length (algorithm_name account.algorithm) + width_of (account.count - 1)) (length account.seed) (length (challenge_for p s)) true)
    × (seed_of (challenge_for p s) ≡ account.seed)
challenge_has_the_mark s r p i t = challenge_read_marked p i s (made s r) t
