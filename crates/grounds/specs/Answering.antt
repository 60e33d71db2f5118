-- In a port's turn the challenge is written and read, the generator answers it, and what it gives is accepted, from a text or as raw bytes, at once or
-- later in the turn.
use Rattle.std.specs.Prelude.{ℕ, zero, suc, ◌+◌, ◌-◌, ◌^◌, ◌≤◌, ◌<◌, ◌≡◌, Bool, true, false, cond, ◌||◌, leb, get_or, set, drop, Ok, Result}
use native.Mathlib.Omega.{arith}
use Rattle.std.proofs.Math.Path.{refl, ap, subst}
use Rattle.std.proofs.Common.{sym, ap₂, ◌∙◌, true≢false}
use mathlib.Core.List.{List, [], ◌∷◌, ◌++◌, map}
use borrow.Author.Tests.{le-leb, le-ltb, lt-leb, leb-true}
use Rattle.std.proofs.Math.ListN.{length, take}
use Rattle.std.proofs.Math.Seq.{take_at}
use Rattle.refusal.specs.Answers.{Reading}
use Rattle.refusal.specs.Each.{Each, each_weaker}
use Rattle.text.specs.Kinds.{is_upper, is_lower, is_letter, is_digit, lower_of}
use Rattle.text.specs.Tests.{every, cases, both, second_fails}
use Rattle.text.specs.Put.{front as put}
use Rattle.password.specs.PhraseAndSeed.{phrase_checked, plain, seed_checked}
use Rattle.password.specs.declared.algorithm.Algorithm.{Algorithm}
use Rattle.password.specs.Algorithm.{algorithm_number, algorithm_name, numbered, algorithm_in}
use Rattle.password.specs.Laws.{generated_good, generated_numbered}
use Rattle.password.specs.Bounds.{password_bound}
use Rattle.password.specs.Password.{bytes_of, number_of, hash, password, generated}
use Rattle.password.specs.EightBytesLaws.{number_bytes}
use Rattle.text.specs.Counts.{width_of}
use Rattle.challenge.specs.Challenges.{challenge_of, seed_of, challenge_written_by, a_challenge}
use Rattle.readback.specs.ChallengeRead.{written_read, written_seed_read}
use Rattle.hex_text.specs.Hex.{hex_of}
use Rattle.sixwords.specs.Spelling.{words_of}
use Rattle.reply.specs.Reply.{reading_of}
use Rattle.extended.specs.declared.reply_types.ReplyType.{ReplyType}
use Rattle.extended.specs.declared.reply_texts.ReplyText.{ReplyText}
use Rattle.extended.specs.ReplyTexts.{with_read, reply_text_of, a_login}
use Rattle.extended.specs.ReplyWriting.{renewal_checked, extended_text}
use Rattle.readback.specs.ReplyRead.{hex_written_read, words_written_read}
use Rattle.readback.specs.ExtendedRead.{extended_written_read}
use Rattle.readback.specs.ExtendedMeaning.{plain_read}
use Rattle.table.specs.Answers.{Replied}
use Rattle.accounts.specs.Rooms.{Room}
use Rattle.line.specs.Line.{left}
use Rattle.table.specs.Table.{State, Held, free_room, place_of, account_of, stands_at, own_room, own_account, lined}
use Rattle.table.specs.Steps as Steps
use Rattle.accounts.specs.Accounts.{lowered}
use Rattle.table.specs.Steps.{turn_checked, challenge_for, challenge, offer}
use Rattle.reached.specs.Calls.{Call, run}
use Rattle.reached.specs.Offered.{Offered, next_of}
use Rattle.reached.specs.OfferedLaws.{next_id}
use Rattle.reached.specs.ReadAndOffered.{offered_as, read_and_offered}
use Rattle.reached.specs.InTurn.{quiet, HasTurn}
use Rattle.reached.specs.Outcome.{turn_good}
use Rattle.reached.specs.RoomsFound.{placed_id}
use Rattle.reached.specs.RoomsChanged.{there_parts, same_place}
use Rattle.reached.specs.LinesChanged.{lined_place}
use Rattle.reached.specs.Day.{waited_for, password_of, Accepts, replies_of, Day}
use Rattle.reached.specs.Made.{is_kept, SeedGood, AccountGood, Made}
use Rattle.grounds.specs.Keeps.{account_good, made_run, turn_there, turn_account, turn_has}
use Rattle.grounds.specs.Owned.{turn_keeps, challenge_kept}
use Rattle.grounds.specs.Replies.{Taken, accepted_account, turn_checked_lem, offer-accepted, taken_renews}
use Rattle.grounds.specs.PlainTexts.{read_plain}
use Rattle.refusal.specs.declared.Refusal.{Refusal}

-- ---- seeds as they are kept

kept_parts : (b : ℕ) → is_kept b ≡ true → (lower_of b ≡ b) × ((is_letter b || is_digit b) ≡ true)
kept_parts b e = go (is_upper b) (is_lower b) refl refl e
  where
    no_upper : is_upper b ≡ true → (is_lower b || is_digit b) ≡ true → ⊥
    no_upper u e =
        let halves = both (leb 65 b) (leb b 90) u in
        let low = leb-true 65 b halves.0 in
        let high = leb-true b 90 halves.1 in
        true≢false (sym e ∙ rw (lt-leb 97 b (omega arith), lt-leb b 57 (omega arith), le-leb 48 b (omega arith)))

    go : (t u : Bool) → is_upper b ≡ t → is_lower b ≡ u → (is_lower b || is_digit b) ≡ true
        → (cond t (b + 32) b ≡ b) × (((t || is_lower b) || is_digit b) ≡ true)
    go true u f g e = absurd (no_upper f e)
    go false u f g e = (refl, e)

pub kept_seed : (seed : List ℕ) → every is_kept seed ≡ true → (map lower_of seed ≡ seed) × (plain seed ≡ true)
unfolding every plain
kept_seed [] e = (refl, refl)
kept_seed (b ∷ s) e =
    let halves = both (is_kept b) (every is_kept s) e in
    let first = kept_parts b halves.0 in
    let rest = kept_seed s halves.1 in
    (ap₂ (λ (c : ℕ) (t : List ℕ). c ∷ t) first.0 rest.0, rw first.1 rest.1)

pub seed_checked_lem : (seed : List ℕ) → SeedGood seed → seed_checked seed ≡ Ok tt
seed_checked_lem seed good = rw (le-leb 1 (length seed) good.from, le-leb (length seed) 16 good.to, (kept_seed seed good.kept).1)

-- ---- the four texts

-- The text is read to this password, to log in.
abbrev ReadsLogin : ℕ → List ℕ → Type 0
ReadsLogin p text = reply_text_of text ≡ a_login p

-- A plain text that reads as it does.
plain_reads : (p : ℕ) (text : List ℕ) → reading_of text ≡ Ok p → ReadsLogin p text
plain_reads p text e = plain_read text (read_plain text p e) ∙ ap (λ (r : Reading). with_read r a_login) e

replies_read : (p : ℕ) → p < 2 ^ 64 → Each (ReadsLogin p) (replies_of p)
unfolding extended_text renewal_checked
replies_read p small = (
  plain_reads p (hex_of p) (hex_written_read p small),
  (
    plain_reads p (words_of p) (words_written_read p small),
    (
      (extended_written_read ReplyType.Hex p 1 2 [] p small small refl).said,
      ((extended_written_read ReplyType.Word p 1 2 [] p small small refl).said, tt),
    ),
  ),
)

-- ---- the day, for the account whose turn it is

-- One more hash of what the pass-phrase gives at a count is what it gives at the next.
next_hash : (algorithm : Algorithm) (phrase seed : List ℕ) (n : ℕ) → 1 < n
    → hash algorithm (bytes_of (password algorithm phrase seed (n - 1))) ≡ password algorithm phrase seed n
unfolding password
next_hash algorithm phrase seed n h =
    let next : suc (n - 1) ≡ n = omega arith in
    ap (password algorithm phrase seed) next

-- The account with that id, where its port stands, after an accepted reply of that port.
accepted_by_id : (p i : ℕ) (next : Room) (s : State) → stands_at p s.rooms ≡ place_of i s.rooms → place_of i s.rooms < length s.rooms
    → next.id ≡ i → account_of i (Steps.accepted p next s).state ≡ next
accepted_by_id p i next s at there same =
    let held : Held = record { account = next; line = (own_room p s).line } in
    let rooms = set s.rooms (stands_at p s.rooms) held in
    let place : place_of i (map (lined (left p)) rooms) ≡ stands_at p s.rooms =
    lined_place (left p) i rooms ∙ ap (λ (k : ℕ). place_of i (set s.rooms k held)) at ∙ same_place i s.rooms held same ∙ sym at in
    ap (λ (k : ℕ). (get_or (map (lined (left p)) rooms) k free_room).account) place
    ∙ accepted_account p next s (subst (λ (k : ℕ). k < length s.rooms) (sym at) there)

-- What an accepted reply or renewal of the port that has the turn for i leaves of that account.
pub taken_by_id : (p i n : ℕ) (what : Offered) (s state : State) → Made s → HasTurn p i s → Taken p n what s state
    → waited_for p s state ≡ account_of i state
taken_by_id p i n what s state m t r =
    let at = (turn_there p i s m t).3 in
    let there = (there_parts i s.rooms (turn_there p i s m t).0).1 in
    let id = ap (λ (room : Room). room.id) (turn_account p i s m t) ∙ placed_id i s.rooms there in
    let next = next_of what (own_account p s) in
    ap (waited_for p s) r.left
    ∙ accepted_account p next s (subst (λ (k : ℕ). k < length s.rooms) (sym at) there)
    ∙ sym (ap (account_of i) r.left ∙ accepted_by_id p i next s at there (next_id what (own_account p s) ∙ id))

-- Where the seed starts in the challenge for an account: behind `otp-`, the algorithm's name, the count and two spaces.
abbrev pub seed_place : Room → ℕ
seed_place account = 6 + length (algorithm_name account.algorithm) + width_of (account.count - 1)

-- A text that is read to an accepted password is accepted.
read_accepted : (p i count w : ℕ) (s : State) → Accepts i count w s (offer p w s) → (text : List ℕ) → ReadsLogin w text
    → Accepts i count w s (read_and_offered p text s)
unfolding read_and_offered
read_accepted p i count w s accepts text e = subst (λ (r : Result ReplyText Refusal). Accepts i count w s (offered_as p text r s)) (sym e) accepts

-- The port that has the turn for the account i: where it stands, and what it waits for.
module _ (p i : ℕ) (phrase : List ℕ) (s : State) (m : Made s) (t : HasTurn p i s) where
  abbrev at : stands_at p s.rooms ≡ place_of i s.rooms
  at = (turn_there p i s m t).3

  abbrev own : own_account p s ≡ account_of i s
  own = turn_account p i s m t

  there : place_of i s.rooms < length s.rooms
  there = (there_parts i s.rooms (turn_there p i s m t).0).1

  with_id_lem : (own_account p s).id ≡ i
  with_id_lem = ap (λ (room : Room). room.id) own ∙ placed_id i s.rooms there

  own_good : AccountGood (own_account p s)
  own_good = subst AccountGood (sym own) (account_good i s (turn_there p i s m t).0 m.good)

  -- The challenge reads back, with the mark, and its seed is the account's.
  own_challenge_read : (let account = own_account p s in
      (challenge_of (challenge_for p s) ≡ a_challenge account.algorithm (account.count - 1) (seed_place account) (length account.seed)
      (length (challenge_for p s)) true)
      × (seed_of (challenge_for p s) ≡ account.seed))
  own_challenge_read =
      let account = own_account p s in
      let right = seed_checked_lem account.seed own_good.seeds.0 in
      let most = own_good.count_to in
      let low : account.count - 1 ≤ 9999 = omega arith in (
        written_read true account.algorithm account.seed (account.count - 1) right low,
        written_seed_read true account.algorithm account.seed (account.count - 1) right low ∙ (kept_seed account.seed own_good.seeds.0.kept).0,
      )

  -- The password one count down is accepted.
  own_accepted : turn_checked p s ≡ Ok tt → (own_account p s).password ≡ password_of phrase (own_account p s) (own_account p s).count →
      let w = password_of phrase (own_account p s) ((own_account p s).count - 1) in
      Accepts i ((own_account p s).count - 1) w s (offer p w s)
  own_accepted checked stored =
      let old = own_account p s in
      let w = password_of phrase old (old.count - 1) in
      let g = turn_good p s checked in
      let took = offer-accepted p w s checked (next_hash old.algorithm phrase old.seed old.count g.unused ∙ sym stored) in
      record {
        answered = ap (λ (a : Steps.After Replied). a.answer) took;
        kept =
            ap (λ (a : Steps.After Replied). account_of i a.state) took
            ∙ accepted_by_id p i (lowered old w) s at there with_id_lem
            ∙ (λ k.
            record {
              id = with_id_lem k;
              algorithm = (own k).algorithm;
              seed = (own k).seed;
              older = (own k).older;
              count = old.count - 1;
              password = w;
            });
      }

  turn_day : (buffer : List ℕ) → 1 < (own_account p s).count → phrase_checked phrase ≡ Ok tt
      → (own_account p s).password ≡ password_of phrase (own_account p s) (own_account p s).count
      → length (challenge_for p s) ≤ length buffer → Day p i phrase buffer s s
  unfolding challenge challenge_written_by
  turn_day buffer unused long stored room =
      let facts = turn_there p i s m t in
      let old = own_account p s in
      let algorithm = old.algorithm in
      let seed = old.seed in
      let count = old.count - 1 in
      let right = seed_checked_lem seed own_good.seeds.0 in
      let most = own_good.count_to in
      let low : count ≤ 9999 = omega arith in
      let checked = turn_checked_lem p s facts.1 facts.2 (turn_has p i s m t) (λ z. (there_parts i s.rooms facts.0).0 (sym with_id_lem ∙ z)) unused in
      let new = password algorithm phrase seed count in
      let small = password_bound algorithm phrase seed count in
      let text = challenge_for p s in
      let written : take (length text) (put text buffer) ≡ text = take_at text (drop (length text) buffer) (length text) refl in
      let seed_read = ap seed_of written ∙ own_challenge_read.1 in
      let accepts = own_accepted checked stored in
      let text-accepts = read_accepted p i count new s accepts in
      record {
        written = length text;
        algorithm = algorithm;
        count = count;
        start = seed_place old;
        len = length seed;
        used = length text;
        generated_as = new;
        challenge-written = rw (checked, right, le-ltb 9999 count low, le-leb (length text) (length buffer) room);
        challenge_read = ap challenge_of written ∙ own_challenge_read.0;
        password_generated =
            ap (λ (q : List ℕ). generated (algorithm_number algorithm) phrase q count) seed_read
            ∙ generated_numbered algorithm phrase seed count ∙ generated_good algorithm phrase seed count long right low;
        algorithm_own = ap (λ (r : Room). r.algorithm) own;
        count_less = omega (arith, ap (λ (r : Room). r.count) own);
        generated_is = ap (λ (r : Room). password_of phrase r count) own;
        read_accepted = text-accepts;
        each_accepted = each_weaker (ReadsLogin new) (λ (text : List ℕ). Accepts i count new s (read_and_offered p text s)) text-accepts (replies_of new)
            (replies_read new small);
        raw_accepted = subst (λ (w : ℕ). Accepts i count new s (offer p w s)) (sym (number_bytes new small)) accepts;
      }

-- The challenge for the account i.
pub challenge_read_marked : (p i : ℕ) (s : State) → Made s → HasTurn p i s →
    let account = account_of i s in
    (challenge_of (challenge_for p s) ≡ a_challenge account.algorithm (account.count - 1) (seed_place account) (length account.seed)
    (length (challenge_for p s)) true)
    × (seed_of (challenge_for p s) ≡ account.seed)
challenge_read_marked p i s m t =
    subst (λ (account : Room). (challenge_of (challenge_for p s) ≡ a_challenge account.algorithm (account.count - 1) (seed_place account)
    (length account.seed) (length (challenge_for p s)) true) × (seed_of (challenge_for p s) ≡ account.seed))
    (turn_account p i s m t) (own_challenge_read p i [] s m t)

pub day : (p i : ℕ) (phrase buffer : List ℕ) (s : State) → Made s → HasTurn p i s → 1 < (account_of i s).count → phrase_checked phrase ≡ Ok tt
    → (account_of i s).password ≡ password_of phrase (account_of i s) (account_of i s).count
    → length (challenge_for p s) ≤ length buffer → Day p i phrase buffer s s
day p i phrase buffer s m t unused long stored room =
    let same = sym (own p i phrase s m t) in
    turn_day p i phrase s m t buffer (subst (λ (r : Room). 1 < r.count) same unused) long
    (subst (λ (r : Room). r.password ≡ password_of phrase r r.count) same stored) room

-- ---- the challenge now, the reply later

-- What holds of a count and a password holds of equal ones.
moved : (P : ℕ → ℕ → Type 0) {n n' w w' : ℕ} → n ≡ n' → w ≡ w' → P n w → P n' w'
moved P {n} {n'} {w} {w'} e f x = subst (λ (k : ℕ). P k w') e (subst (P n) f x)

-- A challenge that was read is answered by what answers the one that would be read later, if the account is the same.
day_then : (p i : ℕ) (phrase buffer : List ℕ) (s t : State) → account_of i t ≡ account_of i s → Day p i phrase buffer s s → Day p i phrase buffer t t
    → Day p i phrase buffer s t
day_then p i phrase buffer s t same now next =
    let counts : next.count ≡ now.count = omega (arith, now.count_less, next.count_less, ap (λ (room : Room). room.count) same) in
    let one : next.generated_as ≡ now.generated_as =
    next.generated_is ∙ (λ k. password_of phrase (same k) (counts k)) ∙ sym now.generated_is in
    record {
      written = now.written;
      algorithm = now.algorithm;
      count = now.count;
      start = now.start;
      len = now.len;
      used = now.used;
      generated_as = now.generated_as;
      challenge-written = now.challenge-written;
      challenge_read = now.challenge_read;
      password_generated = now.password_generated;
      algorithm_own = now.algorithm_own;
      count_less = now.count_less;
      generated_is = now.generated_is;
      read_accepted = moved (λ (n w : ℕ). (text : List ℕ) → ReadsLogin w text → Accepts i n w t (read_and_offered p text t)) counts one
          next.read_accepted;
      each_accepted = moved (λ (n w : ℕ). Each (λ (text : List ℕ). Accepts i n w t (read_and_offered p text t)) (replies_of w)) counts one
          next.each_accepted;
      raw_accepted = moved (λ (n w : ℕ). Accepts i n w t (offer p (number_of (bytes_of w)) t)) counts one next.raw_accepted;
    }

pub day_later : (p i : ℕ) (phrase buffer : List ℕ) (s : State) → Made s → HasTurn p i s → 1 < (account_of i s).count → phrase_checked phrase ≡ Ok tt
    → (account_of i s).password ≡ password_of phrase (account_of i s) (account_of i s).count
    → length (challenge_for p s) ≤ length buffer
    → (during : List Call) → every (quiet p i) during ≡ true → HasTurn p i (run during s) → Day p i phrase buffer s (run during s)
day_later p i phrase buffer s m t unused long stored room during q u =
    let same = turn_keeps p i during s m t q u in
    day_then p i phrase buffer s (run during s) same (day p i phrase buffer s m t unused long stored room)
    (day p i phrase buffer (run during s) (made_run during s m) u (subst (λ (r : Room). 1 < r.count) (sym same) unused) long
    (subst (λ (r : Room). r.password ≡ password_of phrase r r.count) (sym same) stored)
    (subst (λ (text : List ℕ). length text ≤ length buffer) (sym (challenge_kept p i during s m t q u)) room))

-- ---- after a renewal

-- What is in lower case stays so.
lower_twice : (b : ℕ) → lower_of (lower_of b) ≡ lower_of b
lower_twice b = cases (is_upper b) upper (λ e. ap lower_of (ap (λ (t : Bool). cond t (b + 32) b) e))
  where
    upper : is_upper b ≡ true → lower_of (lower_of b) ≡ lower_of b
    upper e =
        let low = leb-true 65 b (both (leb 65 b) (leb b 90) e).0 in
        let out : is_upper (b + 32) ≡ false = second_fails (leb 65 (b + 32)) (leb (b + 32) 90) (lt-leb (b + 32) 90 (omega arith)) in
        let lower = ap (λ (t : Bool). cond t (b + 32) b) e in
        ap lower_of lower ∙ ap (λ (t : Bool). cond t (b + 32 + 32) (b + 32)) out ∙ sym lower

lowers_twice : (s : List ℕ) → map lower_of (map lower_of s) ≡ map lower_of s
lowers_twice [] = refl
lowers_twice (b ∷ s) = ap₂ (λ (c : ℕ) (t : List ℕ). c ∷ t) (lower_twice b) (lowers_twice s)

-- So a seed as it is kept gives the passwords of the seed as it was given.
kept_passwords : (algorithm : Algorithm) (phrase seed : List ℕ) (n : ℕ) → password algorithm phrase seed n ≡ password algorithm phrase (map lower_of seed) n
unfolding password
kept_passwords algorithm phrase seed zero = ap (λ (t : List ℕ). hash algorithm (t ++ phrase)) (sym (lowers_twice seed))
kept_passwords algorithm phrase seed (suc n) = ap (λ (w : ℕ). hash algorithm (bytes_of w)) (kept_passwords algorithm phrase seed n)

-- Where the new password is what the pass-phrase gives with the new values, the account has what the pass-phrase gives.
pub renewed_stored : (p n number count : ℕ) (seed : List ℕ) (new present : ℕ) (s state : State)
    → Taken p n (Offered.Renewal number count seed new present) s state
    → (phrase : List ℕ) → new ≡ password (algorithm_in (numbered number)) phrase seed count
    → (let room = waited_for p s state in (1 < room.count) × (room.password ≡ password_of phrase room room.count))
renewed_stored p n number count seed new present s state r phrase given =
    let renewed = (taken_renews p n number count seed new present s state r).1 in (
      renewed.unused,
      subst (λ (room : Room). room.password ≡ password_of phrase room room.count) (sym renewed.becomes)
          (given ∙ kept_passwords (algorithm_in (numbered number)) phrase seed count),
    )
