-- The words of the day of one password: a reply that steps an account down, a renewal, a reply that is accepted, the way from the challenge to it,
-- and a wrong reply.
use Rattle.std.specs.Prelude.{ℕ, ◌+◌, ◌<◌, ◌≡◌, true, false, List, [], ◌∷◌, map, length, take, Some, Ok}
use Rattle.refusal.specs.declared.Refusal.{Refusal}
use Rattle.refusal.specs.Each.{Each}
use Rattle.text.specs.Kinds.{lower_of}
use Rattle.text.specs.Put.{leaves}
use Rattle.password.specs.declared.algorithm.Algorithm.{Algorithm}
use Rattle.password.specs.Algorithm.{algorithm_number, numbered}
use Rattle.password.specs.Password.{bytes_of, number_of, hash, password, generated}
use Rattle.challenge.specs.Challenges.{challenge_of, seed_of, a_challenge}
use Rattle.hex_text.specs.Hex.{hex_of}
use Rattle.sixwords.specs.Spelling.{words_of}
use Rattle.extended.specs.declared.reply_types.ReplyType.{ReplyType}
use Rattle.extended.specs.ReplyTexts.{reply_text_of, a_login}
use Rattle.extended.specs.ReplyWriting.{login_text}
use Rattle.port.specs.Port.{wrongly, wrong_answer}
use Rattle.table.specs.Answers.{Replied}
use Rattle.accounts.specs.Rooms.{Room, remembered}
use Rattle.accounts.specs.Accounts.{is_one_of, renewed_room}
use Rattle.table.specs.Table.{State, room_at, account_of, port_of, stands_at, with_port}
use Rattle.table.specs.Steps as steps
use Rattle.table.specs.Steps.{After, challenge_for, challenge, offer}
use Rattle.reached.specs.Calls.{Call, after}
use Rattle.reached.specs.Offered.{Offered, Offers}
use Rattle.reached.specs.ReadAndOffered.{read_and_offered}

-- The account after an accepted reply that is no renewal, beside the one before: the same id, algorithm, seed and older seeds, the count lower by 1, and the
-- password whose hash is the one that was stored.
pub record SteppedDown (old new : Room) : Type 0 where
  pub same_id : new.id ≡ old.id
  pub same_algorithm : new.algorithm ≡ old.algorithm
  pub same_seed : new.seed ≡ old.seed
  pub same_older : new.older ≡ old.older
  pub count_lower : new.count + 1 ≡ old.count
  pub old_is_hash : old.password ≡ hash old.algorithm (bytes_of new.password)

-- The account after an accepted renewal, beside the one before: the same id, with the algorithm of that number, the new count, which isn't used up,
-- the new seed and password. R-5: the seed is none of those that were remembered, and the first seven of these are the older ones then. The present
-- password that was offered has the stored one as its hash, by the algorithm that the account had.
pub record Renewed (number count : ℕ) (seed : List ℕ) (new present : ℕ) (old room : Room) : Type 0 where
  pub becomes : room ≡ renewed_room old number count seed new
  pub known : numbered number ≡ Some room.algorithm
  pub other : is_one_of (map lower_of seed) (remembered old) ≡ false
  pub unused : 1 < room.count
  pub old_is_hash : old.password ≡ hash old.algorithm (bytes_of present)

-- The account that the port waits for in the table s, as the table t has it.
abbrev pub waited_for : ℕ → State → State → Room
waited_for p s t = (room_at (stands_at p s.rooms) t).account

-- What a pass-phrase gives at a count, with the account's own algorithm and seed.
abbrev pub password_of : List ℕ → Room → ℕ → ℕ
password_of phrase room count = password room.algorithm phrase room.seed count

-- What was done in the table s is that the account i logged in: the answer is that count, and the account has it then, with that password and its
-- algorithm and seeds as before.
pub record Accepts (i count new : ℕ) (s : State) (done : After Replied) : Type 0 where
  pub answered : done.answer ≡ Ok count
  pub kept : account_of i done.state ≡ record {
    id = i;
    algorithm = (account_of i s).algorithm;
    seed = (account_of i s).seed;
    older = (account_of i s).older;
    count = count;
    password = new;
  }

-- "the generator's reply .., in hex or words", plain; and R-6's of the types `hex` and `word`.
abbrev pub replies_of : ℕ → List (List ℕ)
replies_of p = hex_of p ∷ words_of p ∷ login_text ReplyType.Hex p ∷ login_text ReplyType.Word p ∷ []

-- Challenge, in the table s, writes a text into the buffer; read, it gives an algorithm, a count and a seed, and has R-6's mark; with them and the
-- pass-phrase the generator gives a password; and that is accepted in the table t, the same or a later one: from any text that is read to it, such as
-- in hex or in words, plain or extended, and R-7, from its eight raw bytes with no text. The algorithm is the account's own, the count is the stored one
-- less 1, and the account has then what the pass-phrase gives at it.
pub record Day (p i : ℕ) (phrase buffer : List ℕ) (s t : State) : Type 0 where
  pub written : ℕ
  pub algorithm : Algorithm
  pub count : ℕ
  pub start : ℕ
  pub len : ℕ
  pub used : ℕ
  pub generated_as : ℕ
  pub challenge-written : challenge p (length buffer) s ≡ Ok written
  pub challenge_read : challenge_of (take written (leaves (Ok written) (challenge_for p s) buffer))
      ≡ a_challenge algorithm count start len used true
  pub password_generated :
      generated (algorithm_number algorithm) phrase (seed_of (take written (leaves (Ok written) (challenge_for p s) buffer))) count
      ≡ Ok generated_as
  pub algorithm_own : algorithm ≡ (account_of i s).algorithm
  pub count_less : count + 1 ≡ (account_of i s).count
  pub generated_is : generated_as ≡ password_of phrase (account_of i s) count
  pub read_accepted : (text : List ℕ) → reply_text_of text ≡ a_login generated_as → Accepts i count generated_as t (read_and_offered p text t)
  pub each_accepted : Each (λ (text : List ℕ). Accepts i count generated_as t (read_and_offered p text t)) (replies_of generated_as)
  pub raw_accepted : Accepts i count generated_as t (offer p (number_of (bytes_of generated_as)) t)

-- A wrong reply, which is answered with that refusal: 61, or 62 at the third in a row. It changes the port's own record, and the port leaves;
-- the accounts and the other ports' records are as they were.
pub record WrongReply (why : Refusal) (c : Call) (s : State) : Type 0 where
  pub port : ℕ
  pub what : Offered
  pub offered : Offers port what c
  pub answered : why ≡ wrong_answer (port_of port s)
  pub changed : after c s ≡ steps.leaves port (with_port port (wrongly (port_of port s)) s)
