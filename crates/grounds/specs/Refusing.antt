-- The refusals of the checks, the readers and the writers go by their rows.
use Rattle.std.specs.Prelude.{ℕ, ◌+◌, ◌*◌, ◌/◌, ◌≡◌, refl, Bool, true, false, cond, not, ◌&&◌, ◌||◌, List}
use Rattle.std.specs.Prelude.{[], ◌∷◌, ◌++◌, map, eqb, leb, ltb, length, take, Option, Some, None, Ok, Err, Result}
use Rattle.std.specs.Prelude.{drop}
use Rattle.std.proofs.Common.{arith, sym, ap, ap₂, ◌∙◌, subst, lt-ltb, le-ltb, ltb-true, ltb-false, leb-true, leb-false}
use Rattle.std.proofs.lemmas.Bool.{false≢true}
use Rattle.std.proofs.Math.Bool.{not-not}
use Rattle.refusal.specs.declared.Refusal.{Refusal}
use Rattle.refusal.specs.Answers.{Checked, Reading, Written}
use Rattle.refusal.specs.Checks.{unless, read_checked}
use Rattle.refusal.specs.Laws.{in_parts}
use Rattle.text.specs.Kinds.{lower_of}
use Rattle.text.specs.Tests.{every, same, both, cases}
use Rattle.text.specs.Scan.{tokens, unspaced}
use Rattle.text.specs.Digits.{number_of}
use Rattle.text.specs.Put.{written_of}
use Rattle.text.specs.Counts.{is_count}
use Rattle.block.specs.Digest.{digest_of}
use Rattle.password.specs.PhraseAndSeed.{plain, phrase_checked, seed_checked}
use Rattle.password.specs.declared.algorithm.Algorithm.{Algorithm}
use Rattle.password.specs.Algorithm.{algorithm_number, algorithm_name, algorithm_by, numbered, named, algorithm_checked}
use Rattle.password.specs.Password.{generated_by, generated}
use Rattle.dictionary.specs.Dictionary.{place_of}
use Rattle.dictionary.proofs.InOrder.{found_word}
use Rattle.sixwords.specs.Places.{joined, all_places, number_of as places_number}
use Rattle.hex_text.specs.Hex.{sixteen_digits, hex_reading}
use Rattle.reply.specs.Reply.{is_word, six_words, upper_text, summed, marks_of, place_in, found_reading, six_reading, reading_of}
use Rattle.reply.specs.Laws.{spelt_token, six_parts}
use Rattle.extended.specs.declared.reply_types.ReplyType.{ReplyType}
use Rattle.extended.specs.declared.reply_texts.ReplyText.{ReplyText}
use Rattle.extended.specs.ReplyTypes.{type_name, type_number, type_by, typed, type_numbered, type_checked, type_in, is_init, is_hex}
use Rattle.extended.specs.ReplyTexts.{
  part_at,
  present_at,
  new_at,
  colons,
  colons_of,
  password_by,
  renewal_in,
  typed_in,
  Said,
  layout_checked,
  extended_of,
  said_in,
  read_to,
  reply_text_of,
  text_checked,
}
use Rattle.extended.specs.ReplyWriting.{renewal_checked, text_by_numbers, extended_written}
use Rattle.challenge.specs.declared.reading.Challenge.{Challenge}
use Rattle.challenge.specs.Challenges.{
  opening,
  token_at,
  end_of,
  count_at,
  seed_at,
  terminated,
  challenge_of,
  text_by_number,
  challenge_written_by,
  challenge_written,
}
use Rattle.cards.specs.CardChecks.{challenge_checked, count_of, card_checked}
use Rattle.cards.specs.Cards.{card_of, card_written}
use Rattle.accounts.specs.Rooms.{Room, remembered}
use Rattle.accounts.specs.Accounts.{count_within, is_one_of, seed_other, new_checked, values_checked}
use Rattle.refusal.specs.Numbers.{checked_numbers}
use Rattle.reached.specs.Calls.{Answer, written_answer, numbers}
use Rattle.grounds.specs.Listed.{read_number, written_number, reply_number, challenge_number}
use Rattle.grounds.specs.Conditions.{
  Row,
  Exactly,
  phrase_rows,
  algorithm_rows,
  seed_rows,
  new_rows,
  values_rows,
  room_rows,
  challenge_rows,
  places_found,
  is_known,
  sum_right,
  words_known,
  words_right,
  word_rows,
  reply_rows,
  is_plain,
  is_type,
  type_of,
  part_rows,
  text_rows,
  extended_rows,
  card_rows,
}
use Rattle.grounds.specs.Exactly.{
  listed_as,
  Follows,
  exactly,
  no_rows,
  test_row,
  behind,
  behind_test,
  otherwise,
  then_check,
  then_test,
}

-- ---- what an answer refuses

abbrev pub answer_checked : Answer → Checked
answer_checked Answer.Done = Ok tt
answer_checked (Answer.Count count) = Ok tt
answer_checked (Answer.Wrote n) = Ok tt
answer_checked (Answer.Refused why) = Err why

pub answer_exactly : (a : Answer) (rows : List Row) → Follows (answer_checked a) rows → Exactly (numbers a).0.0 rows
answer_exactly Answer.Done rows f = exactly (Ok tt) rows f 0 refl
answer_exactly (Answer.Count count) rows f = exactly (Ok tt) rows f 0 refl
answer_exactly (Answer.Wrote n) rows f = exactly (Ok tt) rows f 0 refl
answer_exactly (Answer.Refused why) rows f = exactly (Err why) rows f (listed_as why) refl

abbrev pub written_checked : Written → Checked
written_checked w = answer_checked (written_answer w)

checked_exactly : (check : Checked) (rows : List Row) → Follows check rows → Exactly (checked_numbers check).0 rows
checked_exactly (Ok _) rows f = exactly (Ok tt) rows f 0 refl
checked_exactly (Err why) rows f = exactly (Err why) rows f (listed_as why) refl

read_exactly : (r : Reading) (rows : List Row) → Follows (read_checked r) rows → Exactly (read_number r) rows
read_exactly (Ok password) rows f = exactly (Ok tt) rows f 0 refl
read_exactly (Err why) rows f = exactly (Err why) rows f (listed_as why) refl

written_exactly : (w : Written) (rows : List Row) → Follows (written_checked w) rows → Exactly (written_number w) rows
written_exactly (Ok n) rows f = exactly (Ok tt) rows f 0 refl
written_exactly (Err why) rows f = exactly (Err why) rows f (listed_as why) refl

-- ---- a pass-phrase, a seed, an account's new values

phrase_rows_lem : (phrase : List ℕ) → Follows (phrase_checked phrase) (phrase_rows phrase)
phrase_rows_lem phrase =
    let next = otherwise (λ (c : Checked). c) Err (λ why. refl) in
    next (ltb (length phrase) 10) Refusal.PhraseShort _ _
    (next (ltb 63 (length phrase)) Refusal.PhraseLong (Ok tt) [] (no_rows (Ok tt) refl))

pub phrase_exactly : (phrase : List ℕ) → Exactly (checked_numbers (phrase_checked phrase)).0 (phrase_rows phrase)
phrase_exactly phrase = checked_exactly (phrase_checked phrase) (phrase_rows phrase) (phrase_rows_lem phrase)

pub seed_rows_lem : (seed : List ℕ) → Follows (seed_checked seed) (seed_rows seed)
unfolding Follows
seed_rows_lem seed rest = go (leb 1 (length seed) && leb (length seed) 16) (plain seed)
  where
    go : (a b : Bool)
        → unless listed_as (cond a (cond b (Ok tt) (Err Refusal.SeedCharacter)) (Err Refusal.SeedLength)) rest
        ≡ cond (not a) 23 (cond (not b) 24 rest)
    go true true = refl
    go true false = refl
    go false b = refl

pub seed_exactly : (seed : List ℕ) → Exactly (checked_numbers (seed_checked seed)).0 (seed_rows seed)
seed_exactly seed = checked_exactly (seed_checked seed) (seed_rows seed) (seed_rows_lem seed)

-- The algorithm that a test finds: 21 where it finds neither.
found_rows : (test : Algorithm → Bool) → Follows (algorithm_checked (algorithm_by test)) ((21, not (test Algorithm.Md5 || test Algorithm.Sha1)) ∷ [])
unfolding Follows
found_rows test rest = go (test Algorithm.Md5) (test Algorithm.Sha1)
  where
    go : (a b : Bool)
        → unless listed_as (algorithm_checked (cond a (Some Algorithm.Md5) (cond b (Some Algorithm.Sha1) None))) rest
        ≡ cond (not (a || b)) 21 rest
    go true b = refl
    go false true = refl
    go false false = refl

pub algorithm_rows_lem : (number : ℕ) → Follows (algorithm_checked (numbered number)) (algorithm_rows number)
algorithm_rows_lem number = found_rows (λ (algorithm : Algorithm). eqb number (algorithm_number algorithm))

new_rows_lem : (number count : ℕ) (seed : List ℕ) → Follows (new_checked number count seed) (new_rows number count seed)
unfolding new_checked
new_rows_lem number count seed =
    then_test (leb 2 count && leb count 9999) _ Refusal.CountOutside _ _ refl
    (λ a. then_check (algorithm_checked (numbered number)) _ (algorithm_rows number) _ (algorithm_rows_lem number)
    (λ b. then_check (seed_checked seed) _ (seed_rows seed) _ (seed_rows_lem seed) (λ c. no_rows (Ok tt) refl)))

pub values_rows_lem : (number count : ℕ) (seed : List ℕ) (present : Room)
    → Follows (values_checked number count seed present) (values_rows number count seed present)
unfolding new_checked values_checked
values_rows_lem number count seed present =
    subst (λ (c : Checked). Follows c (values_rows number count seed present))
    (in_parts (count_within count ∷ algorithm_checked (numbered number) ∷ seed_checked seed ∷ []) (seed_other seed present ∷ []))
    (then_check (new_checked number count seed) _ (new_rows number count seed) _ (new_rows_lem number count seed)
    (λ c. then_test (not (is_one_of (map lower_of seed) (remembered present))) _ Refusal.SeedSame _ _
    (not-not (is_one_of (map lower_of seed) (remembered present))) (λ d. no_rows (Ok tt) refl)))

pub values_exactly : (number count : ℕ) (seed : List ℕ) (present : Room)
    → Exactly (checked_numbers (values_checked number count seed present)).0 (values_rows number count seed present)
values_exactly number count seed present =
    checked_exactly (values_checked number count seed present) (values_rows number count seed present) (values_rows_lem number count seed present)

pub generator_exactly : (number : ℕ) (phrase seed : List ℕ) (count : ℕ)
    → Exactly (read_number (generated number phrase seed count)) (algorithm_rows number ++ phrase_rows phrase ++ seed_rows seed ++ (13, ltb 9999 count) ∷ [])
unfolding generated generated_by
generator_exactly number phrase seed count =
    let next = behind read_checked Err (λ why. refl) in
    read_exactly (generated number phrase seed count) _
    (next (algorithm_checked (numbered number)) _ (algorithm_rows number) _ (algorithm_rows_lem number)
    (λ a. next (phrase_checked phrase) _ (phrase_rows phrase) _ (phrase_rows_lem phrase)
    (λ b. next (seed_checked seed) _ (seed_rows seed) _ (seed_rows_lem seed)
    (λ c. otherwise read_checked Err (λ why. refl) (ltb 9999 count) Refusal.CountHigh _ [] (no_rows (Ok tt) refl)))))

-- ---- writers

pub not-leb : (a b : ℕ) → not (leb a b) ≡ ltb b a
not-leb a b =
    cases (leb a b) (λ e. ap not e ∙ sym (le-ltb b a (leb-true a b e))) (λ e. ap not e ∙ sym (lt-ltb b a (leb-false a b e)))

pub room_rows_lem : (room : ℕ) (text : List ℕ) → Follows (written_checked (written_of room text)) (room_rows room text)
unfolding Follows
room_rows_lem room text rest = go (leb (length text) room) ∙ ap (λ (b : Bool). cond b 40 rest) (not-leb (length text) room)
  where
    go : (t : Bool)
        → unless listed_as (written_checked (cond t (Ok (length text)) (Err Refusal.BufferShort))) rest ≡ cond (not t) 40 rest
    go true = refl
    go false = refl

pub writer_exactly : (room : ℕ) (text : List ℕ) → Exactly (written_number (written_of room text)) (room_rows room text)
writer_exactly room text = written_exactly (written_of room text) (room_rows room text) (room_rows_lem room text)

pub digest_exactly : (digest : List ℕ → List ℕ) (m : List ℕ) (room : ℕ)
    → Exactly (written_number (digest_of digest m room)) ((12, ltb 4096 (length m)) ∷ room_rows room (digest m))
digest_exactly digest m room =
    written_exactly (digest_of digest m room) _
    (otherwise written_checked Err (λ why. refl) (ltb 4096 (length m)) Refusal.InputLong _ _ (room_rows_lem room (digest m)))

pub challenge_writer_exactly : (number : ℕ) (seed : List ℕ) (count room : ℕ)
    → Exactly (written_number (challenge_written number seed count room))
    (algorithm_rows number ++ seed_rows seed ++ (13, ltb 9999 count) ∷ room_rows room (text_by_number number seed count))
unfolding challenge_written challenge_written_by
challenge_writer_exactly number seed count room =
    let next = behind written_checked Err (λ why. refl) in
    written_exactly (challenge_written number seed count room) _
    (next (algorithm_checked (numbered number)) _ (algorithm_rows number) _ (algorithm_rows_lem number)
    (λ a. next (seed_checked seed) _ (seed_rows seed) _ (seed_rows_lem seed)
    (λ b. otherwise written_checked Err (λ why. refl) (ltb 9999 count) Refusal.CountHigh _ _
    (room_rows_lem room (text_by_number number seed count)))))

-- ---- a challenge, and the card

challenge_rows_lem : (text : List ℕ) → Follows (challenge_checked (challenge_of text)) (challenge_rows text)
unfolding challenge_of algorithm_name
challenge_rows_lem text =
    let step = behind_test challenge_checked Err (λ why. refl) in
    let check = behind challenge_checked Err (λ why. refl) in
    let seed = token_at text (seed_at text) in
    step (same (take 4 text) opening) _ Refusal.OpeningWrong _ _ refl
    (λ a. check (algorithm_checked (named (token_at text 4))) _ _ _ (found_rows (λ (algorithm : Algorithm). same (token_at text 4) (algorithm_name algorithm)))
    (λ b. step (is_count (token_at text (count_at text))) _ Refusal.CountUnread _ _ refl
    (λ c. check (seed_checked seed) _ (seed_rows seed) _ (seed_rows_lem seed)
    (λ d. step (terminated (drop (end_of text (seed_at text)) text)) _ Refusal.SeedUnended _ _ refl (λ e. no_rows (Ok tt) refl)))))

pub challenge_exactly : (text : List ℕ) → Exactly (challenge_number (challenge_of text)) (challenge_rows text)
challenge_exactly text = go (challenge_of text) (challenge_rows_lem text)
  where
    go : (c : Result Challenge Refusal) → Follows (challenge_checked c) (challenge_rows text) → Exactly (challenge_number c) (challenge_rows text)
    go (Ok c) f = exactly (Ok tt) (challenge_rows text) f 0 refl
    go (Err why) f = exactly (Err why) (challenge_rows text) f (listed_as why) refl

-- "card lines not 1 to 99 or more than the count"
lines : (k n : ℕ) → not (leb 1 k && leb k 99 && leb k n) ≡ (not (leb 1 k && leb k 99) || ltb n k)
lines k n = go (leb 1 k && leb k 99)
  where
    go : (t : Bool) → not (t && leb k n) ≡ (not t || ltb n k)
    go true = not-leb k n
    go false = refl

pub card_rows_lem : (phrase challenge : List ℕ) (k : ℕ) → Follows (card_checked phrase challenge k) (card_rows phrase challenge k)
unfolding card_checked
card_rows_lem phrase challenge k =
    let n = count_of (challenge_of challenge) in
    then_check (phrase_checked phrase) _ (phrase_rows phrase) _ (phrase_rows_lem phrase)
    (λ a. then_check (challenge_checked (challenge_of challenge)) _ (challenge_rows challenge) _ (challenge_rows_lem challenge)
    (λ b. test_row (leb 1 k && leb k 99 && leb k n) _ Refusal.LinesOutside (lines k n)))

pub card_exactly : (phrase challenge : List ℕ) (k room : ℕ)
    → Exactly (written_number (card_written phrase challenge k room)) (card_rows phrase challenge k ++ room_rows room (card_of phrase challenge k))
unfolding card_written
card_exactly phrase challenge k room =
    written_exactly (card_written phrase challenge k room) _
    (behind written_checked Err (λ why. refl) (card_checked phrase challenge k) _ (card_rows phrase challenge k) _
    (card_rows_lem phrase challenge k) (λ a. room_rows_lem room (card_of phrase challenge k)))

-- ---- a reply

doubled : (m : ℕ) → ltb 0 (0 + 2 * m) ≡ ltb 0 m
doubled m =
    cases (ltb 0 m) (λ t. lt-ltb 0 (0 + 2 * m) (omega (arith, ltb-true 0 m t)) ∙ sym t)
    (λ t. le-ltb 0 (0 + 2 * m) (omega (arith, ltb-false 0 m t)) ∙ sym t)

-- Some mark is set unless each word is known.
some_marked : (found : List (Option ℕ)) → ltb 0 (marks_of found) ≡ not (every is_known found)
unfolding marks_of every
some_marked [] = refl
some_marked (Some i ∷ found) = doubled (marks_of found) ∙ some_marked found
some_marked (None ∷ found) = lt-ltb 0 (1 + 2 * marks_of found) (omega arith)

-- Words that are looked up: 31 unless each is known, and then the sum.
found_first : (found : List (Option ℕ)) (rest : ℕ)
    → unless listed_as (read_checked (found_reading found)) rest
    ≡ cond (not (every is_known found)) 31 (unless listed_as (read_checked (summed (places_number (map place_in found)))) rest)
unfolding found_reading
found_first found rest =
    go (ltb 0 (marks_of found))
    ∙ ap (λ (b : Bool). cond b 31 (unless listed_as (read_checked (summed (places_number (map place_in found)))) rest)) (some_marked found)
  where
    go : (b : Bool)
        → unless listed_as (read_checked (cond b (Err (Refusal.WordUnknown (marks_of found))) (summed (places_number (map place_in found))))) rest
        ≡ cond b 31 (unless listed_as (read_checked (summed (places_number (map place_in found)))) rest)
    go true = refl
    go false = refl

sum_first : (s : List ℕ) (rest : ℕ) → all_places s ≡ true
    → unless listed_as (read_checked (summed (places_number s))) rest ≡ cond (not (sum_right s)) 32 rest
unfolding places_number
sum_first s rest e = go (all_places s) e (sum_right s)
  where
    go : (a : Bool) → a ≡ true → (b : Bool)
        → unless listed_as (read_checked (summed (cond (a && b) (Some (joined 0 s / 4)) None))) rest ≡ cond (not b) 32 rest
    go true e true = refl
    go true e false = refl
    go false e b = absurd (false≢true e)

-- Words that are known stand at places of the dictionary.
known_places : (ts : List (List ℕ)) → every is_word ts ≡ true → every is_known (map place_of (map upper_text ts)) ≡ true
    → all_places (map place_in (map place_of (map upper_text ts))) ≡ true
unfolding every all_places
known_places [] g k = refl
known_places (t ∷ ts) g k =
    ap₂ (λ (a b : Bool). a && b) (go (place_of (upper_text t)) refl known.0) (known_places ts words.1 known.1)
  where
    words : (is_word t ≡ true) × (every is_word ts ≡ true)
    words = both (is_word t) (every is_word ts) g

    known : (is_known (place_of (upper_text t)) ≡ true) × (every is_known (map place_of (map upper_text ts)) ≡ true)
    known = both (is_known (place_of (upper_text t))) (every is_known (map place_of (map upper_text ts))) k

    go : (r : Option ℕ) → place_of (upper_text t) ≡ r → is_known r ≡ true → ltb (place_in r) 2048 ≡ true
    go (Some i) e h = lt-ltb i 2048 ((found_word (upper_text t) (spelt_token t words.0) i).0 e).0
    go None e h = absurd (false≢true h)

words_first : (text : List ℕ) (rest : ℕ) → six_words (tokens text) ≡ true
    → unless listed_as (read_checked (found_reading (places_found text))) rest
    ≡ cond (not (words_known text)) 31 (cond (words_known text && not (words_right text)) 32 rest)
words_first text rest e = found_first (places_found text) rest ∙ go (words_known text) refl
  where
    go : (k : Bool) → words_known text ≡ k
        → cond (not k) 31 (unless listed_as (read_checked (summed (places_number (map place_in (places_found text))))) rest)
        ≡ cond (not k) 31 (cond (k && not (words_right text)) 32 rest)
    go true f = sum_first (map place_in (places_found text)) rest (known_places (tokens text) (six_parts (tokens text) e).1 f)
    go false f = refl

-- Otherwise hex.
hex_rows : (s : List ℕ) → Follows (read_checked (hex_reading s)) ((33, not (sixteen_digits s)) ∷ [])
unfolding Follows hex_reading
hex_rows s rest = go (sixteen_digits s)
  where
    go : (t : Bool)
        → unless listed_as (read_checked (cond t (Ok (number_of 16 s)) (Err Refusal.ReplyUnread))) rest ≡ cond (not t) 33 rest
    go true = refl
    go false = refl

pub hex_reader_exactly : (s : List ℕ) → Exactly (read_number (hex_reading s)) ((33, not (sixteen_digits s)) ∷ [])
hex_reader_exactly s = read_exactly (hex_reading s) _ (hex_rows s)

reply_rows_lem : (text : List ℕ) → Follows (read_checked (reading_of text)) (reply_rows text)
unfolding Follows reading_of
reply_rows_lem text rest = go (ltb 128 (length text)) (six_words (tokens text)) refl
  where
    go : (a b : Bool) → six_words (tokens text) ≡ b
        → unless listed_as (read_checked (cond a (Err Refusal.ReplyLong)
        (cond b (found_reading (places_found text)) (hex_reading (unspaced text))))) rest
        ≡ cond a 30
        (cond (b && not (words_known text)) 31
        (cond (b && words_known text && not (words_right text)) 32
        (cond (not b && not (sixteen_digits (unspaced text))) 33 rest)))
    go true b e = refl
    go false true e = words_first text rest e
    go false false e = hex_rows (unspaced text) rest

pub reply_exactly : (text : List ℕ) → Exactly (read_number (reading_of text)) (reply_rows text)
reply_exactly text = read_exactly (reading_of text) (reply_rows text) (reply_rows_lem text)

-- ---- R-6 and R-7: reading the text of a reply, plain or extended

six_rows : (text : List ℕ) → Follows (read_checked (six_reading text)) (word_rows text ++ (33, not (six_words (tokens text))) ∷ [])
unfolding Follows six_reading
six_rows text rest = go (six_words (tokens text)) refl
  where
    go : (b : Bool) → six_words (tokens text) ≡ b
        → unless listed_as (read_checked (cond b (found_reading (places_found text)) (Err Refusal.ReplyUnread))) rest
        ≡ cond (b && not (words_known text)) 31 (cond (b && words_known text && not (words_right text)) 32 (cond (not b) 33 rest))
    go true e = words_first text rest e
    go false e = refl

-- The part with a password, by its type.
part_rows_lem : (kind : ReplyType) (part : List ℕ) → Follows (read_checked (password_by kind part)) (part_rows kind part)
unfolding password_by
part_rows_lem kind part = go (is_hex kind)
  where
    go : (b : Bool) → Follows (read_checked (cond b (hex_reading (unspaced part)) (six_reading part)))
        (cond b ((33, not (sixteen_digits (unspaced part))) ∷ []) (word_rows part ++ (33, not (six_words (tokens part))) ∷ []))
    go true = hex_rows (unspaced part)
    go false = six_rows part

pub part_exactly : (kind : ReplyType) (part : List ℕ) → Exactly (read_number (password_by kind part)) (part_rows kind part)
part_exactly kind part = read_exactly (password_by kind part) (part_rows kind part) (part_rows_lem kind part)

-- The type that a test finds: 34 where it finds none of the four.
type_rows : (test : ReplyType → Bool) → Follows (type_checked (type_by test))
    ((34, not (test ReplyType.Hex || test ReplyType.Word || test ReplyType.InitHex || test ReplyType.InitWord)) ∷ [])
unfolding Follows
type_rows test rest = go (test ReplyType.Hex) (test ReplyType.Word) (test ReplyType.InitHex) (test ReplyType.InitWord)
  where
    go : (a b c d : Bool)
        → unless listed_as (type_checked (cond a (Some ReplyType.Hex) (cond b (Some ReplyType.Word)
        (cond c (Some ReplyType.InitHex) (cond d (Some ReplyType.InitWord) None))))) rest
        ≡ cond (not (a || b || c || d)) 34 rest
    go true b c d = refl
    go false true c d = refl
    go false false true d = refl
    go false false false true = refl
    go false false false false = refl

layout_rows_lem : (text : List ℕ) → Follows (layout_checked text)
    ((30, ltb 256 (length text)) ∷ (34, not (is_type (part_at text 0))) ∷ (35, not (eqb (colons text) (colons_of (type_of text)))) ∷ [])
unfolding layout_checked type_name
layout_rows_lem text =
    then_test (leb (length text) 256) _ Refusal.ReplyLong _ _ (not-leb (length text) 256)
    (λ a. then_check (type_checked (typed (part_at text 0))) _ ((34, not (is_type (part_at text 0))) ∷ []) _
    (type_rows (λ (kind : ReplyType). same (part_at text 0) (type_name kind)))
    (λ b. then_test (eqb (colons text) (colons_of (type_of text))) _ Refusal.PartsWrong _ _ refl (λ c. no_rows (Ok tt) refl)))

-- A login is refused as its password is.
as_login : (r : Reading) → read_checked r ≡ text_checked (read_to (Said.Login r))
as_login (Ok p) = refl
as_login (Err why) = refl

-- What a text says is refused with, once it is laid out: the new password, then the present one.
typed_rows : (kind : ReplyType) (text : List ℕ)
    → Follows (text_checked (read_to (typed_in kind text)))
    (cond (is_init kind) (part_rows kind (part_at text (new_at text))) [] ++ part_rows kind (part_at text (present_at text)))
unfolding typed_in renewal_in
typed_rows kind text = go (is_init kind)
  where
    new : Reading
    new = password_by kind (part_at text (new_at text))

    present : Reading
    present = password_by kind (part_at text (present_at text))

    as_renewal : (number count start len : ℕ) (n p : Reading)
        → unless Err (read_checked n) (read_checked p) ≡ text_checked (read_to (Said.Renewal number count start len n p))
    as_renewal number count start len (Ok n) (Ok p) = refl
    as_renewal number count start len (Ok n) (Err why) = refl
    as_renewal number count start len (Err why) p = refl

    go : (b : Bool) → Follows (text_checked (read_to (cond b (renewal_in kind text) (Said.Login present))))
        (cond b (part_rows kind (part_at text (new_at text))) [] ++ part_rows kind (part_at text (present_at text)))
    go true =
        subst (λ (c : Checked). Follows c (part_rows kind (part_at text (new_at text)) ++ part_rows kind (part_at text (present_at text))))
        (as_renewal _ _ _ _ new present)
        (then_check (read_checked new) (read_checked present) _ _ (part_rows_lem kind (part_at text (new_at text)))
        (λ e. part_rows_lem kind (part_at text (present_at text))))
    go false =
        subst (λ (c : Checked). Follows c (part_rows kind (part_at text (present_at text)))) (as_login present)
        (part_rows_lem kind (part_at text (present_at text)))

extended_rows_lem : (text : List ℕ) → Follows (text_checked (read_to (extended_of text)))
    (((30, ltb 256 (length text)) ∷ (34, not (is_type (part_at text 0))) ∷ (35, not (eqb (colons text) (colons_of (type_of text)))) ∷ [])
    ++ (cond (is_init (type_of text)) (part_rows (type_of text) (part_at text (new_at text))) [] ++ part_rows (type_of text) (part_at text (present_at text))))
unfolding extended_of
extended_rows_lem text =
    behind (λ (said : Said). text_checked (read_to said)) Said.Refused (λ why. refl) (layout_checked text) (typed_in (type_of text) text) _ _
    (layout_rows_lem text) (λ e. typed_rows (type_of text) text)

text_rows_lem : (text : List ℕ) → Follows (text_checked (reply_text_of text)) (text_rows text)
unfolding Follows reply_text_of said_in
text_rows_lem text = go (is_plain text)
  where
    go : (b : Bool) → Follows (text_checked (read_to (cond b (Said.Login (reading_of text)) (extended_of text))))
        ((30, not b && ltb 256 (length text)) ∷ (34, not b && not (is_type (part_at text 0)))
        ∷ (35, not b && not (eqb (colons text) (colons_of (type_of text))))
        ∷ cond b (reply_rows text) (cond (is_init (type_of text)) (part_rows (type_of text) (part_at text (new_at text))) []
        ++ part_rows (type_of text) (part_at text (present_at text))))
    go true = subst (λ (c : Checked). Follows c (reply_rows text)) (as_login (reading_of text)) (reply_rows_lem text)
    go false = extended_rows_lem text

pub text_exactly : (text : List ℕ) → Exactly (reply_number (reply_text_of text)) (text_rows text)
text_exactly text = by (reply_text_of text) (text_rows_lem text)
  where
    by : (r : Result ReplyText Refusal) → Follows (text_checked r) (text_rows text) → Exactly (reply_number r) (text_rows text)
    by (Ok (ReplyText.Login password)) f = exactly (Ok tt) (text_rows text) f 0 refl
    by (Ok (ReplyText.Renewal number count start len new present)) f = exactly (Ok tt) (text_rows text) f 0 refl
    by (Err why) f = exactly (Err why) (text_rows text) f (listed_as why) refl

-- The writer.
pub extended_writer_exactly : (type password number count : ℕ) (seed : List ℕ) (new room : ℕ)
    → Exactly (written_number (extended_written type password number count seed new room))
    (extended_rows type number count seed ++ room_rows room (text_by_numbers type password number count seed new))
unfolding extended_written renewal_checked
extended_writer_exactly type password number count seed new room =
    let next = behind written_checked Err (λ why. refl) in
    written_exactly (extended_written type password number count seed new room) _
    (next (type_checked (type_numbered type)) _ _ _ (type_rows (λ (kind : ReplyType). eqb type (type_number kind)))
    (λ a. next (renewal_checked (type_in (type_numbered type)) number count seed) _ _ _ (go (is_init (type_in (type_numbered type))))
    (λ b. room_rows_lem room (text_by_numbers type password number count seed new))))
  where
    go : (b : Bool) → Follows (cond b (new_checked number count seed) (Ok tt)) (cond b (new_rows number count seed) [])
    go true = new_rows_lem number count seed
    go false = no_rows (Ok tt) refl
