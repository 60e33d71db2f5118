-- 02, R-6 and R-7: "A written extended reply reads back as the same one", for all four types and all that the writer takes.
use Rattle.std.specs.Prelude.{ℕ, ◌^◌, ◌≤◌, ◌<◌, ◌≡◌, Bool, ◌||◌, eqb, length, take, Ok, Err, Result}
use Rattle.std.proofs.Math.Path.{refl, sym, ap, subst}
use Rattle.std.proofs.Common.{◌∙◌, ap₂, true≢false, length-append, eqb-true}
use Rattle.std.proofs.Math.Bool.{true, false, cond}
use mathlib.Core.List.{List, [], ◌∷◌, ◌++◌, append_assoc, append-nil}
use native.Mathlib.Omega.{arith}
use Rattle.refusal.specs.Laws.{not_refused}
use Rattle.text.specs.Kinds.{is_solid, is_letter, is_digit, in_part}
use Rattle.text.specs.KindLaws.{past_space_solid}
use Rattle.text.specs.Quoted.{codes}
use Rattle.text.specs.Tests.{every, every_weaker, either}
use Rattle.text.specs.Scan.{unspaced}
use Rattle.text.specs.Digits.{is_hex as is_hex_digit}
use Rattle.text.specs.DigitLaws.{digits_hex}
use Rattle.text.specs.Counts.{width_of, decimal_of}
use Rattle.text.specs.CountLaws.{width_few, length_decimal}
use Rattle.text.specs.Put.{leaves}
use Rattle.text.specs.PutLaws.{written_front}
use Rattle.password.specs.declared.algorithm.Algorithm.{Algorithm}
use Rattle.password.specs.Algorithm.{algorithm_name, numbered, algorithm_in}
use Rattle.password.specs.AlgorithmLaws.{numbered-number, name_few}
use Rattle.password.specs.PhraseAndSeed.{plain, seed_checked}
use Rattle.password.specs.PhraseAndSeedLaws.{good_seed}
use Rattle.hex_text.specs.Hex.{hex_of, hex_reading}
use Rattle.sixwords.specs.Places.{places_of}
use Rattle.sixwords.specs.Laws.{places_all}
use Rattle.sixwords.specs.Spelling.{six_words_of, words_of}
use Rattle.reply.specs.Reply.{six_reading}
use Rattle.accounts.specs.Accounts.{new_checked}
use Rattle.extended.specs.declared.reply_types.ReplyType.{ReplyType}
use Rattle.extended.specs.declared.reply_texts.ReplyText.{ReplyText}
use Rattle.extended.specs.ReplyTypes.{type_name, type_number, type_numbered, type_checked, type_in, is_init, is_hex}
use Rattle.extended.specs.ReplyTexts.{colons, password_by, Said, read_to, reply_text_of, seed_part, a_login, a_renewal}
use Rattle.extended.specs.ReplyWriting.{
  password_text,
  login_text,
  values_text,
  tail_text,
  extended_text,
  renewal_checked,
  text_by_numbers,
  extended_written,
}
use Rattle.extended.specs.ReplyWritingLaws.{password_few, login_few, length_tail, good_values}
use Rattle.readback.specs.LaidOut.{TwoParts, FourParts, OfPassword, Spaced, RenewalParts, Says}
use Rattle.readback.specs.CountRead.{digits_decimal}
use Rattle.readback.specs.ChallengeRead.{plain_high, digit_high}
use Rattle.readback.specs.WordsRead.{places_words}
use Rattle.readback.specs.ReplyRead.{words_tokens, six_written_read, digits_written_read}
use Rattle.readback.specs.PartsRead.{no_colons, kind_no_colons, colons_append, tokens-every, white_in_part, words_in_part}
use Rattle.readback.specs.TypedParts.{found_by, type_known, two_said}
use Rattle.readback.specs.PartMeaning.{part_accepted}
use Rattle.readback.specs.RenewalMeaning.{renewal_accepted}
use Rattle.readback.specs.ParametersRead.{solid_last, solid_ends, three_words, name_read, count_read}
use Rattle.refusal.specs.declared.Refusal.{Refusal}

-- ---- a password

words_whole : (p : ℕ) → colons (words_of p) ≡ 0
words_whole p = (no_colons (words_of p)).1 (tokens-every in_part white_in_part (words_of p)
    (ap (every (every in_part)) (words_tokens p) ∙ words_in_part (six_words_of p) (places_words (places_of p) (places_all p))))

password_whole : (kind : ReplyType) (p : ℕ) → colons (password_text kind p) ≡ 0
unfolding password_text
password_whole kind p =
    either (λ (l : List ℕ). colons l ≡ 0) (is_hex kind) (λ e. kind_no_colons is_hex_digit refl (hex_of p) (digits_hex 16 p)) (λ e. words_whole p)

pub password_read : (kind : ReplyType) (p : ℕ) → p < 2 ^ 64 → password_by kind (password_text kind p) ≡ Ok p
unfolding password_by password_text
password_read kind p h = by (is_hex kind)
  where
    by : (k : Bool) → cond k (hex_reading (unspaced (cond k (hex_of p) (words_of p)))) (six_reading (cond k (hex_of p) (words_of p))) ≡ Ok p
    by true = digits_written_read p h
    by false = six_written_read p h

-- ---- the values of a renewal

name_solid : (a : Algorithm)
    → (every is_solid (algorithm_name a) ≡ true) × (colons (algorithm_name a) ≡ 0)
unfolding algorithm_name codes every colons
name_solid Algorithm.Md5 = (refl, refl)
name_solid Algorithm.Sha1 = (refl, refl)

values_laid : (algorithm : Algorithm) (count : ℕ) (seed : List ℕ)
    → values_text algorithm count seed ≡ algorithm_name algorithm ++ (32 ∷ (decimal_of count ++ (32 ∷ (seed ++ []))))
unfolding values_text
values_laid algorithm count seed = simp (append_assoc, append-nil)

module _ (algorithm : Algorithm) (count : ℕ) (seed : List ℕ) (low : count ≤ 9999) (good : seed_checked seed ≡ Ok tt) where
  abbrev part : List ℕ
  part = values_text algorithm count seed

  digits : every is_digit (decimal_of count) ≡ true
  digits = digits_decimal (width_of count) count

  count_solid : every is_solid (decimal_of count) ≡ true
  count_solid = every_weaker is_digit is_solid (λ b e. past_space_solid b (digit_high b e)) (decimal_of count) digits

  seed_solid : every is_solid seed ≡ true
  unfolding plain
  seed_solid = every_weaker (λ b. is_letter b || is_digit b) is_solid (λ b e. past_space_solid b (plain_high b e)) seed (good_seed seed good).2

  values_whole : colons part ≡ 0
  unfolding values_text colons plain
  values_whole = simp colons_append (omega (
    arith,
    (name_solid algorithm).1,
    kind_no_colons is_digit refl (decimal_of count) digits,
    kind_no_colons (λ b. is_letter b || is_digit b) refl seed (good_seed seed good).2,
  ))

  spaced : Spaced part (algorithm_name algorithm) (decimal_of count) seed
  unfolding every
  spaced =
      let name = name_solid algorithm in
      subst (λ (l : List ℕ). Spaced l (algorithm_name algorithm) (decimal_of count) seed) (sym (values_laid algorithm count seed))
      (three_words [] (algorithm_name algorithm) (32 ∷ []) (decimal_of count) (32 ∷ []) seed [] refl name.0 (name_few algorithm).0 refl (omega arith)
      count_solid (omega (arith, width_few count, length_decimal count)) refl (omega arith) (solid_ends seed [] seed_solid (good_seed seed good).0)
      (solid_last seed seed_solid) refl)

-- ---- the whole text

module _ (kind : ReplyType) (password : ℕ) where
  login_laid : login_text kind password ≡ type_name kind ++ 58 ∷ password_text kind password
  unfolding login_text
  login_laid = simp append_assoc

  login_parts : is_init kind ≡ false → TwoParts kind (login_text kind password) (password_text kind password)
  login_parts e = record { logs_in = e; laid = login_laid; whole = password_whole kind password }

module _ (kind : ReplyType) (password : ℕ) (algorithm : Algorithm) (count : ℕ) (seed : List ℕ) (new : ℕ) (low : count ≤ 9999)
    (good : seed_checked seed ≡ Ok tt) where
  abbrev text : List ℕ
  text = login_text kind password ++ tail_text kind algorithm count seed new

  whole_length : length text ≤ 96
  whole_length =
      omega (
        arith,
        length-append (login_text kind password) (tail_text kind algorithm count seed new),
        login_few kind password,
        length_tail kind algorithm count seed new,
        (name_few algorithm).1,
        width_few count,
        (good_seed seed good).1,
        password_few kind new,
      )

  renewal_parts : is_init kind ≡ true
      → FourParts kind text (password_text kind password) (values_text algorithm count seed) (password_text kind new)
  unfolding login_text tail_text
  renewal_parts e = record {
    renews = e;
    laid = simp append_assoc;
    present_whole = password_whole kind password;
    parameters_whole = values_whole algorithm count seed low good;
    new_whole = password_whole kind new;
  }

-- ---- what is written reads back

module _ (kind : ReplyType) (password number count : ℕ) (seed : List ℕ) (new : ℕ) (small : password < 2 ^ 64) (new-small : new < 2 ^ 64) where
  -- what the reader is to say, by where the seed starts
  abbrev saying : Bool → ℕ → Result ReplyText Refusal
  saying init start = cond init (a_renewal number count start (length seed) new password) (a_login password)

  login_written_read : is_init kind ≡ false → Says kind password number count seed new (login_text kind password)
  unfolding reply_text_of
  login_written_read e = record {
    start = 0;
    said = ap read_to (two_said kind (login_text kind password) (password_text kind password) (login_parts kind password e)
        (omega (arith, login_few kind password)) ∙ ap Said.Login (password_read kind password small))
        ∙ sym (ap (λ (k : Bool). saying k 0) e);
    seed_there = λ f. absurd (true≢false (sym f ∙ e));
  }

  module _ (e : is_init kind ≡ true) (checked : new_checked number count seed ≡ Ok tt) where
    abbrev algorithm : Algorithm
    algorithm = algorithm_in (numbered number)

    low : count ≤ 9999
    low = (good_values number count seed checked).0

    good : seed_checked seed ≡ Ok tt
    good = (good_values number count seed checked).2

    made : RenewalParts (login_text kind password ++ tail_text kind algorithm count seed new) number count seed
        (OfPassword new) (OfPassword password)
    made = record {
      kind = kind;
      present_part = password_text kind password;
      parameters = values_text algorithm count seed;
      new_part = password_text kind new;
      name = algorithm_name algorithm;
      word = decimal_of count;
      few = omega (arith, whole_length kind password algorithm count seed new low good);
      parts = renewal_parts kind password algorithm count seed new low good e;
      spaced = spaced algorithm count seed low good;
      algorithm_is = name_read algorithm ∙ numbered-number number algorithm (good_values number count seed checked).1;
      count_is = count_read count low;
      new_is = (part_accepted kind (password_text kind new) new).0 (password_read kind new new-small);
      present_is = (part_accepted kind (password_text kind password) password).0 (password_read kind password small);
    }

    renewal_written_read : Says kind password number count seed new (login_text kind password ++ tail_text kind algorithm count seed new)
    renewal_written_read =
        let read = (renewal_accepted _ number count seed new password).1 made in
        record { start = read.0; said = read.1 ∙ sym (ap (λ (k : Bool). saying k read.0) e); seed_there = λ _. read.2 }

  -- for every type, and all that the writer takes
  pub extended_written_read : renewal_checked kind number count seed ≡ Ok tt
      → Says kind password number count seed new (extended_text kind password (algorithm_in (numbered number)) count seed new)
  unfolding extended_text renewal_checked
  extended_written_read checked = by (is_init kind) refl checked
    where
      by : (k : Bool) → is_init kind ≡ k → cond k (new_checked number count seed) (Ok tt) ≡ Ok tt
          → Says kind password number count seed new
          (cond k (login_text kind password ++ tail_text kind (algorithm_in (numbered number)) count seed new) (login_text kind password))
      by true e f = renewal_written_read e f
      by false e f = login_written_read e

-- "at most 96 bytes"
pub extended_length : (kind : ReplyType) (password number count : ℕ) (seed : List ℕ) (new : ℕ) → renewal_checked kind number count seed ≡ Ok tt
    → length (extended_text kind password (algorithm_in (numbered number)) count seed new) ≤ 96
unfolding extended_text renewal_checked
extended_length kind password number count seed new checked = by (is_init kind) checked
  where
    by : (k : Bool) → cond k (new_checked number count seed) (Ok tt) ≡ Ok tt
        → length (cond k (login_text kind password ++ tail_text kind (algorithm_in (numbered number)) count seed new) (login_text kind password)) ≤ 96
    by true f =
        let good = good_values number count seed f in
        whole_length kind password (algorithm_in (numbered number)) count seed new good.0 good.2
    by false f = omega (arith, login_few kind password)

-- ---- what the writer left in a buffer reads back

pub extended_read_back : (type password number count : ℕ) (seed : List ℕ) (new : ℕ) (b b' : List ℕ) (n : ℕ) → password < 2 ^ 64 → new < 2 ^ 64
    → Ok n ≡ extended_written type password number count seed new (length b)
    → b' ≡ leaves (Ok n) (text_by_numbers type password number count seed new) b
    → (kind : ReplyType) × (type_number kind ≡ type) × Says kind password number count seed new (take n b')
unfolding extended_written
extended_read_back type password number count seed new b b' n small new-small wrote left =
    let kind = type_in (type_numbered type) in
    let text = text_by_numbers type password number count seed new in
    let past = not_refused Err (Ok n) (λ why f. let z : ◌≡◌ {A = ℕ} 0 1 = cc in omega arith) in
    let known = past (type_checked (type_numbered type)) _ (sym wrote) in
    let checked = past (renewal_checked kind number count seed) _ known.1 in
    let says = extended_written_read kind password number count seed new small new-small checked.0 in (
      kind,
      sym (eqb-true type (type_number kind) (found_by (λ k. eqb type (type_number k)) kind (type_known (type_numbered type) known.0))),
      subst (Says kind password number count seed new) (sym (written_front text b b' n (sym checked.1, left))) says,
    )

-- ---- two replies written alike are one

-- a text says one password, and one set of new values
says_one : (kind : ReplyType) (text : List ℕ) (p number count : ℕ) (seed : List ℕ) (new p' number' count' : ℕ) (seed' : List ℕ) (new' : ℕ)
    → Says kind p number count seed new text → Says kind p' number' count' seed' new' text
    → (p ≡ p') × (is_init kind ≡ true → (number ≡ number') × (count ≡ count') × (seed ≡ seed') × (new ≡ new'))
says_one kind text p number count seed new p' number' count' seed' new' s s' = by (is_init kind) refl (sym s.said ∙ s'.said)
  where
    by : (k : Bool) → is_init kind ≡ k
        → cond k (a_renewal number count s.start (length seed) new p) (a_login p)
        ≡ cond k (a_renewal number' count' s'.start (length seed') new' p') (a_login p')
        → (p ≡ p') × (k ≡ true → (number ≡ number') × (count ≡ count') × (seed ≡ seed') × (new ≡ new'))
    by true e f =
        let starts : s.start ≡ s'.start = cc in
        let lengths : length seed ≡ length seed' = cc in
        let part = ap₂ (seed_part text) starts lengths in
        (cc, λ _. (cc, cc, sym (s.seed_there e) ∙ part ∙ s'.seed_there e, cc))
    by false e f = (cc, λ g. absurd (true≢false (sym g)))

pub written_alike : (kind : ReplyType) (p number count : ℕ) (seed : List ℕ) (new p' number' count' : ℕ) (seed' : List ℕ) (new' : ℕ)
    → p < 2 ^ 64 → new < 2 ^ 64 → renewal_checked kind number count seed ≡ Ok tt
    → p' < 2 ^ 64 → new' < 2 ^ 64 → renewal_checked kind number' count' seed' ≡ Ok tt
    → extended_text kind p (algorithm_in (numbered number)) count seed new ≡ extended_text kind p' (algorithm_in (numbered number')) count' seed' new'
    → (p ≡ p') × (is_init kind ≡ true → (number ≡ number') × (count ≡ count') × (seed ≡ seed') × (new ≡ new'))
written_alike kind p number count seed new p' number' count' seed' new' h k e h' k' e' alike =
    says_one kind (extended_text kind p (algorithm_in (numbered number)) count seed new) p number count seed new p' number' count' seed' new'
    (extended_written_read kind p number count seed new h k e)
    (subst (Says kind p' number' count' seed' new') (sym alike) (extended_written_read kind p' number' count' seed' new' h' k' e'))
