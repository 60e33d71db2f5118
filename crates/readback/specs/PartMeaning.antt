-- What a password part of an extended reply says: which passwords it is accepted as, and what each refusal of it means.
use Rattle.std.specs.Prelude.{ℕ, ◌^◌, ◌<◌, ◌≡◌, ◌↔◌, Bool, true, false, List, map, Ok, Err}
use Rattle.std.proofs.Common.{sym, ◌∙◌, subst, arith}
use Rattle.std.proofs.Math.Path.{ap}
use Rattle.std.proofs.Math.Bool.{cond}
use Rattle.refusal.specs.declared.Refusal.{Refusal}
use Rattle.text.specs.Kinds.{lower_of}
use Rattle.text.specs.Tests.{cases}
use Rattle.text.specs.Scan.{tokens, unspaced}
use Rattle.text.specs.Digits.{number_of}
use Rattle.dictionary.specs.Dictionary.{place_of}
use Rattle.hex_text.specs.Hex.{hex_of, sixteen_digits, hex_reading}
use Rattle.sixwords.specs.Spelling.{six_words_of}
use Rattle.reply.specs.Reply.{six_words, upper_text, six_reading}
use Rattle.reply.specs.Marked.{Marked}
use Rattle.extended.specs.declared.reply_types.ReplyType.{ReplyType}
use Rattle.extended.specs.ReplyTypes.{is_hex}
use Rattle.extended.specs.ReplyTexts.{password_by}
use Rattle.readback.specs.LaidOut.{OfPassword, Between, SumRefused}
use Rattle.readback.specs.ReplyRead.{digits_accepted, six_accepted, six_read, six_unread}
use Rattle.readback.specs.ReplyRefusals.{words_why, hex_why, marks_refused, sums_refused}

-- a part is accepted exactly so
pub part_accepted : (kind : ReplyType) (part : List ℕ) (p : ℕ) → (password_by kind part ≡ Ok p) ↔ OfPassword p kind part
unfolding password_by
part_accepted kind part p = by (is_hex kind)
  where
    by : (k : Bool) → (cond k (hex_reading (unspaced part)) (six_reading part) ≡ Ok p)
        ↔ ((p < 2 ^ 64) × cond k (map lower_of (unspaced part) ≡ hex_of p) (map upper_text (tokens part) ≡ six_words_of p))
    by true = digits_accepted (unspaced part) p
    by false = six_accepted part p

-- ---- refused

module _ (kind : ReplyType) (part : List ℕ) where
  -- hex: 33, and no other
  pub hex_part_refused : is_hex kind ≡ true → (why : Refusal)
      → (password_by kind part ≡ Err why) ↔ ((sixteen_digits (unspaced part) ≡ false) × (why ≡ Refusal.ReplyUnread))
  unfolding password_by hex_reading
  hex_part_refused e why =
      rw e (
        hex_why (unspaced part) why,
        λ h. ap (λ (k : Bool). cond k (Ok (number_of 16 (unspaced part))) (Err Refusal.ReplyUnread)) h.0
            ∙ ap Err (sym h.1),
      )

  module _ (e : is_hex kind ≡ false) where
    as_six : password_by kind part ≡ six_reading part
    unfolding password_by
    as_six = rw e

    -- words: 33 exactly if there aren't six tokens of one to four letters
    pub word_part_unread : (password_by kind part ≡ Err Refusal.ReplyUnread) ↔ (six_words (tokens part) ≡ false)
    word_part_unread = (
      λ r. cases (six_words (tokens part)) (λ s. let why = words_why (map place_of (map upper_text (tokens part))) Refusal.ReplyUnread
          (sym (as_six ∙ six_read part s) ∙ r) in absurd (omega (arith, why.1))) (λ s. s),
      λ s. as_six ∙ six_unread part s,
    )

    -- and with six 31 by their marks, and 32
    module _ (six : six_words (tokens part) ≡ true) where
      pub word_part_unknown : (m : ℕ) → (password_by kind part ≡ Err (Refusal.WordUnknown m)) ↔ Marked (map upper_text (tokens part)) m
      word_part_unknown m = rw (as_six ∙ six_read part six) (marks_refused (tokens part) six m)

      pub word_part_sum : (password_by kind part ≡ Err Refusal.PairSumWrong) ↔ SumRefused (map upper_text (tokens part))
      word_part_sum = rw (as_six ∙ six_read part six) (sums_refused (tokens part) six)

-- 31 to 33, and no other
pub part-why : (kind : ReplyType) (part : List ℕ) (why : Refusal) → password_by kind part ≡ Err why → Between 31 33 why
part-why kind part why e = cases (is_hex kind) hex words
  where
    unread : Refusal.ReplyUnread ≡ why → Between 31 33 why
    unread same = subst (Between 31 33) same (omega arith, omega arith)

    hex : is_hex kind ≡ true → Between 31 33 why
    hex h = unread (sym ((hex_part_refused kind part h why).0 e).1)

    words : is_hex kind ≡ false → Between 31 33 why
    words h =
        cases (six_words (tokens part))
        (λ s.
        let n = words_why (map place_of (map upper_text (tokens part))) why (sym (as_six kind part h ∙ six_read part s) ∙ e) in
        (omega (arith, n.0), omega (arith, n.1)))
        (λ s.
        let told : Err Refusal.ReplyUnread ≡ Err why = sym ((word_part_unread kind part h).1 s) ∙ e in
        unread (cc))
