-- What the text of a reply says, for every text: plain without a colon; otherwise refused with 30, 34 or 35, or laid out as a login or a renewal, each
-- part with its own meaning. And which texts are read to a login.
use Rattle.std.specs.Prelude.{ℕ, zero, suc, ◌+◌, ◌-◌, ◌≤◌, ◌<◌, ◌≡◌, refl, ◌↔◌, Bool, true}
use Rattle.std.specs.Prelude.{false, cond, List, ◌∷◌, ◌++◌, eqb, leb, length, Option, Some, None, Ok, Err}
use Rattle.std.proofs.Common.{sym, ◌∙◌, ap, arith, eq-eqb, ne_eqb, eqb-true, le-leb, leb-true, leb-false}
use Rattle.std.proofs.lemmas.Bool.{eqb-false, lt-leb}
use Rattle.refusal.specs.declared.Refusal.{Refusal}
use Rattle.text.specs.Kinds.{in_part}
use Rattle.text.specs.Tests.{every, every_weaker, both, cases, same, same_equal}
use Rattle.text.specs.Scan.{tokens, unspaced}
use Rattle.text.specs.Digits.{is_hex as is_hex_digit}
use Rattle.hex_text.specs.Hex.{sixteen_digits}
use Rattle.reply.specs.Reply.{six_words, reading_of}
use Rattle.reply.specs.Laws.{six_parts}
use Rattle.extended.specs.declared.reply_types.ReplyType.{ReplyType}
use Rattle.extended.specs.ReplyTypes.{type_name, typed, is_init}
use Rattle.extended.specs.ReplyTexts.{part_at, colons, colons_of, password_by, Said, layout_checked}
use Rattle.extended.specs.ReplyTexts.{extended_of, said_in, with_read, read_to, reply_text_of, a_login}
use Rattle.readback.specs.LaidOut.{OfType, TwoParts, FourParts, OfPassword}
use Rattle.readback.specs.ReplyRefusals.{never, unread_refused}
use Rattle.readback.specs.PartsRead.{
  no_colons,
  kind_in_part,
  first_part,
  tokens-every,
  unspaced-every,
  white_in_part,
  words_in_part,
  part_there,
}
use Rattle.readback.specs.PartMeaning.{part_accepted}
use Rattle.readback.specs.TypedParts.{found_by, type_there, colons_there, parts_refused, two_said, renewal_by, four_said}
use Rattle.readback.specs.ReadTo.{login_from}

-- ---- plain texts

-- "others are plain": a text without a colon says what it said before, and is read so
plain_said : (text : List ℕ) → colons text ≡ 0 → said_in text ≡ Said.Login (reading_of text)
unfolding said_in
plain_said text e = rw (eq-eqb (colons text) 0 e)

pub plain_read : (text : List ℕ) → colons text ≡ 0 → reply_text_of text ≡ with_read (reading_of text) a_login
unfolding reply_text_of
plain_read text e = ap read_to (plain_said text e)

digits_hex_all : (u : List ℕ) → sixteen_digits u ≡ true → every is_hex_digit u ≡ true
unfolding sixteen_digits
digits_hex_all u e = (both (eqb (length u) 16) (every is_hex_digit u) e).1

-- a text with a colon has neither six words nor sixteen digits
colon_unread : (text : List ℕ) → 1 ≤ colons text → (six_words (tokens text) ≡ false) × (sixteen_digits (unspaced text) ≡ false)
colon_unread text h = (
  cases (six_words (tokens text)) (λ e. absurd (whole (tokens-every in_part white_in_part text
      (words_in_part (tokens text) (six_parts (tokens text) e).1)))) (λ e. e),
  cases (sixteen_digits (unspaced text)) (λ e. absurd (whole (unspaced-every in_part white_in_part text
      (every_weaker is_hex_digit in_part (kind_in_part is_hex_digit refl) (unspaced text) (digits_hex_all (unspaced text) e))))) (λ e. e),
)
  where
    whole : every in_part text ≡ true → ⊥
    whole e = omega (arith, (no_colons text).1 e)

-- "Renew's text stays plain; a colon gives 33": in a text of at most 128 bytes, since 30 comes before
pub colon_is_33 : (text : List ℕ) → 1 ≤ colons text → length text ≤ 128 → reading_of text ≡ Err Refusal.ReplyUnread
colon_is_33 text h few = (unread_refused text few).1 (colon_unread text h)

-- ---- every text is one of these

pub data Layout (text : List ℕ) : Type 0 where
  is_plain : colons text ≡ 0 → Layout text
  is_long_lem : 1 ≤ colons text → 256 < length text → Layout text
  of_none : 1 ≤ colons text → length text ≤ 256 → ((kind : ReplyType) → OfType kind text → ⊥) → Layout text
  parted_wrong : (kind : ReplyType) → length text ≤ 256 → OfType kind text → (colons text ≡ colons_of kind → ⊥) → Layout text
  in_two : (kind : ReplyType) (present : List ℕ) → length text ≤ 256 → TwoParts kind text present → Layout text
  in_four : (kind : ReplyType) (present parameters new : List ℕ) → length text ≤ 256 → FourParts kind text present parameters new → Layout text

-- the type that is found is the one whose name stands before the first colon
of_type_lem : (text : List ℕ) (n : ℕ) (kind : ReplyType) → colons text ≡ suc n → typed (part_at text 0) ≡ Some kind → OfType kind text
of_type_lem text n kind e q =
    let first = first_part text n e in
    let name = same_equal first.0 (type_name kind) (found_by (λ k. same first.0 (type_name k)) kind
    (sym (ap typed (part_there text 0 first.0 first.1 first.2 first.3)) ∙ q)) in
    (first.1, first.2 ∙ ap (λ (l : List ℕ). l ++ 58 ∷ first.1) name)

-- with as many colons as its type has it is laid out as one
laid_out : (text : List ℕ) (kind : ReplyType) → length text ≤ 256 → OfType kind text → colons text ≡ colons_of kind → Layout text
laid_out text kind few o n = by (is_init kind) refl (sym (colons_there kind text o.0 o.1) ∙ n)
  where
    by : (k : Bool) → is_init kind ≡ k → suc (colons o.0) ≡ cond k 3 1 → Layout text
    by false i e = in_two kind o.0 few (record { logs_in = i; laid = o.1; whole = omega arith })
    by true i e =
        let present = first_part o.0 1 (omega arith) in
        let parameters = first_part present.1 0 present.4 in
        in_four kind present.0 parameters.0 parameters.1 few (record {
          renews = i;
          laid = o.1 ∙ ap (λ (l : List ℕ). type_name kind ++ 58 ∷ l) (present.2 ∙ ap (λ (l : List ℕ). present.0 ++ 58 ∷ l) parameters.2);
          present_whole = present.3;
          parameters_whole = parameters.3;
          new_whole = parameters.4;
        })

pub layout : (text : List ℕ) → Layout text
layout text = by (colons text) refl
  where
    found : (n : ℕ) → colons text ≡ suc n → length text ≤ 256 → (t : Option ReplyType) → typed (part_at text 0) ≡ t → Layout text
    found n e few None q =
        of_none (omega arith) few (λ kind o. let p = sym q ∙ type_there kind text o.0 o.1 in never (cc))
    found n e few (Some kind) q =
        let o = of_type_lem text n kind e q in
        cases (eqb (colons text) (colons_of kind)) (λ t. laid_out text kind few o (eqb-true (colons text) (colons_of kind) t))
        (λ t. parted_wrong kind few o (eqb-false (colons text) (colons_of kind) t))

    by : (n : ℕ) → colons text ≡ n → Layout text
    by zero e = is_plain e
    by (suc n) e =
        cases (leb (length text) 256) (λ t. found n e (leb-true (length text) 256 t) (typed (part_at text 0)) refl)
        (λ t. is_long_lem (omega arith) (leb-false (length text) 256 t))

-- ---- what each of these says

said_long : (text : List ℕ) → 1 ≤ colons text → 256 < length text → said_in text ≡ Said.Refused Refusal.ReplyLong
unfolding said_in extended_of layout_checked
said_long text some long = rw (ne_eqb (colons text) 0 (λ z. omega arith), lt-leb (length text) 256 long)

said_none : (text : List ℕ) → 1 ≤ colons text → length text ≤ 256 → ((kind : ReplyType) → OfType kind text → ⊥)
    → said_in text ≡ Said.Refused Refusal.TypeUnknown
unfolding said_in extended_of layout_checked
said_none text some few none =
    rw (ne_eqb (colons text) 0 (λ z. omega arith), le-leb (length text) 256 few, by (typed (part_at text 0)) refl)
  where
    by : (t : Option ReplyType) → typed (part_at text 0) ≡ t → typed (part_at text 0) ≡ None
    by None q = q
    by (Some kind) q = absurd (none kind (of_type_lem text (colons text - 1) kind (omega arith) q))

abbrev pub answer_by : (text : List ℕ) → Layout text → Said
answer_by text (is_plain z) = Said.Login (reading_of text)
answer_by text (is_long_lem some long) = Said.Refused Refusal.ReplyLong
answer_by text (of_none some few none) = Said.Refused Refusal.TypeUnknown
answer_by text (parted_wrong kind few o other) = Said.Refused Refusal.PartsWrong
answer_by text (in_two kind present few t) = Said.Login (password_by kind present)
answer_by text (in_four kind present parameters new few t) =
    renewal_by kind (length (type_name kind) + length present + 2) present parameters new

pub answered : (text : List ℕ) (l : Layout text) → said_in text ≡ answer_by text l
answered text (is_plain z) = plain_said text z
answered text (is_long_lem some long) = said_long text some long
answered text (of_none some few none) = said_none text some few none
answered text (parted_wrong kind few o other) = parts_refused kind text o.0 o.1 few other
answered text (in_two kind present few t) = two_said kind text present t few
answered text (in_four kind present parameters new few t) = four_said kind text present parameters new t few

-- ---- logins

-- a text with a colon is a login of a password exactly if its type's name, a colon and such a part are the whole text
pub login_accepted : (text : List ℕ) → 1 ≤ colons text → (p : ℕ) → (reply_text_of text ≡ a_login p)
    ↔ ((kind : ReplyType) × (present : List ℕ) × (length text ≤ 256) × TwoParts kind text present × OfPassword p kind present)
unfolding reply_text_of
login_accepted text some p = (
  λ e. go (layout text) (sym (answered text (layout text)) ∙ (login_from (said_in text) p).0 e),
  λ h. ap read_to (two_said h.0 text h.1 h.3 h.2 ∙ ap Said.Login ((part_accepted h.0 h.1 p).1 h.4)),
)
  where
    go : (l : Layout text) → answer_by text l ≡ Said.Login (Ok p)
        → (kind : ReplyType) × (present : List ℕ) × (length text ≤ 256) × TwoParts kind text present × OfPassword p kind present
    go (is_plain z) e = absurd (omega arith)
    go (is_long_lem more long) e = never (cc)
    go (of_none more few none) e = never (cc)
    go (parted_wrong kind few o other) e = never (cc)
    go (in_two kind present few t) e = (kind, present, few, t, (part_accepted kind present p).0 (cc))
    go (in_four kind present parameters new few t) e = never (cc)
