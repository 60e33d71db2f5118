-- 02, R-7: what reading a text refuses, and what for. A text is refused exactly in the cases of `RefusedBy`, and with 30, 34 and 35 exactly in these.
use Rattle.std.specs.Prelude.{ℕ, zero, suc, ◌≤◌, ◌<◌, ◌≡◌, refl, ◌↔◌, ◌⊎◌, cond, List, eqb, length, Ok, Err}
use Rattle.std.proofs.Common.{sym, ◌∙◌, ap, subst, inl, inr, arith, eq-eqb, ne_eqb}
use Rattle.refusal.specs.declared.Refusal.{Refusal}
use Rattle.refusal.specs.Numbers.{listing_of}
use Rattle.reply.specs.Reply.{reading_of}
use Rattle.extended.specs.declared.reply_types.ReplyType.{ReplyType}
use Rattle.extended.specs.ReplyTexts.{colons, colons_of, password_by, Said, said_in, read_to, reply_text_of}
use Rattle.readback.specs.LaidOut.{
  OfType,
  TwoParts,
  FourParts,
  OfPassword,
  ReadAs,
  Between,
  most_bytes,
  RefusedBy,
  by_30,
  by_34,
  by_35,
  by_plain,
  by_login,
  by_new,
  by_present,
}
use Rattle.readback.specs.ReplyRefusals.{never, long_told, long_only, reading_why}
use Rattle.readback.specs.PartMeaning.{part_accepted, part-why}
use Rattle.readback.specs.TypedParts.{two_said, four_said}
use Rattle.readback.specs.ReadTo.{Unread, refused_from}
use Rattle.readback.specs.ExtendedMeaning.{Layout, is_plain, is_long_lem, of_none, parted_wrong, in_two, in_four, layout, answer_by, answered}

-- by what it says
said_refused : (text : List ℕ) (said : Said) → said_in text ≡ said → (why : Refusal) → (reply_text_of text ≡ Err why) ↔ Unread why said
unfolding reply_text_of
said_refused text said e why = (λ f. (refused_from said why).0 (sym (ap read_to e) ∙ f), λ u. ap read_to e ∙ (refused_from said why).1 u)

pub text_refused : (text : List ℕ) (why : Refusal) → (reply_text_of text ≡ Err why) ↔ RefusedBy text why
text_refused text why = (λ e. let l = layout text in go l ((said_refused text (answer_by text l) (answered text l) why).0 e), back)
  where
    go : (l : Layout text) → Unread why (answer_by text l) → RefusedBy text why
    go (is_plain z) u = by_plain z u
    go (is_long_lem some long) u = by_30 (sym u) some long
    go (of_none some few none) u = by_34 (sym u) some few none
    go (parted_wrong kind few o other) u = by_35 (sym u) few kind o other
    go (in_two kind present few t) u = by_login kind present few t u
    go (in_four kind present parameters new few t) (inl u) = by_new kind present parameters new few t u
    go (in_four kind present parameters new few t) (inr u) =
        by_present kind present parameters new few t u.0 ((part_accepted kind new u.0).0 u.1) u.2

    so : (l : Layout text) → Unread why (answer_by text l) → reply_text_of text ≡ Err why
    so l = (said_refused text (answer_by text l) (answered text l) why).1

    back : RefusedBy text why → reply_text_of text ≡ Err why
    back (by_30 q some long) = so (is_long_lem some long) (sym q)
    back (by_34 q some few none) = so (of_none some few none) (sym q)
    back (by_35 q few kind o other) = so (parted_wrong kind few o other) (sym q)
    back (by_plain z r) = so (is_plain z) r
    back (by_login kind present few t r) = so (in_two kind present few t) r
    back (by_new kind present parameters new few t r) = so (in_four kind present parameters new few t) (inl r)
    back (by_present kind present parameters new few t p n r) =
        so (in_four kind present parameters new few t) (inr (p, (part_accepted kind new p).1 n, r))

-- a text of two parts for its password alone
pub login_refused : (kind : ReplyType) (text present : List ℕ) → length text ≤ 256 → TwoParts kind text present → (why : Refusal)
    → (reply_text_of text ≡ Err why) ↔ ReadAs (Err why) kind present
login_refused kind text present few t = said_refused text (Said.Login (password_by kind present)) (two_said kind text present t few)

-- one of four for the new password, and where that is one for the present one; not for its parameters
pub renewal_refused : (kind : ReplyType) (text present parameters new : List ℕ) → length text ≤ 256 → FourParts kind text present parameters new
    → (why : Refusal) → (reply_text_of text ≡ Err why)
    ↔ (ReadAs (Err why) kind new ⊎ ((p : ℕ) × OfPassword p kind new × ReadAs (Err why) kind present))
renewal_refused kind text present parameters new few t why =
    let exactly = said_refused text _ (four_said kind text present parameters new t few) why in
    (λ e. go (exactly.0 e), λ u. exactly.1 (back u))
  where
    go : (ReadAs (Err why) kind new ⊎ ((p : ℕ) × ReadAs (Ok p) kind new × ReadAs (Err why) kind present))
        → ReadAs (Err why) kind new ⊎ ((p : ℕ) × OfPassword p kind new × ReadAs (Err why) kind present)
    go (inl u) = inl u
    go (inr u) = inr (u.0, (part_accepted kind new u.0).0 u.1, u.2)

    back : (ReadAs (Err why) kind new ⊎ ((p : ℕ) × OfPassword p kind new × ReadAs (Err why) kind present))
        → ReadAs (Err why) kind new ⊎ ((p : ℕ) × ReadAs (Ok p) kind new × ReadAs (Err why) kind present)
    back (inl u) = inl u
    back (inr u) = inr (u.0, (part_accepted kind new u.0).1 u.1, u.2)

-- 30 to 35, and no other
pub refused_why : (text : List ℕ) (why : Refusal) → reply_text_of text ≡ Err why → Between 30 35 why
refused_why text why e = go ((text_refused text why).0 e)
  where
    is : (other : Refusal) → why ≡ other → Between 30 35 other → Between 30 35 why
    is other q = subst (Between 30 35) (sym q)

    of_part : (kind : ReplyType) (part : List ℕ) → ReadAs (Err why) kind part → Between 30 35 why
    of_part kind part r = let n = part-why kind part why r in (omega (arith, n.0), omega (arith, n.1))

    go : RefusedBy text why → Between 30 35 why
    go (by_30 q some long) = is Refusal.ReplyLong q (omega arith, omega arith)
    go (by_34 q some few none) = is Refusal.TypeUnknown q (omega arith, omega arith)
    go (by_35 q few kind o other) = is Refusal.PartsWrong q (omega arith, omega arith)
    go (by_plain z r) = let n = reading_why text why r in (omega (arith, n.0), omega (arith, n.1))
    go (by_login kind present few t r) = of_part kind present r
    go (by_new kind present parameters new few t r) = of_part kind new r
    go (by_present kind present parameters new few t p n r) = of_part kind present r

-- ---- 30, 34 and 35 each by itself

pub long_text : (text : List ℕ) → (reply_text_of text ≡ Err Refusal.ReplyLong) ↔ (most_bytes text < length text)
long_text text = (λ e. go ((text_refused text Refusal.ReplyLong).0 e), λ h. (text_refused text Refusal.ReplyLong).1 (back (colons text) refl h))
  where
    of_part : (kind : ReplyType) (part : List ℕ) → ReadAs (Err Refusal.ReplyLong) kind part → ⊥
    of_part kind part r = omega (arith, (part-why kind part Refusal.ReplyLong r).0)

    go : RefusedBy text Refusal.ReplyLong → most_bytes text < length text
    go (by_30 q some long) = rw (ne_eqb (colons text) 0 (λ z. omega arith)) long
    go (by_34 q some few none) = never (cc)
    go (by_35 q few kind o other) = never (cc)
    go (by_plain z r) = rw (eq-eqb (colons text) 0 z) (long_only text r)
    go (by_login kind present few t r) = absurd (of_part kind present r)
    go (by_new kind present parameters new few t r) = absurd (of_part kind new r)
    go (by_present kind present parameters new few t p n r) = absurd (of_part kind present r)

    back : (n : ℕ) → colons text ≡ n → cond (eqb n 0) 128 256 < length text → RefusedBy text Refusal.ReplyLong
    back zero e h = by_plain e (long_told text h)
    back (suc n) e h = by_30 refl (omega arith) (rw (ne_eqb (suc n) 0 (λ z. omega arith)) at h)

-- no password is refused with 34 or 35
plain_read_why : (text : List ℕ) (why : Refusal) → 33 < (listing_of why).0 → reading_of text ≡ Err why → ⊥
plain_read_why text why h r = omega (arith, (reading_why text why r).1)

part_read_why : (kind : ReplyType) (part : List ℕ) (why : Refusal) → 33 < (listing_of why).0 → ReadAs (Err why) kind part → ⊥
part_read_why kind part why h r = omega (arith, (part-why kind part why r).1)

pub type_unknown : (text : List ℕ) → (reply_text_of text ≡ Err Refusal.TypeUnknown)
    ↔ ((1 ≤ colons text) × (length text ≤ 256) × ((kind : ReplyType) → OfType kind text → ⊥))
type_unknown text = (
  λ e. go ((text_refused text Refusal.TypeUnknown).0 e),
  λ h. (text_refused text Refusal.TypeUnknown).1 (by_34 refl h.0 h.1 h.2),
)
  where
    go : RefusedBy text Refusal.TypeUnknown → (1 ≤ colons text) × (length text ≤ 256) × ((kind : ReplyType) → OfType kind text → ⊥)
    go (by_30 q some long) = never (cc)
    go (by_34 q some few none) = (some, few, none)
    go (by_35 q few kind o other) = never (cc)
    go (by_plain z r) = absurd (plain_read_why text Refusal.TypeUnknown (omega arith) r)
    go (by_login kind present few t r) = absurd (part_read_why kind present Refusal.TypeUnknown (omega arith) r)
    go (by_new kind present parameters new few t r) = absurd (part_read_why kind new Refusal.TypeUnknown (omega arith) r)
    go (by_present kind present parameters new few t p n r) = absurd (part_read_why kind present Refusal.TypeUnknown (omega arith) r)

pub parts_wrong : (text : List ℕ) → (reply_text_of text ≡ Err Refusal.PartsWrong)
    ↔ ((length text ≤ 256) × (kind : ReplyType) × OfType kind text × (colons text ≡ colons_of kind → ⊥))
parts_wrong text = (
  λ e. go ((text_refused text Refusal.PartsWrong).0 e),
  λ h. (text_refused text Refusal.PartsWrong).1 (by_35 refl h.0 h.1 h.2 h.3),
)
  where
    go : RefusedBy text Refusal.PartsWrong → (length text ≤ 256) × (kind : ReplyType) × OfType kind text × (colons text ≡ colons_of kind → ⊥)
    go (by_30 q some long) = never (cc)
    go (by_34 q some few none) = never (cc)
    go (by_35 q few kind o other) = (few, kind, o, other)
    go (by_plain z r) = absurd (plain_read_why text Refusal.PartsWrong (omega arith) r)
    go (by_login kind present few t r) = absurd (part_read_why kind present Refusal.PartsWrong (omega arith) r)
    go (by_new kind present parameters new few t r) = absurd (part_read_why kind new Refusal.PartsWrong (omega arith) r)
    go (by_present kind present parameters new few t p n r) = absurd (part_read_why kind present Refusal.PartsWrong (omega arith) r)
