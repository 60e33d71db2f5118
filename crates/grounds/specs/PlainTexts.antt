-- R-6: texts with a colon are never read as plain ones.
use Rattle.std.specs.Prelude.{ℕ, zero, suc, ◌≤◌, ◌≡◌, Bool, cond, List, ltb, length, Ok, Err}
use Rattle.std.proofs.Common.{arith, sym, ap, ◌∙◌, ltb-true, ltb-false}
use Rattle.refusal.specs.declared.Refusal.{Refusal}
use Rattle.text.specs.Tests.{cases}
use Rattle.reply.specs.Reply.{reading_of}
use Rattle.extended.specs.ReplyTexts.{colons}
use Rattle.readback.specs.LaidOut.{colon_refused}
use Rattle.readback.specs.ReplyRefusals.{long_refused}
use Rattle.readback.specs.ExtendedMeaning.{colon_is_33}

pub colon_refused_lem : (text : List ℕ) → 1 ≤ colons text → reading_of text ≡ Err (colon_refused text)
colon_refused_lem text h =
    cases (ltb 128 (length text))
    (λ e. (long_refused text).1 (ltb-true 128 (length text) e) ∙ sym (ap (λ (b : Bool). Err (cond b Refusal.ReplyLong Refusal.ReplyUnread)) e))
    (λ e. colon_is_33 text h (ltb-false 128 (length text) e) ∙ sym (ap (λ (b : Bool). Err (cond b Refusal.ReplyLong Refusal.ReplyUnread)) e))

-- So a text that is read has none.
pub read_plain : (text : List ℕ) (p : ℕ) → reading_of text ≡ Ok p → colons text ≡ 0
read_plain text p e = by (colons text) (colon_refused_lem text)
  where
    by : (n : ℕ) → (1 ≤ n → reading_of text ≡ Err (colon_refused text)) → n ≡ 0
    by zero f = omega arith
    by (suc n) f =
        let both : Ok p ≡ Err (colon_refused text) = sym e ∙ f (omega arith) in
        let z : ◌≡◌ {A = ℕ} 0 1 = cc in
        absurd (omega arith)
