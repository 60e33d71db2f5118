-- Only what private functions cite: colons up to three, a reading taken apart, and the text of a reply with a renewal or without.
-- Nothing outside this crate rests on it.
use Rattle.std.specs.Prelude.{ℕ, Option, Some, None, ◌++◌, ◌≤◌, ◌≡◌, ◌↔◌, Bool, true, false, cond}
use Rattle.std.specs.Prelude.{not, suc, refl, List, [], ◌∷◌, length, take, filter, ◌==◌, Ok, Err}
use Rattle.std.proofs.Common.{ap, arith, length-take}
use Rattle.refusal.specs.declared.Refusal.{Refusal}
use Rattle.refusal.specs.Answers.{Reading}
use Rattle.extended.specs.declared.reply_types.ReplyType.{ReplyType}
use Rattle.extended.specs.declared.renewal.Renewal.{Renewal}
use Rattle.extended.specs.ReplyTexts.{colons}
use Rattle.extended.specs.ReplyWriting.{login_text, tail_text}

-- A text's colons; 4 for more than three.
abbrev pub few_colons : List ℕ → ℕ
few_colons text = length (take 4 (filter (λ b. b == 58) text))

colons_met : (text : List ℕ) → length (filter (λ b. b == 58) text) ≡ colons text
unfolding colons
colons_met [] = refl
colons_met (b ∷ text) = by (b == 58) (colons_met text)
  where
    by : (e : Bool) → length (filter (λ b. b == 58) text) ≡ colons text
        → length (cond e (b ∷ filter (λ b. b == 58) text) (filter (λ b. b == 58) text)) ≡ cond (not e) (colons text) (suc (colons text))
    by true met = ap suc met
    by false met = met

-- Up to three they are the same.
pub few_colons_lem : (text : List ℕ) (k : ℕ) → k ≤ 3 → (few_colons text ≡ k) ↔ (colons text ≡ k)
few_colons_lem text k h =
    let met = colons_met text in
    let few = length-take 4 (filter (λ b. b == 58) text) in
    (λ e. omega (arith, met, few), λ e. omega (arith, met, few))

-- The password couldn't be read, and why.
abbrev pub unread : Reading → Bool
unread (Ok password) = false
unread (Err why) = true

abbrev pub why_unread : Reading → Refusal
why_unread (Ok password) = Refusal.ReplyUnread
why_unread (Err why) = why

-- The text of a reply: a login, and a renewal's tail behind it where there is one.
abbrev pub text_of : ReplyType → ℕ → Option Renewal → List ℕ
text_of kind password None = login_text kind password
text_of kind password (Some r) = login_text kind password ++ tail_text kind r.algorithm r.count r.seed.now r.new

-- The first of some types that a test finds.
abbrev pub first_of : (ReplyType → Bool) → List ReplyType → Option ReplyType
first_of test [] = None
first_of test (kind ∷ kinds) = cond (test kind) (Some kind) (first_of test kinds)
