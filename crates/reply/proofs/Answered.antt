-- What a reply is read as, by what the tokens are.
use Rattle.std.specs.Prelude.{Option, Some, None, Err}
use Prim.Native.Nat.{ℕ, ◌≤◌, ◌<◌}
use mathlib.Core.Path.{◌≡◌, refl, sym, ◌∙◌, ap, ap₂}
use mathlib.Core.Bool.{Bool, true, false, cond}
use mathlib.Core.List.{List, [], ◌∷◌, map}
use lib.ListN.{length}
use native.Mathlib.Omega.{arith}
use borrow.Author.Tests.{lt-ltb, le-ltb}
use Rattle.refusal.specs.declared.Refusal.{Refusal}
use Rattle.refusal.specs.Answers.{Reading}
use Rattle.text.specs.Tests.{every, both}
use Rattle.text.specs.Scan.{tokens, unspaced}
use Rattle.dictionary.specs.Dictionary.{found_of, place_of}
use Rattle.dictionary.specs.Laws.{place_packed}
use Rattle.hex_text.specs.Hex.{hex_reading}
use Rattle.reply.specs.Reply.{is_word, upper_text, six_words, found_reading, words_reading, six_reading, reading_of}
use Rattle.reply.specs.Laws.{spelt_token, six_parts}
use Rattle.reply.specs.Inside.{packed_token, six_of}

-- what the answer of `six_words` says: six words, and those packed
six_told : (b : Bool) (ws six : List ℕ) → Some six ≡ cond b (Some ws) None → (b ≡ true) × (six ≡ ws)
six_told true ws six e = (refl, cc)
six_told false ws six e = let z : ◌≡◌ {A = ℕ} 0 1 = cc in absurd (omega arith)

-- or none
none_told : (b : Bool) (ws : List ℕ) → ◌≡◌ {A = Option (List ℕ)} None (cond b (Some ws) None) → b ≡ false
none_told true ws e = let z : ◌≡◌ {A = ℕ} 0 1 = cc in absurd (omega arith)
none_told false ws e = refl

-- a packed token is found where its word stands
found_tokens : (ts : List (List ℕ)) → every is_word ts ≡ true → map found_of (map packed_token ts) ≡ map place_of (map upper_text ts)
unfolding every
found_tokens [] e = refl
found_tokens (t ∷ ts) e =
    let halves = both (is_word t) (every is_word ts) e in
    ap₂ (λ (f : Option ℕ) (l : List (Option ℕ)). f ∷ l) (place_packed (upper_text t) (spelt_token t halves.0)) (found_tokens ts halves.1)

pub too_long : (s : List ℕ) → 128 < length s → Err Refusal.ReplyLong ≡ reading_of s
unfolding reading_of
too_long s h = rw (lt-ltb 128 (length s) h)

module _ (s : List ℕ) where
  -- six words, and what they are read as
  words_read : (six : List ℕ) → Some six ≡ six_of (tokens s) → (r : Reading) → r ≡ found_reading (map found_of six)
      → (six_words (tokens s) ≡ true) × (r ≡ words_reading (map upper_text (tokens s)))
  words_read six e r f =
      let told = six_told (six_words (tokens s)) (map packed_token (tokens s)) six e in (
        told.0,
        f ∙ ap (λ (ws : List ℕ). found_reading (map found_of ws)) told.1
            ∙ ap found_reading (found_tokens (tokens s) (six_parts (tokens s) told.0).1),
      )

  other_tokens : None ≡ six_of (tokens s) → six_words (tokens s) ≡ false
  other_tokens e = none_told (six_words (tokens s)) (map packed_token (tokens s)) e

  -- by the type `word`
  pub as_six : (six : List ℕ) → Some six ≡ six_of (tokens s) → (r : Reading) → r ≡ found_reading (map found_of six) → r ≡ six_reading s
  unfolding six_reading
  as_six six e r f =
      let read = words_read six e r f in
      read.1 ∙ sym (ap (λ (b : Bool). cond b (words_reading (map upper_text (tokens s))) (Err Refusal.ReplyUnread)) read.0)

  pub not_six : None ≡ six_of (tokens s) → Err Refusal.ReplyUnread ≡ six_reading s
  unfolding six_reading
  not_six e = sym (ap (λ (b : Bool). cond b (words_reading (map upper_text (tokens s))) (Err Refusal.ReplyUnread)) (other_tokens e))

  -- plain
  module _ (h : length s ≤ 128) where
    short_reading : (b : Bool) → six_words (tokens s) ≡ b → reading_of s ≡ cond b (words_reading (map upper_text (tokens s))) (hex_reading (unspaced s))
    unfolding reading_of
    short_reading b t =
        ap₂ (λ (l d : Bool). cond l (Err Refusal.ReplyLong)
        (cond d (words_reading (map upper_text (tokens s))) (hex_reading (unspaced s)))) (le-ltb 128 (length s) h) t

    pub as_words : (six : List ℕ) → Some six ≡ six_of (tokens s) → (r : Reading) → r ≡ found_reading (map found_of six) → r ≡ reading_of s
    as_words six e r f = let read = words_read six e r f in read.1 ∙ sym (short_reading true read.0)

    pub as_hex : None ≡ six_of (tokens s) → (r : Reading) → r ≡ hex_reading (unspaced s) → r ≡ reading_of s
    as_hex e r f = f ∙ sym (short_reading false (other_tokens e))
