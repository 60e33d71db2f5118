-- The fold of MD5's digest is two words, each low-order byte first.
use Rattle.std.specs.Prelude.{ℕ, ◌/◌, ◌%◌, ◌^◌, ◌≡◌, [], ◌∷◌, ◌++◌}
use Rattle.std.proofs.Common.{sym, ap, ◌∙◌}
use Rattle.std.specs.Int.Bits.{bit_xor}
use Rattle.std.proofs.lemmas.Nat.{xor_shr, xor_mod}
use Rattle.digests.specs.declared.Order.{Order}
use Rattle.digests.specs.Lists.{up_to}
use Rattle.digests.specs.Words32.{bytes4}
use Rattle.password.specs.Password.{fold}

-- A byte of an exclusive or is the exclusive or of the bytes.
byte_xor : (x y k : ℕ) → bit_xor (x / 2 ^ k % 2 ^ 8) (y / 2 ^ k % 2 ^ 8) ≡ bit_xor x y / 2 ^ k % 2 ^ 8
byte_xor x y k = sym (xor_mod (x / 2 ^ k) (y / 2 ^ k) 8) ∙ ap (λ (n : ℕ). n % 2 ^ 8) (sym (xor_shr x y k))

pub fold_words_lem : (a b c d : ℕ)
    → fold (bytes4 Order.Little a ++ bytes4 Order.Little b ++ bytes4 Order.Little c ++ bytes4 Order.Little d)
    ≡ bytes4 Order.Little (bit_xor a c) ++ bytes4 Order.Little (bit_xor b d)
unfolding fold up_to
fold_words_lem a b c d =
    λ i. sym (xor_mod a c 8) i ∷ byte_xor a c 8 i ∷ byte_xor a c 16 i ∷ byte_xor a c 24 i
    ∷ sym (xor_mod b d 8) i ∷ byte_xor b d 8 i ∷ byte_xor b d 16 i ∷ byte_xor b d 24 i ∷ []
