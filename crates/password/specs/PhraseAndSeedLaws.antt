-- What a check that finds nothing wrong says.
use Rattle.std.specs.Prelude.{ℕ, ◌≤◌, ◌≡◌, refl, Bool, true, false, cond, ◌&&◌, List, ltb, leb, length, Ok, Err}
use Rattle.std.proofs.Common.{ltb-false, leb-true, arith}
use Rattle.refusal.specs.declared.Refusal.{Refusal}
use Rattle.refusal.specs.Answers.{Checked}
use Rattle.password.specs.PhraseAndSeed.{phrase_checked, plain, seed_checked}

pub good_phrase : (phrase : List ℕ) → phrase_checked phrase ≡ Ok tt → (10 ≤ length phrase) × (length phrase ≤ 63)
good_phrase phrase = by (ltb (length phrase) 10) (ltb 63 (length phrase)) refl refl
  where
    by : (a b : Bool) → ltb (length phrase) 10 ≡ a → ltb 63 (length phrase) ≡ b
        → ◌≡◌ {A = Checked} (cond a (Err Refusal.PhraseShort) (cond b (Err Refusal.PhraseLong) (Ok tt))) (Ok tt)
        → (10 ≤ length phrase) × (length phrase ≤ 63)
    by true b s l e = let z : ◌≡◌ {A = ℕ} 0 1 = cc in omega arith
    by false true s l e = let z : ◌≡◌ {A = ℕ} 0 1 = cc in omega arith
    by false false s l e = (ltb-false (length phrase) 10 s, ltb-false 63 (length phrase) l)

pub good_seed : (seed : List ℕ) → seed_checked seed ≡ Ok tt
    → (1 ≤ length seed) × (length seed ≤ 16) × (plain seed ≡ true)
good_seed seed = by (leb 1 (length seed)) (leb (length seed) 16) (plain seed) refl refl refl
  where
    by : (a b p : Bool) → leb 1 (length seed) ≡ a → leb (length seed) 16 ≡ b → plain seed ≡ p
        → ◌≡◌ {A = Checked} (cond (a && b) (cond p (Ok tt) (Err Refusal.SeedCharacter)) (Err Refusal.SeedLength)) (Ok tt)
        → (1 ≤ length seed) × (length seed ≤ 16) × (plain seed ≡ true)
    by false b p u v w e = let z : ◌≡◌ {A = ℕ} 0 1 = cc in (omega arith, omega arith, cc)
    by true false p u v w e = let z : ◌≡◌ {A = ℕ} 0 1 = cc in (omega arith, omega arith, cc)
    by true true false u v w e = let z : ◌≡◌ {A = ℕ} 0 1 = cc in (omega arith, omega arith, cc)
    by true true true u v w e = (leb-true 1 (length seed) u, leb-true (length seed) 16 v, w)
