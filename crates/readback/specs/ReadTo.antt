-- 02, R-7: from what a text is read to back to what it says. It is read to a password, or to a renewal with two, exactly if it says them, and refused for
-- the first of its passwords that can't be read.
use Rattle.std.specs.Prelude.{ℕ, ◌≡◌, refl, ◌↔◌, ◌⊎◌, Ok, Err}
use Rattle.std.proofs.Common.{ap, ap₂, inl, inr}
use Rattle.refusal.specs.declared.Refusal.{Refusal}
use Rattle.refusal.specs.Answers.{Reading}
use Rattle.extended.specs.ReplyTexts.{Said, with_read, read_to, a_login, a_renewal}
use Rattle.readback.specs.ReplyRefusals.{never}

-- a login of a password
pub login_from : (said : Said) (p : ℕ) → (read_to said ≡ a_login p) ↔ (said ≡ Said.Login (Ok p))
login_from said p = (go said, ap read_to)
  where
    go : (x : Said) → read_to x ≡ a_login p → x ≡ Said.Login (Ok p)
    go (Said.Login (Ok q)) e = cc
    go (Said.Login (Err why)) e = never (cc)
    go (Said.Renewal n c s l (Ok q) (Ok r)) e = never (cc)
    go (Said.Renewal n c s l (Ok q) (Err why)) e = never (cc)
    go (Said.Renewal n c s l (Err why) present) e = never (cc)
    go (Said.Refused why) e = never (cc)

-- a renewal with two
pub renewal_from : (said : Said) (number count start len new present : ℕ) → (read_to said ≡ a_renewal number count start len new present)
    ↔ (said ≡ Said.Renewal number count start len (Ok new) (Ok present))
renewal_from said number count start len new present = (go said, ap read_to)
  where
    go : (x : Said) → read_to x ≡ a_renewal number count start len new present
        → x ≡ Said.Renewal number count start len (Ok new) (Ok present)
    go (Said.Login (Ok q)) e = never (cc)
    go (Said.Login (Err why)) e = never (cc)
    go (Said.Renewal n c s l (Ok q) (Ok r)) e = cc
    go (Said.Renewal n c s l (Ok q) (Err why)) e = never (cc)
    go (Said.Renewal n c s l (Err why) p) e = never (cc)
    go (Said.Refused why) e = never (cc)

-- Why what is said isn't read to anything: the whole text is refused, or the password is; of a renewal's two the new one, or the present one where the new
-- one is a password.
abbrev pub Unread : Refusal → Said → Type 0
Unread why (Said.Login present) = present ≡ Err why
Unread why (Said.Renewal number count start len new present) =
    (new ≡ Err why) ⊎ ((p : ℕ) × (new ≡ Ok p) × (present ≡ Err why))
Unread why (Said.Refused other) = other ≡ why

pub refused_from : (said : Said) (why : Refusal) → (read_to said ≡ Err why) ↔ Unread why said
refused_from said why = (go said, back said)
  where
    go : (x : Said) → read_to x ≡ Err why → Unread why x
    go (Said.Login (Ok q)) e = never (cc)
    go (Said.Login (Err other)) e = cc
    go (Said.Renewal n c s l (Ok q) (Ok r)) e = never (cc)
    go (Said.Renewal n c s l (Ok q) (Err other)) e = inr (q, refl, cc)
    go (Said.Renewal n c s l (Err other) present) e = inl (cc)
    go (Said.Refused other) e = cc

    back : (x : Said) → Unread why x → read_to x ≡ Err why
    back (Said.Login present) u = ap (λ (r : Reading). with_read r a_login) u
    back (Said.Renewal n c s l new present) (inl u) = ap (λ (r : Reading). read_to (Said.Renewal n c s l r present)) u
    back (Said.Renewal n c s l new present) (inr u) = ap₂ (λ (r q : Reading). read_to (Said.Renewal n c s l r q)) u.1 u.2
    back (Said.Refused other) u = ap Err u
