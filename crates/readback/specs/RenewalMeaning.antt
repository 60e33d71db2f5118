-- What the text of a renewal is read to: exactly which texts are read as one, and with which values and passwords.
use Rattle.std.specs.Prelude.{ℕ, ◌+◌, ◌≤◌, ◌≡◌, refl, ◌↔◌, Bool, true, false, cond, List, eqb, length, take, drop, Ok}
use Rattle.std.proofs.Common.{sym, ◌∙◌, ap, ap₂, subst, arith, eq-eqb, ne_eqb, eqb-true}
use Rattle.password.specs.Algorithm.{named}
use Rattle.extended.specs.declared.reply_types.ReplyType.{ReplyType}
use Rattle.extended.specs.ReplyTypes.{type_name}
use Rattle.extended.specs.Parameters.{name_number, count_in, parameters_of}
use Rattle.extended.specs.ReplyTexts.{Said, seed_start, said_in, read_to, reply_text_of, seed_part, a_renewal}
use Rattle.extended.specs.Laws.{parameters_within, said_within}
use Rattle.readback.specs.LaidOut.{FourParts, OfPassword, Spaced, RenewalParts, SaysRenewal}
use Rattle.readback.specs.ReplyRefusals.{never}
use Rattle.readback.specs.ParametersRead.{name_said, count_said, start_said, length_said, seed_said, spaced_every}
use Rattle.readback.specs.PartMeaning.{part_accepted}
use Rattle.readback.specs.TypedParts.{four_said, four_seed}
use Rattle.readback.specs.ReadTo.{renewal_from}
use Rattle.readback.specs.ExtendedMeaning.{Layout, is_plain, is_long_lem, of_none, parted_wrong, in_two, in_four, layout, answer_by, answered}

-- The new values that a text's parameters say. The seed starts behind the type, the present password and their colons; where there is none its
-- part is the empty one at the start.
abbrev Values : ReplyType → List ℕ → List ℕ → ℕ → ℕ → ℕ → ℕ → Type 0
Values kind present parameters number count start len =
    let values = parameters_of parameters in
    (values.algorithm ≡ number) × (values.count ≡ count) × (values.len ≡ len)
    × (seed_start (length (type_name kind) + length present + 2) values ≡ start)

renewal_laid : (text : List ℕ) (number count start len new present : ℕ)
    → (reply_text_of text ≡ a_renewal number count start len new present)
    ↔ ((kind : ReplyType) × (p v n : List ℕ) × (length text ≤ 256) × FourParts kind text p v n × Values kind p v number count start len
    × OfPassword new kind n × OfPassword present kind p)
unfolding reply_text_of
renewal_laid text number count start len new present = (
  λ e. go (layout text) (sym (answered text (layout text)) ∙ (renewal_from (said_in text) number count start len new present).0 e),
  λ h. let values = h.6 in
      let new_read = (part_accepted h.0 h.3 new).1 h.7 in
      let present_read = (part_accepted h.0 h.1 present).1 h.8 in
      ap read_to (four_said h.0 text h.1 h.2 h.3 h.5 h.4
      ∙ (λ i. Said.Renewal (values.0 i) (values.1 i) (values.3 i) (values.2 i) (new_read i) (present_read i))),
)
  where
    go : (l : Layout text) → answer_by text l ≡ Said.Renewal number count start len (Ok new) (Ok present)
        → (kind : ReplyType) × (p v n : List ℕ) × (length text ≤ 256) × FourParts kind text p v n × Values kind p v number count start len
        × OfPassword new kind n × OfPassword present kind p
    go (is_plain z) e = never (cc)
    go (is_long_lem more long) e = never (cc)
    go (of_none more few none) e = never (cc)
    go (parted_wrong kind few o other) e = never (cc)
    go (in_two kind p few t) e = never (cc)
    go (in_four kind p v n few t) e = (
      kind,
      p,
      v,
      n,
      few,
      t,
      (cc, cc, cc, cc),
      (part_accepted kind n new).0 (cc),
      (part_accepted kind p present).0 (cc),
    )

-- the seed is the part of the parameters that they say
module _ (kind : ReplyType) (text p v n : List ℕ) (t : FourParts kind text p v n) where
  renewal_seed : seed_part text (seed_start (length (type_name kind) + length p + 2) (parameters_of v)) (parameters_of v).len
      ≡ seed_part v (parameters_of v).start (parameters_of v).len
  renewal_seed = by (eqb (parameters_of v).len 0) refl
    where
      none : (l r : List ℕ) → (parameters_of v).len ≡ 0 → take (parameters_of v).len l ≡ take (parameters_of v).len r
      none l r z = ap (λ (k : ℕ). take k l) z ∙ sym (ap (λ (k : ℕ). take k r) z)

      by : (k : Bool) → eqb (parameters_of v).len 0 ≡ k
          → seed_part text (cond k 0 (length (type_name kind) + length p + 2 + (parameters_of v).start)) (parameters_of v).len
          ≡ seed_part v (parameters_of v).start (parameters_of v).len
      by true e = none text (drop (parameters_of v).start v) (eqb-true (parameters_of v).len 0 e)
      by false e = four_seed kind text p v n t (parameters_of v).start (parameters_of v).len (parameters_within v)

-- a text is a renewal with these values, the seed standing somewhere in it, and these passwords, exactly if it is made so
module _ (text : List ℕ) (number count : ℕ) (seed : List ℕ) (new present : ℕ) where
  made_so : SaysRenewal text number count seed new present → RenewalParts text number count seed (OfPassword new) (OfPassword present)
  made_so a =
      let h = (renewal_laid text number count a.0 (length seed) new present).0 a.1 in
      let s = spaced_every h.2 in
      let part = renewal_seed h.0 text h.1 h.2 h.3 h.5 in
      let length-is = length_said h.2 s.0 s.1 s.2 s.3 in
      let seed-is : s.2 ≡ seed =
      sym (ap (seed_part h.2 (parameters_of h.2).start) length-is ∙ seed_said h.2 s.0 s.1 s.2 s.3)
      ∙ sym part ∙ ap₂ (seed_part text) h.6.3 h.6.2 ∙ a.2 in
      record {
        kind = h.0;
        present_part = h.1;
        parameters = h.2;
        new_part = h.3;
        name = s.0;
        word = s.1;
        few = h.4;
        parts = h.5;
        spaced = subst (Spaced h.2 s.0 s.1) seed-is s.3;
        algorithm_is = sym (name_said h.2 s.0 s.1 s.2 s.3) ∙ h.6.0;
        count_is = sym (count_said h.2 s.0 s.1 s.2 s.3) ∙ h.6.1;
        new_is = h.7;
        present_is = h.8;
      }

  so_made : RenewalParts text number count seed (OfPassword new) (OfPassword present) → SaysRenewal text number count seed new present
  so_made r =
      let v = r.parameters in
      let start = seed_start (length (type_name r.kind) + length r.present_part + 2) (parameters_of v) in
      let name-is = name_said v r.name r.word seed r.spaced in
      let word-is = count_said v r.name r.word seed r.spaced in
      let length-is = length_said v r.name r.word seed r.spaced in (
        start,
        (renewal_laid text number count start (length seed) new present).1 (
          r.kind,
          r.present_part,
          v,
          r.new_part,
          r.few,
          r.parts,
          (name-is ∙ r.algorithm_is, word-is ∙ r.count_is, length-is, refl),
          r.new_is,
          r.present_is,
        ),
        ap (seed_part text start) (sym length-is)
            ∙ renewal_seed r.kind text r.present_part v r.new_part r.parts
            ∙ ap (seed_part v (parameters_of v).start) length-is
            ∙ seed_said v r.name r.word seed r.spaced,
      )

  pub renewal_accepted : SaysRenewal text number count seed new present ↔ RenewalParts text number count seed (OfPassword new) (OfPassword present)
  renewal_accepted = (made_so, so_made)

-- "Of the parameters it refuses nothing": with two passwords it is a renewal whatever its parameters are. They are a name, a word and a seed in some way,
-- each of which may be missing; the name is read to an algorithm's number, or 0, the word to a count, or 0, and the seed as the part where it stands.
pub parameters_refuse_nothing : (kind : ReplyType) (text p v n : List ℕ) → length text ≤ 256 → FourParts kind text p v n
    → (new present : ℕ) → OfPassword new kind n → OfPassword present kind p
    → (name word seed : List ℕ) × Spaced v name word seed × SaysRenewal text (name_number (named name)) (count_in word) seed new present
parameters_refuse_nothing kind text p v n few t new present f g =
    let s = spaced_every v in (
      s.0,
      s.1,
      s.2,
      s.3,
      so_made text (name_number (named s.0)) (count_in s.1) s.2 new present (record {
        kind = kind;
        present_part = p;
        parameters = v;
        new_part = n;
        name = s.0;
        word = s.1;
        few = few;
        parts = t;
        spaced = s.3;
        algorithm_is = refl;
        count_is = refl;
        new_is = f;
        present_is = g;
      }),
    )

-- the seed stands within the text; "Where there is no seed, the part is the empty one at the start of the text"
pub seed_stands_within : (text : List ℕ) (number count start len new present : ℕ)
    → reply_text_of text ≡ a_renewal number count start len new present → (start + len ≤ length text) × (len ≡ 0 → start ≡ 0)
unfolding reply_text_of
seed_stands_within text number count start len new present e =
    let h = (renewal_laid text number count start len new present).0 e in (
      said_within text number count start len (Ok new) (Ok present)
          ((renewal_from (said_in text) number count start len new present).0 e),
      λ z.
          sym h.6.3
          ∙ ap (λ (k : Bool). cond k 0 (length (type_name h.0) + length h.1 + 2 + (parameters_of h.2).start))
          (eq-eqb (parameters_of h.2).len 0 (h.6.2 ∙ z)),
    )

-- and where there is one, it stands behind the count: past the type, the present password and their colons, and in the parameters past the name, the count
-- and the white space before, between and behind them
pub seed_stands_there : (kind : ReplyType) (text p v n : List ℕ) → length text ≤ 256 → FourParts kind text p v n
    → (name word seed : List ℕ) (s : Spaced v name word seed) → 1 ≤ length seed
    → (number count start len new present : ℕ) → reply_text_of text ≡ a_renewal number count start len new present
    → start ≡ length (type_name kind) + length p + 2 + (length s.white + length name + length s.white₁ + length word + length s.white₂)
unfolding reply_text_of
seed_stands_there kind text p v n few t name word seed s some number count start len new present e =
    let at = length (type_name kind) + length p + 2 in
    let said = sym (four_said kind text p v n t few) ∙ (renewal_from (said_in text) number count start len new present).0 e in
    let stands : seed_start at (parameters_of v) ≡ start = cc in
    let there = ne_eqb (parameters_of v).len 0 (λ z. omega (arith, length_said v name word seed s)) in
    sym stands ∙ ap (λ (k : Bool). cond k 0 (at + (parameters_of v).start)) there ∙ ap (λ (k : ℕ). at + k) (start_said v name word seed s)
