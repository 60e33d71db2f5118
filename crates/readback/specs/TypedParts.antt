-- A text that is laid out as an extended reply of a type, and what it then says, part by part.
use Rattle.std.specs.Prelude.{ℕ, suc, ◌+◌, ◌≤◌, ◌≡◌, refl, Bool, true, false, List, ◌∷◌, ◌++◌, take, drop, Option, Some, None, Ok}
use Rattle.std.proofs.Common.{sym, ◌∙◌, arith, length-drop, drop-drop}
use Rattle.std.proofs.Math.Path.{ap}
use Rattle.std.proofs.Math.Bool.{cond}
use Rattle.std.proofs.Math.ListN.{length}
use Rattle.std.proofs.lemmas.List.{drop-append-le, take-append-le}
use borrow.Author.Tests.{le-leb, eq-eqb, ne_eqb}
use Rattle.refusal.specs.declared.Refusal.{Refusal}
use Rattle.text.specs.Quoted.{codes}
use Rattle.text.specs.Tests.{same}
use Rattle.extended.specs.declared.reply_types.ReplyType.{ReplyType}
use Rattle.extended.specs.ReplyTypes.{type_name, type_by, typed, type_checked, type_in}
use Rattle.extended.specs.Parameters.{parameters_of}
use Rattle.extended.specs.ReplyTexts.{
  part_at,
  present_at,
  parameters_at,
  new_at,
  colons,
  colons_of,
  password_by,
  Said,
  renewal_said,
  renewal_in,
  typed_in,
  layout_checked,
  extended_of,
  said_in,
  seed_part,
}
use Rattle.readback.specs.LaidOut.{TwoParts, FourParts}
use Rattle.readback.specs.PartsRead.{colons_part, part_there, after_there, last_there}

-- ---- a type by its name or number

pub name_typed : (kind : ReplyType) → typed (type_name kind) ≡ Some kind
unfolding type_name codes same
name_typed ReplyType.Hex = refl
name_typed ReplyType.Word = refl
name_typed ReplyType.InitHex = refl
name_typed ReplyType.InitWord = refl

pub name_whole : (kind : ReplyType) → colons (type_name kind) ≡ 0
unfolding type_name codes colons
name_whole ReplyType.Hex = refl
name_whole ReplyType.Word = refl
name_whole ReplyType.InitHex = refl
name_whole ReplyType.InitWord = refl

-- a test that finds a type finds it of that type
pub found_by : (test : ReplyType → Bool) (kind : ReplyType) → type_by test ≡ Some kind → test kind ≡ true
found_by test kind = by (test ReplyType.Hex) (test ReplyType.Word) (test ReplyType.InitHex) (test ReplyType.InitWord) refl refl refl refl
  where
    by : (a b c d : Bool) → test ReplyType.Hex ≡ a → test ReplyType.Word ≡ b → test ReplyType.InitHex ≡ c → test ReplyType.InitWord ≡ d
        → cond a (Some ReplyType.Hex) (cond b (Some ReplyType.Word) (cond c (Some ReplyType.InitHex)
        (cond d (Some ReplyType.InitWord) None))) ≡ Some kind → test kind ≡ true
    by true b c d f g h i e = let same : ReplyType.Hex ≡ kind = cc in ap test (sym same) ∙ f
    by false true c d f g h i e = let same : ReplyType.Word ≡ kind = cc in ap test (sym same) ∙ g
    by false false true d f g h i e = let same : ReplyType.InitHex ≡ kind = cc in ap test (sym same) ∙ h
    by false false false true f g h i e = let same : ReplyType.InitWord ≡ kind = cc in ap test (sym same) ∙ i
    by false false false false f g h i e = let z : ◌≡◌ {A = ℕ} 0 1 = cc in absurd (omega arith)

-- a check that finds nothing wrong has found a type
pub type_known : (found : Option ReplyType) → type_checked found ≡ Ok tt → found ≡ Some (type_in found)
type_known (Some kind) e = refl
type_known None e = let z : ◌≡◌ {A = ℕ} 0 1 = cc in absurd (omega arith)

-- ---- a text that starts with a type's name and a colon

module _ (kind : ReplyType) (text rest : List ℕ) (laid : text ≡ type_name kind ++ 58 ∷ rest) where
  pub present_there : drop (present_at text) text ≡ rest
  unfolding present_at
  present_there = after_there text 0 (type_name kind) rest laid (name_whole kind)

  name_there : part_at text 0 ≡ type_name kind
  name_there = part_there text 0 (type_name kind) rest laid (name_whole kind)

  pub type_there : typed (part_at text 0) ≡ Some kind
  type_there = ap typed name_there ∙ name_typed kind

  present_at_lem : present_at text ≡ length (type_name kind) + 1
  unfolding present_at
  present_at_lem = omega (arith, ap length name_there)

  pub colons_there : colons text ≡ suc (colons rest)
  colons_there = ap colons laid ∙ colons_part (type_name kind) rest (name_whole kind)

  module _ (few : length text ≤ 256) where
    -- with as many parts as its type has it says what its parts say
    pub typed_said : colons text ≡ colons_of kind → said_in text ≡ typed_in kind text
    unfolding said_in extended_of layout_checked
    typed_said n =
        rw (
          ne_eqb (colons text) 0 (λ z. omega (arith, colons_there)),
          le-leb (length text) 256 few,
          type_there,
          eq-eqb (colons text) (colons_of kind) n,
        )

    -- and otherwise it is 35
    pub parts_refused : (colons text ≡ colons_of kind → ⊥) → said_in text ≡ Said.Refused Refusal.PartsWrong
    unfolding said_in extended_of layout_checked
    parts_refused other =
        rw (
          ne_eqb (colons text) 0 (λ z. omega (arith, colons_there)),
          le-leb (length text) 256 few,
          type_there,
          ne_eqb (colons text) (colons_of kind) other,
        )

-- ---- two parts

pub two_said : (kind : ReplyType) (text present : List ℕ) → TwoParts kind text present → length text ≤ 256
    → said_in text ≡ Said.Login (password_by kind present)
unfolding typed_in
two_said kind text present t few =
    typed_said kind text present t.laid few
    (colons_there kind text present t.laid ∙ ap suc t.whole ∙ sym (ap (λ (k : Bool). cond k 3 1) t.logs_in))
    ∙ ap (λ (k : Bool). cond k (renewal_in kind text) (Said.Login (password_by kind (part_at text (present_at text))))) t.logs_in
    ∙ ap (λ (l : List ℕ). Said.Login (password_by kind l))
    (last_there text (present_at text) present (present_there kind text present t.laid) t.whole)

-- ---- four parts

-- what they say, where the parameters start at a place
abbrev pub renewal_by : ReplyType → ℕ → List ℕ → List ℕ → List ℕ → Said
renewal_by kind at present parameters new = renewal_said at (parameters_of parameters) (password_by kind new) (password_by kind present)

module _ (kind : ReplyType) (text present parameters new : List ℕ) (t : FourParts kind text present parameters new) where
  -- where the parameters start
  abbrev pub parameters_place : ℕ
  parameters_place = length (type_name kind) + length present + 2

  rest_there : drop (present_at text) text ≡ present ++ 58 ∷ (parameters ++ 58 ∷ new)
  rest_there = present_there kind text _ t.laid

  present_read : part_at text (present_at text) ≡ present
  present_read = part_there text (present_at text) present (parameters ++ 58 ∷ new) rest_there t.present_whole

  parameters_there : drop (parameters_at text) text ≡ parameters ++ 58 ∷ new
  unfolding parameters_at
  parameters_there = after_there text (present_at text) present (parameters ++ 58 ∷ new) rest_there t.present_whole

  parameters_read : part_at text (parameters_at text) ≡ parameters
  parameters_read = part_there text (parameters_at text) parameters new parameters_there t.parameters_whole

  new_read : part_at text (new_at text) ≡ new
  unfolding new_at
  new_read = last_there text (new_at text) new (after_there text (parameters_at text) parameters new parameters_there t.parameters_whole) t.new_whole

  parameters_at_lem : parameters_at text ≡ parameters_place
  unfolding parameters_at
  parameters_at_lem = omega (arith, ap length present_read, present_at_lem kind text _ t.laid)

  three_colons : colons text ≡ colons_of kind
  three_colons =
      colons_there kind text _ t.laid
      ∙ ap suc (colons_part present _ t.present_whole ∙ ap suc (colons_part parameters new t.parameters_whole ∙ ap suc t.new_whole))
      ∙ sym (ap (λ (k : Bool). cond k 3 1) t.renews)

  pub four_said : length text ≤ 256 → said_in text ≡ renewal_by kind parameters_place present parameters new
  unfolding typed_in renewal_in
  four_said few =
      typed_said kind text _ t.laid few three_colons
      ∙ ap (λ (k : Bool). cond k (renewal_in kind text) (Said.Login (password_by kind (part_at text (present_at text))))) t.renews
      ∙ (λ i. renewal_by kind (parameters_at_lem i) (present_read i) (parameters_read i) (new_read i))

  -- a part of the parameters is a part of the text
  pub four_seed : (start len : ℕ) → start + len ≤ length parameters → seed_part text (parameters_place + start) len ≡ seed_part parameters start len
  four_seed start len h =
      ap (take len) (
      ap (λ (k : ℕ). drop (k + start) text) (sym parameters_at_lem)
      ∙ sym (drop-drop start (parameters_at text) text)
      ∙ ap (drop start) parameters_there
      ∙ drop-append-le start parameters (58 ∷ new) (omega arith)
      )
      ∙ take-append-le len (drop start parameters) (58 ∷ new) (omega (arith, length-drop start parameters))
