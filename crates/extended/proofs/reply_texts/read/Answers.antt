-- `read` meets its promise: 30 over 256 bytes; plain without a colon; else 34, 35, and behind them what the text says.
use Rattle.std.specs.Prelude.{Some, None, Err}
use borrow.Author.Tests.{eq-eqb, ne_eqb, le-leb, lt-leb, lt-ltb}
use Prim.Native.Nat.{ℕ, ◌≤◌, ◌<◌}
use mathlib.Core.Path.{◌≡◌, sym, ◌∙◌, ap}
use mathlib.Core.Logic.{◌↔◌}
use mathlib.Core.Bool.{Bool, true, false, cond}
use mathlib.Core.List.{List}
use native.Mathlib.Omega.{arith}
use lib.Dec.{eqb}
use lib.ListN.{length}
use Rattle.refusal.specs.declared.Refusal.{Refusal}
use Rattle.refusal.specs.Answers.{Reading}
use Rattle.refusal.specs.Laws.{missing, present, passed_on}
use Rattle.reply.specs.Reply.{reading_of}
use Rattle.extended.specs.declared.reply_types.ReplyType.{ReplyType}
use Rattle.extended.specs.ReplyTypes.{typed}
use Rattle.extended.specs.ReplyTexts.{part_at, colons, colons_of, Said, typed_in, layout_checked, extended_of, said_in, read_to, reply_text_of}
use Rattle.extended.specs.Inside.{few_colons, few_colons_lem}
use Rattle.extended.proofs.reply_texts.read.Goals as goal
use Rattle.extended.proofs.reply_texts.read.Goals.{After-read_type, Else-found-eq0}

module _ (text : List ℕ) where
  -- With a colon or without.
  long : 256 < length text → Err Refusal.ReplyLong ≡ read_to (said_in text)
  unfolding said_in extended_of layout_checked reading_of
  long h = by (eqb (colons text) 0)
    where
      by : (b : Bool) → Err Refusal.ReplyLong ≡ read_to (cond b (Said.Login (reading_of text)) (extended_of text))
      by true = rw (lt-ltb 128 (length text) (omega arith))
      by false = rw (lt-leb (length text) 256 h)

  plain : colons text ≡ 0 → Said.Login (reading_of text) ≡ said_in text
  unfolding said_in
  plain e = rw (eq-eqb (colons text) 0 e)

  module _ (colon : colons text ≡ 0 → ⊥) where
    module _ (h : length text ≤ 256) where
      untyped : typed (part_at text 0) ≡ None → Said.Refused Refusal.TypeUnknown ≡ said_in text
      unfolding said_in extended_of layout_checked
      untyped e = rw (ne_eqb (colons text) 0 colon, le-leb (length text) 256 h, e)

      module _ (kind : ReplyType) (e : typed (part_at text 0) ≡ Some kind) where
        misparted : (colons text ≡ colons_of kind → ⊥) → Said.Refused Refusal.PartsWrong ≡ said_in text
        unfolding said_in extended_of layout_checked
        misparted f = rw (ne_eqb (colons text) 0 colon, le-leb (length text) 256 h, e, ne_eqb (colons text) (colons_of kind) f)

        laid_out : colons text ≡ colons_of kind → typed_in kind text ≡ said_in text
        unfolding said_in extended_of layout_checked
        laid_out f = rw (ne_eqb (colons text) 0 colon, le-leb (length text) 256 h, e, eq-eqb (colons text) (colons_of kind) f)

at_most_3 : (kind : ReplyType) → colons_of kind ≤ 3
at_most_3 ReplyType.Hex = omega arith
at_most_3 ReplyType.Word = omega arith
at_most_3 ReplyType.InitHex = omega arith
at_most_3 ReplyType.InitWord = omega arith

of_type_lem : (s : List ℕ) (kind : ReplyType) → (few_colons s ≡ colons_of kind) ↔ (colons s ≡ colons_of kind)
of_type_lem s kind = few_colons_lem s (colons_of kind) (at_most_3 kind)

some : (c : Else-found-eq0) → colons c.args.text.now ≡ 0 → ⊥
some c e = c.if-found-eq0.false (c.colons-found.ensures ∙ (few_colons_lem c.args.text.now 0 (omega arith)).1 e)

few : (c : Else-found-eq0) → length c.args.text.now ≤ 256
few c = c.if-text-gt256.false

known : (c : After-read_type) → c.read_type.result ≡ typed (part_at c.args.text.now 0)
known c = c.read_type.ensures ∙ ap typed c.part.ensures

pub returns-then-text-gt256 : goal.returns-then-text-gt256
unfolding reply_text_of
returns-then-text-gt256 c = long c.args.text.now c.if-text-gt256.true

pub returns-then-found-eq0 : goal.returns-then-found-eq0
unfolding reply_text_of
returns-then-found-eq0 c =
    c.login_of.ensures
    ∙ ap (λ (r : Reading). read_to (Said.Login r)) c.read.ensures
    ∙ ap read_to (plain c.args.text.now ((few_colons_lem c.args.text.now 0 (omega arith)).0 (sym c.colons-found.ensures ∙ c.if-found-eq0.true)))

pub returns-in_err-kind : goal.returns-in_err-kind
unfolding reply_text_of
returns-in_err-kind c =
    let none = missing _ _ _ (sym c.ok_or.ensures.value ∙ c.in_err-kind.was) in
    passed_on _ _ c.from_residual.ensures.1
    ∙ ap Err (sym none.1)
    ∙ ap read_to (untyped c.args.text.now (some (goal.at.returns-in_err-kind c).Else-found-eq0) (few (goal.at.returns-in_err-kind c).Else-found-eq0)
    (sym (known (goal.at.returns-in_err-kind c).After-read_type) ∙ none.0))

pub returns-then-found-colons_of : goal.returns-then-found-colons_of
unfolding reply_text_of
returns-then-found-colons_of c =
    ap read_to (misparted c.args.text.now (some (goal.at.returns-then-found-colons_of c).Else-found-eq0)
    (few (goal.at.returns-then-found-colons_of c).Else-found-eq0) _
    (sym (known (goal.at.returns-then-found-colons_of c).After-read_type) ∙ present _ _ _ (sym c.ok_or.ensures.value ∙ c.in_ok-kind.was))
    (λ e. c.if-found-colons_of.true (c.colons-found.ensures ∙ (of_type_lem c.args.text.now c.in_ok-kind.kind).1 e ∙ sym c.colons_of.ensures)))

pub returns : goal.returns
unfolding reply_text_of
returns c =
    c.typed_in.ensures
    ∙ ap read_to (laid_out c.args.text.now (some (goal.at.returns c).Else-found-eq0) (few (goal.at.returns c).Else-found-eq0) _
    (sym (known (goal.at.returns c).After-read_type) ∙ present _ _ _ (sym c.ok_or.ensures.value ∙ c.in_ok-kind.was))
    ((of_type_lem c.args.text.now c.in_ok-kind.kind).0 (sym c.colons-found.ensures ∙ c.if-found-colons_of.false ∙ c.colons_of.ensures)))
