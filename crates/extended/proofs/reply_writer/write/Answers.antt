-- `write` meets its promise: 34, behind it what is wrong with an `init` type's values, and behind that the text or 40.
use Prim.Native.Nat.{ℕ}
use mathlib.Core.Path.{◌≡◌, refl, sym, ap, ◌∙◌, subst}
use mathlib.Core.Bool.{true, false}
use mathlib.Core.List.{List, ◌++◌}
use lib.ListN.{length}
use Rattle.refusal.specs.declared.Refusal.{Refusal}
use Rattle.std.specs.Prelude.{Option, Some, None, Ok, Err}
use Rattle.refusal.specs.Answers.{Written}
use Rattle.refusal.specs.Checks.{unless}
use Rattle.refusal.specs.Laws.{first_refused, first_good, missing, present, passed_on}
use Rattle.text.specs.Put.{Writes, written_of, leaves}
use Rattle.text.specs.PutLaws.{refused_leaves}
use Rattle.password.specs.declared.algorithm.Algorithm.{Algorithm}
use Rattle.password.specs.Algorithm.{numbered, algorithm_in}
use Rattle.password.specs.PhraseAndSeedLaws.{good_seed}
use Rattle.accounts.specs.Accounts.{new_checked}
use Rattle.extended.specs.declared.reply_types.ReplyType.{ReplyType}
use Rattle.extended.specs.ReplyTypes.{type_numbered, type_checked, type_in, is_init}
use Rattle.extended.specs.ReplyWriting.{login_text, tail_text, extended_text, renewal_checked, extended_written, text_by_numbers}
use Rattle.extended.specs.ReplyWritingLaws.{good_values}
use Rattle.extended.proofs.reply_writer.write.Goals as goal
use Rattle.extended.proofs.reply_writer.write.Goals.{In_ok-known}

module _ (type password number count : ℕ) (seed : List ℕ) (new : ℕ) where
  unknown : (room : ℕ) → type_numbered type ≡ None → Err Refusal.TypeUnknown ≡ extended_written type password number count seed new room
  unfolding extended_written
  unknown room e = first_refused Err (type_checked (type_numbered type)) _ _ (ap type_checked e)

  module _ (b b' : List ℕ) (r : Written) where
    -- what is promised behind 34, by the type that was found
    abbrev Behind : ReplyType → Type 0
    Behind kind =
        let text = extended_text kind password (algorithm_in (numbered number)) count seed new in
        (r ≡ unless Err (renewal_checked kind number count seed) (written_of (length b) text)) × (b' ≡ leaves r text b)

    abbrev Promised : Option ReplyType → Type 0
    Promised found =
        let text = extended_text (type_in found) password (algorithm_in (numbered number)) count seed new in
        (r ≡ unless Err (type_checked found)
        (unless Err (renewal_checked (type_in found) number count seed) (written_of (length b) text)))
        × (b' ≡ leaves r text b)

    by_type : (kind : ReplyType) → type_numbered type ≡ Some kind → Behind kind
        → (r ≡ extended_written type password number count seed new (length b)) × (b' ≡ leaves r (text_by_numbers type password number count seed new) b)
    unfolding extended_written
    by_type kind e w = subst Promised (sym e) w

    -- values that are good, and the text by their algorithm
    by_good : (kind : ReplyType) (by : Algorithm) → renewal_checked kind number count seed ≡ Ok tt → by ≡ algorithm_in (numbered number)
        → Writes (extended_text kind password by count seed new) b b' r → Behind kind
    by_good kind by good e w =
        let v = subst (λ (x : Algorithm). Writes (extended_text kind password x count seed new) b b' r) e w in
        (v.0 ∙ first_good Err (renewal_checked kind number count seed) _ good, v.1)

-- what stands in a reply, and what is checked, by whether the type is an `init` one
module _ (kind : ReplyType) (password count : ℕ) (algorithm : Algorithm) (seed : List ℕ) (new : ℕ) where
  text_init : is_init kind ≡ true → login_text kind password ++ tail_text kind algorithm count seed new ≡ extended_text kind password algorithm count seed new
  unfolding extended_text
  text_init e = rw e refl

  text_login : is_init kind ≡ false → login_text kind password ≡ extended_text kind password algorithm count seed new
  unfolding extended_text
  text_login e = rw e refl

checked_init : (kind : ReplyType) (number count : ℕ) (seed : List ℕ) → is_init kind ≡ true
    → renewal_checked kind number count seed ≡ new_checked number count seed
unfolding renewal_checked
checked_init kind number count seed e = rw e refl

checked_login : (kind : ReplyType) (number count : ℕ) (seed : List ℕ) → is_init kind ≡ false → renewal_checked kind number count seed ≡ Ok tt
unfolding renewal_checked
checked_login kind number count seed e = rw e refl

writes_same : (t u b b' : List ℕ) (r : Written) → t ≡ u → Writes t b b' r → Writes u b b' r
writes_same t u b b' r e w = subst (λ (l : List ℕ). Writes l b b' r) e w

-- a type that was found
known : (c : In_ok-known) → type_numbered c.args.kind ≡ Some c.in_ok-known.known
known c = sym c.type_numbered.ensures ∙ present _ _ _ (sym c.ok_or.ensures.value ∙ c.in_ok-known.was)

pub returns-in_err-known : goal.returns-in_err-known
returns-in_err-known c =
    let none = missing _ _ _ (sym c.ok_or.ensures.value ∙ c.in_err-known.was) in
    let refused = passed_on _ _ c.from_residual.ensures.1 ∙ ap Err (sym none.1) in
    record { answered = refused ∙ unknown _ _ _ _ _ _ _ (sym c.type_numbered.ensures ∙ none.0); left = refused_leaves _ _ _ _ refused }

pub returns-then-not-is_init : goal.returns-then-not-is_init
returns-then-not-is_init c =
    let a = c.args in
    let login = sym c.is_init.ensures ∙ c.if-not-is_init.true in
    let text = text_login c.in_ok-known.known a.password a.count (algorithm_in (numbered a.algorithm)) a.seed.now a.new login in
    let both = by_type a.kind a.password a.algorithm a.count a.seed.now a.new a.buf.now _ _ _
    (known (goal.at.returns-then-not-is_init c).In_ok-known)
    (by_good a.kind a.password a.algorithm a.count a.seed.now a.new a.buf.now _ _ _ _
    (checked_login c.in_ok-known.known a.algorithm a.count a.seed.now login) refl
    (writes_same _ _ a.buf.now _ _ text c.write_text.ensures)) in
    record { answered = both.0; left = both.1 }

pub returns-in_err-check_new : goal.returns-in_err-check_new
returns-in_err-check_new c =
    let a = c.args in
    let init = sym c.is_init.ensures ∙ c.if-not-is_init.false in
    let refused = passed_on _ _ c.from_residual-in_err-check_new.ensures.1 in
    let both = by_type a.kind a.password a.algorithm a.count a.seed.now a.new a.buf.now _ _ _
    (known (goal.at.returns-in_err-check_new c).In_ok-known) (
      refused ∙ first_refused Err _ _ _ (checked_init c.in_ok-known.known a.algorithm a.count a.seed.now init
          ∙ sym c.check_new.ensures ∙ c.in_err-check_new.was),
      refused_leaves _ _ _ _ refused,
    ) in
    record { answered = both.0; left = both.1 }

pub invariant_of-renewal : goal.invariant_of-renewal
invariant_of-renewal c =
    let a = c.args in
    record { short = (good_seed a.seed.now (good_values a.algorithm a.count a.seed.now (sym c.check_new.ensures ∙ c.in_ok-check_new.was)).2).1 }

pub returns : goal.returns
returns c =
    let a = c.args in
    let init = sym c.is_init.ensures ∙ c.if-not-is_init.false in
    let text = text_init c.in_ok-known.known a.password a.count c.algorithm_in.result a.seed.now a.new init in
    let both = by_type a.kind a.password a.algorithm a.count a.seed.now a.new a.buf.now _ _ _
    (known (goal.at.returns c).In_ok-known)
    (by_good a.kind a.password a.algorithm a.count a.seed.now a.new a.buf.now _ _ _ _
    (checked_init c.in_ok-known.known a.algorithm a.count a.seed.now init ∙ sym c.check_new.ensures ∙ c.in_ok-check_new.was) c.algorithm_in.ensures
    (writes_same _ _ a.buf.now _ _ text c.write_text-2.ensures)) in
    record { answered = both.0; left = both.1 }
