-- `offer_renewal` meets its promise: what the turn becomes, put back beside the older seeds, is the written step.
use Rattle.std.specs.Prelude.{Ok}
use Prim.Native.Nat.{◌<◌}
use mathlib.Core.Path.{◌≡◌, sym, ap, ◌∙◌}
use borrow.Author.Rules.{rules}
use borrow.Author.Tests.{ltb-true}
use native.Mathlib.Omega.{arith}
use lib.ListN.{length}
use Rattle.line.specs.Laws.{unmapped}
use Rattle.table.specs.Answers.{Replied}
use Rattle.table.specs.Table.{view, stands_at}
use Rattle.table.specs.Steps.{After}
use Rattle.table.specs.StepLaws.{turn_passed}
use Rattle.table.specs.ViewLaws.{rooms-32}
use Rattle.turns.specs.TurnPart.{Seen, Said, outcome, after, renewed}
use Rattle.turns.specs.TurnPartLaws.{after_elsewhere, after_renewal}
use Rattle.turns.proofs.offer_renewal.Goals as goal
use Rattle.turns.proofs.offer_renewal.Goals.{After-turn_of, Start}

all_rooms : (c : Start) → length c.args.table.rooms ≡ 32
all_rooms c = search (rules, unmapped)

inside : (c : After-turn_of) → c.turn_of.result.checked ≡ Ok tt → c.turn_of.result.place < 32
inside c good =
    let a = c.args in
    let s = view a.table a.older.now in
    let found = c.turn_of.ensures a.older.now in
    let stands = ltb-true (stands_at a.port s.rooms) (length s.rooms)
    (turn_passed a.port s (sym (ap (λ (t : Seen). t.checked) found) ∙ good)).inside in
    omega (
      arith,
      stands,
      ap (λ (t : Seen). t.place) found,
      rooms-32 a.table a.older.now (let all_rooms : length c.args.table.rooms ≡ 32 = search (rules, unmapped) in all_rooms),
    )

pub renewed-made-requires : goal.renewed-made-requires
renewed-made-requires c = record { place_bound = inside (goal.at.renewed-made-requires c).After-turn_of }

pub returns : goal.returns
returns c =
    let a = c.args in
    let made = c.renewed-made.result in
    let older = a.older.now in
    let left = c.renewed-made.new.older in
    let s = view a.table older in
    let does : Seen → Said = renewed a.algorithm a.count a.seed.now a.new a.password in
    let answer : c.put_back.result.answer ≡ made.answer = ap (λ (x : After Replied). x.answer) (c.put_back.ensures older) in record {
      answered = c.put_back.ensures left
          ∙ after_elsewhere a.port a.table older left (outcome made left) c.renewed-made.ensures.elsewhere
          ∙ ap (after a.port s) (c.renewed-made.ensures.said ∙ ap does (c.turn_of.ensures older))
          ∙ after_renewal a.port s a.algorithm a.count a.seed.now a.new a.password;
      left = λ why e. c.renewed-made.ensures.left why (sym answer ∙ e);
    }
