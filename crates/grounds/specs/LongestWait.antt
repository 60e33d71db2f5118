-- The longest wait: a port that joins fourth, with no tick before, waits for 180 ticks.
use Rattle.std.specs.Prelude.{ℕ, zero, suc, ◌+◌, ◌≤◌, ◌≡◌, refl, Bool, true, not, List, [], ◌∷◌, ◌++◌, replicate, Ok}
use Rattle.std.proofs.Common.{suc-le-suc, arith, add_comm, add-one, sym, ap, ◌∙◌, true≢false}
use Rattle.std.proofs.lemmas.Bool.{not-true}
use Rattle.text.specs.Tests.{every, every_at, every_weaker}
use Rattle.digests.specs.Lists.{up_to, length-up_to, get_d_up_to}
use Rattle.password.specs.PhraseAndSeed.{plain}
use Rattle.password.specs.declared.algorithm.Algorithm.{Algorithm}
use Rattle.password.specs.Algorithm.{algorithm_number}
use Rattle.line.specs.Line.{Waiting, some, front_of, ticked}
use Rattle.table.specs.Table.{State, Held, fresh, place_of, line_of, in_lines, stands_at, is_front}
use Rattle.table.specs.Steps.{enrol_checked, enrol, join_checked, joins, join, tick}
use Rattle.reached.specs.Calls.{Call, run}
use Rattle.reached.specs.InTurn.{tick_of, ticks, has_turn_for, TurnBegins}
use Rattle.line.specs.Laws.{ticked-empty}
use Rattle.grounds.specs.HeldAfter.{found-lined}

-- An account, of either algorithm, and three ports in line for it.
abbrev pub three_wait : Algorithm → List Call
three_wait algorithm =
    Call.Enrol 1 (algorithm_number algorithm) 2 (97 ∷ []) (0 ∷ 1 ∷ 2 ∷ 3 ∷ 4 ∷ 5 ∷ 6 ∷ 7 ∷ []) ∷ Call.Join 0 1 ∷ Call.Join 1 1 ∷ Call.Join 2 1 ∷ []

-- So many ticks after the fourth has joined, it has the turn.
unfoldable pub has_turn_after : Algorithm → ℕ → Bool
has_turn_after algorithm n = has_turn_for 3 1 (run (replicate n Call.Tick) (join 3 1 (run (three_wait algorithm) fresh)).state)

-- The fourth joins.
pub fourth_joins : (algorithm : Algorithm) → (join 3 1 (run (three_wait algorithm) fresh)).answer ≡ Ok tt
unfolding run enrol enrol_checked join join_checked joins some place_of stands_at in_lines plain every
fourth_joins Algorithm.Md5 = refl
fourth_joins Algorithm.Sha1 = refl

-- The line of the account then.
abbrev four : Waiting
four = record { ports = 0 ∷ 1 ∷ 2 ∷ 3 ∷ []; turn = 60 }

-- So the calls make it.
four_wait : (algorithm : Algorithm) → line_of 1 (join 3 1 (run (three_wait algorithm) fresh)).state ≡ four
unfolding run enrol enrol_checked join join_checked joins some place_of stands_at in_lines plain every
four_wait Algorithm.Md5 = refl
four_wait Algorithm.Sha1 = refl

-- A line after so many ticks.
ticked_times : ℕ → Waiting → Waiting
ticked_times zero w = w
ticked_times (suc n) w = ticked_times n (ticked w)

-- So are the lines of a table.
ticks_line : (n i : ℕ) (s : State) → line_of i (run (replicate n Call.Tick) s) ≡ ticked_times n (line_of i s)
unfolding run tick ticked_times
ticks_line zero i s = refl
ticks_line (suc n) i s =
    ticks_line n i (tick s) ∙ ap (λ (held : Held). ticked_times n held.line) (found-lined ticked ticked-empty i s.rooms)

-- Whether the fourth has the turn, by that line.
turn_after_lem : (algorithm : Algorithm) (n : ℕ) → has_turn_after algorithm n ≡ is_front 3 (front_of (ticked_times n four))
unfolding has_turn_after
turn_after_lem algorithm n =
    ap (λ (w : Waiting). is_front 3 (front_of w))
    (ticks_line n 1 (join 3 1 (run (three_wait algorithm) fresh)).state ∙ ap (ticked_times n) (four_wait algorithm))

-- Computed: not after 0 to 179 ticks, and then after 180.
line_waits : (every (λ n. not (is_front 3 (front_of (ticked_times n four)))) (up_to 180 (λ n. n)) ≡ true)
    × (is_front 3 (front_of (ticked_times 180 four)) ≡ true)
unfolding every up_to ticked_times ticked
line_waits = (refl, refl)

-- So it is in the table.
pub waits_180_ticks : (algorithm : Algorithm)
    → (every (λ n. not (has_turn_after algorithm n)) (up_to 180 (λ n. n)) ≡ true) × (has_turn_after algorithm 180 ≡ true)
waits_180_ticks algorithm = (
  every_weaker (λ n. not (is_front 3 (front_of (ticked_times n four)))) (λ n. not (has_turn_after algorithm n))
      (λ n e. ap not (turn_after_lem algorithm n) ∙ e) (up_to 180 (λ n. n)) line_waits.0,
  turn_after_lem algorithm 180 ∙ line_waits.1,
)

-- ---- in the words of the demand

-- The front part of a run of ticks is a run of ticks.
front_ticks : (n : ℕ) (early late : List Call) → replicate n Call.Tick ≡ early ++ late → early ≡ replicate (ticks early) Call.Tick
unfolding ticks
front_ticks n [] late e = refl
front_ticks zero (c ∷ early) late e = let z : ◌≡◌ {A = ℕ} 0 1 = cc in absurd (omega arith)
front_ticks (suc n) (c ∷ early) late e =
    let first : c ≡ Call.Tick = cc in
    let rest : replicate n Call.Tick ≡ early ++ late = cc in
    let tail = front_ticks n early late rest in
    let more : tick_of c + ticks early ≡ suc (ticks early) =
    ap (λ (d : Call). tick_of d + ticks early) first ∙ add_comm 1 (ticks early) ∙ add-one (ticks early) in
    rw more (rw first (ap (λ (l : List Call). Call.Tick ∷ l) tail))

-- Not after any number up to 179.
too_soon : (algorithm : Algorithm) (n : ℕ) → n ≤ 179 → has_turn_after algorithm n ≡ true → ⊥
too_soon algorithm n h e =
    let each = every_at (λ n. not (has_turn_after algorithm n)) (up_to 180 (λ n. n)) 0 (waits_180_ticks algorithm).0 n
    (rw (length-up_to 180 (λ n. n)) (suc-le-suc h)) in
    let none = rw (get_d_up_to 180 (λ n. n) n (suc-le-suc h)) at each in
    true≢false (sym e ∙ not-true (has_turn_after algorithm n) none)

-- So it doesn't begin by the 179th.
pub not_sooner : (algorithm : Algorithm) → TurnBegins 3 1 179 (replicate 180 Call.Tick) (join 3 1 (run (three_wait algorithm) fresh)).state → ⊥
unfolding has_turn_after
not_sooner algorithm b =
    let same = front_ticks 180 b.early b.late b.parted in
    too_soon algorithm (ticks b.early) b.soon
    (ap (λ (l : List Call). has_turn_for 3 1 (run l (join 3 1 (run (three_wait algorithm) fresh)).state)) (sym same) ∙ b.turn)
