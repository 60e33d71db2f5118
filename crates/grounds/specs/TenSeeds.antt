-- R-5 on one account: the way back to the first seed, at once and by the ninth renewal, computed from the written steps.
use Rattle.std.specs.Prelude.{ℕ, ◌≡◌, refl}
use Prim.Native.String.{String}
use mathlib.Core.List.{List, [], ◌∷◌, ◌++◌, map, flatten}
use Rattle.refusal.specs.declared.Refusal.{Refusal}
use Rattle.text.specs.Tests.{every, same}
use Rattle.text.specs.Quoted.{codes}
use Rattle.digests.specs.Lists.{up_to}
use Rattle.digests.specs.Padding.{padded_byte, padded_word, block_at, absorbed}
use Rattle.digests.specs.Md5.{md5, registers}
use Rattle.digests.specs.Rounds.{compressed, rounds, performed, operation, round1, round2, round3, round4}
use Rattle.password.specs.declared.algorithm.Algorithm.{Algorithm}
use Rattle.password.specs.PhraseAndSeed.{plain}
use Rattle.password.specs.Password.{fold, number_after, bytes_of, hash}
use Rattle.line.specs.Line.{some, others, turn_without, left}
use Rattle.accounts.specs.Accounts.{is_one_of}
use Rattle.table.specs.Table.{State, fresh, place_of, in_lines, stands_at}
use Rattle.table.specs.Steps.{enrol_checked, enrol, join_checked, joins, join, turn_checked, compared, renew_checked, offer_renewal}
use Rattle.reached.specs.Calls.{Call, Answer, after, answers}
use Rattle.reached.specs.SeedsHad.{following, seeds_along}

-- The next password is always 5, so that one hash is stored every time.
abbrev hashed : ℕ
hashed = hash Algorithm.Md5 (bytes_of 5)

-- Account 1, by MD5, with the count 2 and the seed `lift1`.
abbrev pub begun : State
begun = after (Call.Enrol 1 1 2 (codes "lift1") (bytes_of hashed)) fresh

-- Port 0 renews it with that seed; and joins for it first.
abbrev pub renewing : String → Call
renewing seed = Call.OfferRenewal 0 1 2 (codes seed) hashed 5

abbrev pub renewal : String → List Call
renewal seed = Call.Join 0 1 ∷ renewing seed ∷ []

-- Nine times, the last time with the first seed.
abbrev pub nine_renewals : List Call
nine_renewals = flatten (map renewal ("lift2" ∷ "lift3" ∷ "lift4" ∷ "lift5" ∷ "lift6" ∷ "lift7" ∷ "lift8" ∷ "lift9" ∷ "lift1" ∷ []))

-- To another seed and back at once, in small letters and in capitals: both are refused. The ninth renewal takes the first seed again.
pub way_back :
    (answers (renewal "lift2" ++ renewal "lift1" ++ renewing "LIFT1" ∷ []) begun
    ≡ Answer.Done ∷ Answer.Count 2 ∷ Answer.Done ∷ Answer.Refused Refusal.SeedSame ∷ Answer.Refused Refusal.SeedSame ∷ [])
    × (seeds_along 1 nine_renewals begun
    ≡ map codes ("lift1" ∷ "lift2" ∷ "lift3" ∷ "lift4" ∷ "lift5" ∷ "lift6" ∷ "lift7" ∷ "lift8" ∷ "lift9" ∷ "lift1" ∷ []))
unfolding answers following flatten enrol_checked enrol join_checked joins join turn_checked compared renew_checked offer_renewal is_one_of
    place_of in_lines stands_at some others turn_without left plain every same codes hash fold number_after md5 registers absorbed compressed rounds
    performed operation round1 round2 round3 round4 block_at padded_word padded_byte up_to
way_back = (refl, refl)
