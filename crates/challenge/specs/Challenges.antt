-- 01, Challenges, and 02, R-1 and R-6: steps 1 to 5, "from left to right; the first fault is the answer", and what the writer writes.
use Rattle.std.specs.Prelude.{ℕ, ◌+◌, Bool, true, false, cond, ◌&&◌, ◌||◌, List, [], ◌∷◌, ◌++◌, map, ltb, eqb, length, take, drop, Err, Result, Ok}
use Rattle.refusal.specs.declared.Refusal.{Refusal}
use Rattle.refusal.specs.declared.Listing.{Listing}
use Rattle.refusal.specs.Answers.{Checked, Written}
use Rattle.refusal.specs.Numbers.{listing_of, unrefused}
use Rattle.refusal.specs.Checks.{unless, must}
use Rattle.text.specs.Kinds.{in_token, is_blank, lower_of}
use Rattle.text.specs.Scan.{run_of}
use Rattle.text.specs.Digits.{number_of}
use Rattle.text.specs.Put.{written_of}
use Rattle.text.specs.Tests.{same}
use Rattle.text.specs.Quoted.{codes}
use Rattle.password.specs.declared.algorithm.Algorithm.{Algorithm}
use Rattle.password.specs.Algorithm.{algorithm_number, algorithm_name, numbered, named, algorithm_checked, algorithm_in}
use Rattle.password.specs.PhraseAndSeed.{seed_checked}
use Rattle.challenge.specs.declared.reading.Challenge.{Challenge}
use Rattle.text.specs.Counts.{is_count, decimal_of}

-- "the four bytes `otp-` in lower case"
unfoldable pub opening : List ℕ
opening = codes "otp-"

-- "A token ends before a space, tab, newline or the end of the slice": the token that starts at a place
unfoldable pub token_at : List ℕ → ℕ → List ℕ
token_at text at = take (run_of in_token (drop at text)) (drop at text)

-- where the token at a place ends
abbrev pub end_of : List ℕ → ℕ → ℕ
end_of text at = at + length (token_at text at)

-- "spaces or tabs, then a token": where the token after the one at a place starts
unfoldable pub next_at : List ℕ → ℕ → ℕ
next_at text at = end_of text at + run_of is_blank (drop (end_of text at) text)

-- the places of the count and of the seed; the token of step 2 is "the rest" past the four bytes
unfoldable pub count_at : List ℕ → ℕ
count_at text = next_at text 4

unfoldable pub seed_at : List ℕ → ℕ
seed_at text = next_at text (count_at text)

-- step 5: "a space or newline", and not the end of the slice
abbrev pub terminated : List ℕ → Bool
terminated [] = false
terminated (b ∷ rest) = eqb b 32 || eqb b 10

-- the five steps
abbrev pub step1 : List ℕ → Checked
step1 text = must (same (take 4 text) opening) Refusal.OpeningWrong

-- R-1: "21 now means neither `md5` nor `sha1`"
abbrev pub step2 : List ℕ → Checked
step2 text = algorithm_checked (named (token_at text 4))

abbrev pub step3 : List ℕ → Checked
step3 text = must (is_count (token_at text (count_at text))) Refusal.CountUnread

abbrev pub step4 : List ℕ → Checked
step4 text = seed_checked (token_at text (seed_at text))

abbrev pub step5 : List ℕ → Checked
step5 text = must (terminated (drop (end_of text (seed_at text)) text)) Refusal.SeedUnended

-- R-6: "`ext`, alone or with a comma list"
unfoldable pub is_mark : List ℕ → Bool
is_mark t = same t (codes "ext") || same (take 4 t) (codes "ext,")

-- "the next token on the seed's line": where it starts, for a seed at a place. Behind a newline the seed's line is over; a token that
-- starts with one is empty, and no mark.
abbrev pub mark_at : List ℕ → ℕ → ℕ
mark_at text start = next_at text start

-- The `ext` mark is "set when the next token on the seed's line is `ext`, alone or with a comma list, and is ended as a seed is".
unfoldable pub has_mark : List ℕ → ℕ → Bool
has_mark text start = is_mark (token_at text (mark_at text start)) && terminated (drop (end_of text (mark_at text start)) text)

-- "On success": "the bytes used, terminator included"; R-6: "the bytes used then include" the mark
unfoldable pub used_by : List ℕ → ℕ → ℕ
used_by text start = cond (has_mark text start) (end_of text (mark_at text start) + 1) (end_of text start + 1)

-- A challenge that was read: its algorithm, its count, where its seed starts and how long it is, the bytes used, and whether it has the mark.
abbrev pub a_challenge : Algorithm → ℕ → ℕ → ℕ → ℕ → Bool → Result Challenge Refusal
a_challenge algorithm count start len used ext =
    Ok (record { algorithm = algorithm; count = count; start = start; len = len; used = used; ext = ext })

-- R-1's algorithm, the count, where the seed stands, how long it is, the bytes used, and R-6's mark
abbrev pub found : List ℕ → Result Challenge Refusal
found text =
    a_challenge (algorithm_in (named (token_at text 4))) (number_of 10 (token_at text (count_at text))) (seed_at text)
    (length (token_at text (seed_at text))) (used_by text (seed_at text)) (has_mark text (seed_at text))

unfoldable pub challenge_of : List ℕ → Result Challenge Refusal
challenge_of text =
    unless Err (step1 text)
    (unless Err (step2 text)
    (unless Err (step3 text)
    (unless Err (step4 text)
    (unless Err (step5 text)
    (found text)))))

-- the number and values of a challenge that was read: the algorithm's number, count, start, length, bytes used, and 1 for the mark
abbrev pub challenge_numbers : Result Challenge Refusal → Listing × ℕ × ℕ × ℕ × ℕ × ℕ × ℕ
challenge_numbers (Ok c) = (unrefused, algorithm_number c.algorithm, c.count, c.start, c.len, c.used, cond c.ext 1 0)
challenge_numbers (Err why) = (listing_of why, 0, 0, 0, 0, 0, 0)

-- the algorithm that a challenge asks for; after a refusal nobody asks
abbrev pub algorithm_of : Result Challenge Refusal → Algorithm
algorithm_of (Ok c) = c.algorithm
algorithm_of (Err why) = Algorithm.Md5

-- "the seed is handed back as the part of the caller's bytes where it stands"; "After a refusal the part
-- handed back is the empty one at the start": where the part starts, and how long it is
abbrev pub start_of : Result Challenge Refusal → ℕ
start_of (Ok c) = c.start
start_of (Err why) = 0

abbrev pub length_of : Result Challenge Refusal → ℕ
length_of (Ok c) = c.len
length_of (Err why) = 0

abbrev pub seed_of : List ℕ → List ℕ
seed_of text = take (length_of (challenge_of text)) (drop (start_of (challenge_of text)) text)

-- what comes after the seed: "a newline"; R-6: "The table's Challenge writes ` ext` before its newline."
unfoldable pub ending : Bool → List ℕ
ending false = 10 ∷ []
ending true = codes " ext" ++ 10 ∷ []

-- "The writer puts single spaces, the seed in lower case and a newline", behind the mark where it is asked for.
unfoldable pub challenge_text : Bool → Algorithm → List ℕ → ℕ → List ℕ
challenge_text ext algorithm seed count =
    opening ++ algorithm_name algorithm ++ 32 ∷ [] ++ decimal_of count ++ 32 ∷ [] ++ map lower_of seed ++ ending ext

-- "the challenge writer 23, 24, 13, 40"
unfoldable pub challenge_written_by : Bool → Algorithm → List ℕ → ℕ → ℕ → Written
challenge_written_by ext algorithm seed count room =
    unless Err (seed_checked seed)
    (cond (ltb 9999 count) (Err Refusal.CountHigh) (written_of room (challenge_text ext algorithm seed count)))

-- R-1: "an unknown algorithm gives 21 .. at the .. challenge writer first". The algorithm is given by its number. This writer writes no mark.
unfoldable pub challenge_written : ℕ → List ℕ → ℕ → ℕ → Written
challenge_written number seed count room =
    unless Err (algorithm_checked (numbered number))
    (challenge_written_by false (algorithm_in (numbered number)) seed count room)

-- and the text that it writes
abbrev pub text_by_number : ℕ → List ℕ → ℕ → List ℕ
text_by_number number seed count = challenge_text false (algorithm_in (numbered number)) seed count
