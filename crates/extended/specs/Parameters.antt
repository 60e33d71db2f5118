-- RFC 2243: the parameters of an `init` reply, "as in `md5 499 ke1235`": algorithm, count and seed, with white space between and around them.
use Rattle.std.specs.Prelude.{ℕ, suc, ◌+◌, cond, ◌&&◌, List, [], ◌∷◌, eqb, drop, Option, Some, None}
use Rattle.text.specs.Kinds.{is_white, is_solid}
use Rattle.text.specs.Scan.{run_of, stretch}
use Rattle.text.specs.Digits.{number_of}
use Rattle.text.specs.Counts.{is_count}
use Rattle.password.specs.Algorithm.{algorithm_number, named}
use Rattle.extended.specs.declared.parameters.Parameters.{Parameters}
use Rattle.password.specs.declared.algorithm.Algorithm.{Algorithm}

-- The word that starts at a place; nothing where none is left.
unfoldable pub word_at : List ℕ → ℕ → List ℕ
word_at part at = stretch is_solid part at

-- Where the word after the one at a place starts.
unfoldable pub word_after : List ℕ → ℕ → ℕ
word_after part at =
    let end = at + run_of is_solid (drop at part) in
    end + run_of is_white (drop end part)

-- The places of the algorithm, of the count and of the seed: "A missing one is empty."
abbrev pub name_at : List ℕ → ℕ
name_at part = run_of is_white part

abbrev pub count_after : List ℕ → ℕ
count_after part = word_after part (name_at part)

abbrev pub seed_after : List ℕ → ℕ
seed_after part = word_after part (count_after part)

-- An algorithm's number; 0, which none has, for a name that is none's.
abbrev pub name_number : Option Algorithm → ℕ
name_number (Some algorithm) = algorithm_number algorithm
name_number None = 0

-- A count; 0, which 51 refuses, for a word that is none.
abbrev pub count_in : List ℕ → ℕ
count_in word = cond (is_count word) (number_of 10 word) 0

-- "All that follows the count is the seed", without the white space behind it: how many bytes there are up to the last that is solid.
unfoldable pub trimmed : List ℕ → ℕ
trimmed [] = 0
trimmed (b ∷ s) = cond (is_white b && eqb (trimmed s) 0) 0 (suc (trimmed s))

unfoldable pub parameters_of : List ℕ → Parameters
parameters_of part = record {
  algorithm = name_number (named (word_at part (name_at part)));
  count = count_in (word_at part (count_after part));
  start = seed_after part;
  len = trimmed (drop (seed_after part) part);
}
