-- `place_of` meets its promise: the search finds the word's place, or what is before and behind it.
use Rattle.std.proofs.Common.{◌≡◌, ◌<◌, ◌≤◌, ap, ◌∙◌, sym, subst, get_or, length, arith, ℕ, List, Ok, Err, Result, Some, None}
use Rattle.std.proofs.Math.Decide.{dec_lt}
use Rattle.std.proofs.lemmas.List.Sorted.{searched}
use Rattle.std.specs.List.Sorted.{IsBinarySearchResult}
use Rattle.std.specs.Ordering.{nat_cmp}
use Rattle.std.specs.Result.{result_ok}
use Rattle.dictionary.specs.Dictionary.{dictionary, packed_at, found_of}
use Rattle.dictionary.specs.Laws.{dictionary_count, no_place}
use Rattle.dictionary.proofs.InOrder.{packed_order, at_place}
use Rattle.wordlist.specs.declared.word_table.TheConstants.{WORDS}
use Rattle.wordlist.proofs.TableWords.{table_words}
use Rattle.wordlist.proofs.place_of.Goals as goal

rises : (i j : ℕ) → i ≤ j → j < length dictionary → get_or dictionary i 0 ≤ get_or dictionary j 0
rises i j h l = go (dec_lt i j)
  where
    go : Dec (i < j) → packed_at i ≤ packed_at j
    go (yes k) = let o = packed_order i j k (rw dictionary_count at l) in omega arith
    go (no k) = let e : packed_at i ≡ packed_at j = ap packed_at (omega arith) in omega arith

-- what the search in the table answers, said of the dictionary
abbrev Answers : ℕ → Result ℕ ℕ → Type 0
Answers x r = IsBinarySearchResult (λ y. nat_cmp y x) WORDS r

in_dictionary : (x : ℕ) (r : Result ℕ ℕ) → Answers x r → IsBinarySearchResult (λ y. nat_cmp y x) dictionary r
in_dictionary x r h = let P : List ℕ → Type 0 = λ l. IsBinarySearchResult (λ y. nat_cmp y x) l r in subst P table_words h

found : (x i : ℕ) → Answers x (Ok i) → Some i ≡ found_of x
found x i h =
    let s = searched dictionary x (Ok i) (in_dictionary x (Ok i) h) rises in
    sym (at_place i (rw dictionary_count at s.0)) ∙ ap found_of s.1

missing : (x i : ℕ) → Answers x (Err i) → None ≡ found_of x
missing x i h = sym (no_place x (λ k l e. go k l e (dec_lt k i)))
  where
    go : (k : ℕ) → k < 2048 → packed_at k ≡ x → Dec (k < i) → ⊥
    go k l e (yes b) = let s = (searched dictionary x (Err i) (in_dictionary x (Err i) h) rises).1 k b in omega arith
    go k l e (no b) = let s = (searched dictionary x (Err i) (in_dictionary x (Err i) h) rises).2 k (omega arith) (rw dictionary_count l) in omega arith

-- the search's answer without what it says of a word that isn't there
answered : (x : ℕ) (r : Result ℕ ℕ) → Answers x r → result_ok r ≡ found_of x
answered x (Ok i) h = found x i h
answered x (Err i) h = missing x i h

pub returns : goal.returns
returns c = c.ok.ensures.value ∙ answered c.args.word c.binary_search.result c.binary_search.ensures.position
