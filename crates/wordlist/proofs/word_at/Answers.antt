-- `word_at` meets its promise.
use Rattle.std.proofs.Common.{◌≡◌, ap, ◌∙◌, sym, get_or, length, List, ℕ, Option, Some, None, Bor, ltb-true, ltb-false}
use Rattle.std.proofs.lemmas.List.{get_or_default, get_or_past}
use Rattle.std.specs.Slice.{IsItemAt}
use Rattle.std.specs.Option.{unwrap_or, option_copied}
use Rattle.wordlist.specs.declared.word_table.TheConstants.{WORDS}
use Rattle.wordlist.proofs.TableWords.{table_words}
use Rattle.wordlist.proofs.word_at.Goals as goal

read_or : (xs : List ℕ) (i : ℕ) (r : Option (Bor ℕ)) → IsItemAt xs i r → unwrap_or (option_copied r) 0 ≡ get_or xs i 0
read_or xs i None h = sym (get_or_past xs i 0 (ltb-false i (length xs) (sym h.0)))
read_or xs i (Some x) h = h.1 ∙ get_or_default xs i x.now 0 (ltb-true i (length xs) (sym h.0))

pub returns : goal.returns
returns c =
    c.unwrap_or.ensures ∙ ap (λ (o : Option ℕ). unwrap_or o 0) c.copied.ensures
    ∙ read_or WORDS c.args.place c.get.result c.get.ensures.lookup ∙ ap (λ (l : List ℕ). get_or l c.args.place 0) table_words
