-- `folded` meets its promise: its two words are those of SHA-1's fold.
use Rattle.password.specs.Password.{fold_words}
use Rattle.generator.proofs.fold.FiveWordsFolded.folded.Goals as goal

pub returns : goal.returns
unfolding fold_words
returns c = c.number_of_words.ensures
