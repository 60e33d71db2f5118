-- `folded` meets its promise: MD5's folded digest is two words.
use Rattle.std.proofs.Common.{sym, ap, ◌∙◌}
use Rattle.password.specs.Password.{number_of}
use Rattle.password.specs.FoldLaws.{fold_words_lem}
use Rattle.generator.proofs.fold.StateFolded.folded.Goals as goal

pub returns : goal.returns
returns c =
    let q = c.args.self in
    c.number_of_words.ensures ∙ ap number_of (sym (fold_words_lem q.a q.b q.c q.d))
