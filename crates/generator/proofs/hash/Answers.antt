-- `hash` meets its promise: the digest of either algorithm, folded.
use Rattle.std.proofs.Common.{sym, ap, ◌∙◌}
use Rattle.digests.specs.declared.FiveWords.{FiveWords}
use Rattle.digests.specs.declared.State.{State}
use Rattle.digests.specs.Md5.{output, md5}
use Rattle.password.specs.declared.algorithm.Algorithm.{Algorithm}
use Rattle.password.specs.Password.{fold, fold_words, number_of, hash}
use Rattle.generator.proofs.hash.Goals as goal

pub returns-in-Md5 : goal.returns-in-Md5
unfolding hash md5
returns-in-Md5 c =
    c.folded.ensures ∙ ap (λ (q : State). number_of (fold (output q))) c.registers.ensures
    ∙ sym (ap (λ (a : Algorithm). hash a c.args.m.now) c.in-Md5.is)

pub returns-in-Sha1 : goal.returns-in-Sha1
unfolding hash
returns-in-Sha1 c =
    c.folded-in-Sha1.ensures ∙ ap (λ (h : FiveWords). number_of (fold_words h)) c.hash_value.ensures
    ∙ sym (ap (λ (a : Algorithm). hash a c.args.m.now) c.in-Sha1.is)
