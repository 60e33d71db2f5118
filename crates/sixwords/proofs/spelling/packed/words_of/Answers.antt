-- `words_of` meets its promise.
use Rattle.std.proofs.Common.{◌≡◌, length, map, ap, ◌∙◌, sym, arith}
use Rattle.std.proofs.lemmas.List.{ext_get_or, get_or-map, length-map}
use Rattle.dictionary.specs.Dictionary.{packed_at}
use Rattle.sixwords.specs.Laws.{places_count}
use Rattle.sixwords.proofs.spelling.packed.words_of.Goals as goal

pub returns : goal.returns
returns c =
    let places = c.places_of.result in
    let six : length places ≡ 6 = ap length c.places_of.ensures ∙ places_count c.args.password in
    let all = c.map.ensures.items in
    let same : c.map.result ≡ map packed_at places =
    ext_get_or 0 c.map.result (map packed_at places) (all.long ∙ sym (length-map places packed_at ∙ six))
    (λ i h. (all.at i 0 0 (omega (arith, all.long))).2.met ∙ sym (get_or-map packed_at places i 0 0 (omega (arith, six, all.long)))) in
    same ∙ ap (map packed_at) c.places_of.ensures
