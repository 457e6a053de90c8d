use Rattle.std.proofs.Common.{◌<◌, ◌^◌, rules, arith}
use Rattle.std.proofs.lemmas.Option.{slice_get_within}
use Rattle.method_books.specs.HypBooks.{StandsAt}
use Rattle.method_books.proofs.HypLaws.{pair_there, at_found}
use Rattle.method_books.proofs.gathering.place_between.Goals as goal

pub unwrap-place-requires : goal.unwrap-place-requires
unwrap-place-requires c = pair_there c.args.pairs.now c.args.borders.now c.requires.there c.args.a c.args.b c.min.result c.max.result c.requires.a c.requires.b c.requires.apart c.min.ensures c.max.ensures c.place_from.result c.place_from.ensures.none

pub overflow_cast-result : goal.overflow_cast-result
overflow_cast-result c =
    let at : StandsAt c.args.pairs.now c.min.result c.max.result c.unwrap-place.result = at_found (StandsAt c.args.pairs.now c.min.result c.max.result) c.place_from.result c.unwrap-place.result c.unwrap-place.ensures c.place_from.ensures.found in
    let within = slice_get_within c.args.pairs.now c.unwrap-place.result at.0 at.1 in
    let small : c.unwrap-place.result < 2 ^ 32 = omega (arith, within, c.requires.few) in
    search rules
