use Rattle.std.proofs.Common.{sym, ◌∙◌, subst}
use Rattle.pair_dist.specs.Rising.{PairsRise}
use Rattle.method_books.proofs.FullLaws.{full_rises, place_is_there}
use Rattle.method_books.proofs.by_table.place_between.Goals as goal

pub place_from-requires : goal.place_from-requires
place_from-requires c = subst PairsRise (sym c.as_slice-pairs.ensures) (full_rises c.args.book.now.map.parts c.args.book.now.map.order c.parts-parts.ensures.is_map c.parts-parts.ensures.by_id c.args.book.now.pairs c.args.book.now.all)

pub unwrap-place-requires : goal.unwrap-place-requires
unwrap-place-requires c = place_is_there c.args.book.now.map.parts c.args.book.now.map.order c.parts-parts.ensures.is_map c.parts-parts.ensures.by_id c.as_slice-pairs.result.now (c.as_slice-pairs.ensures ∙ c.args.book.now.all) c.args.a c.args.b c.min-first.result c.max-second.result c.requires.a c.requires.b c.requires.apart c.min-first.ensures c.max-second.ensures c.place_from.result c.place_from.ensures.none
