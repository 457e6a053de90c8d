use Rattle.std.proofs.Common.{◌≡◌, Some, List, min, max, ap, ◌∙◌, slice_get}
use Rattle.std.proofs.lemmas.Option.{get_or_from_slice_get}
use Rattle.road_map.specs.Walks.{distance}
use Rattle.road_leaf.specs.declared.pair.PairLeaf.{PairLeaf}
use Rattle.book_model.specs.Pairs.{pair_leaf}
use Rattle.method_books.proofs.FullLaws.{leaf_between, said_apart}
use Rattle.method_books.proofs.by_table.said_between.Goals as goal

pub returns : goal.returns
returns c =
    let book = c.args.book.now in
    let leaf : PairLeaf = pair_leaf (distance book.map.parts) (min c.args.a c.args.b) (max c.args.a c.args.b) in
    let at : slice_get c.as_slice.result.now c.place_between-place.result ≡ Some leaf = ap (λ (xs : List PairLeaf). slice_get xs c.place_between-place.result) c.as_slice.ensures ∙ leaf_between book.map.parts book.map.order c.parts-parts.ensures.is_map c.parts-parts.ensures.by_id book.pairs book.all c.args.a c.args.b c.place_between-place.result c.requires.a c.requires.b c.if-a-b.false c.place_between-place.ensures in
    ap (λ (l : PairLeaf). l.distance) (get_or_from_slice_get c.as_slice.result.now c.place_between-place.result leaf (record { a = 0; b = 0; distance = 0 }) at) ∙ said_apart book.map.parts c.args.a c.args.b c.if-a-b.false
