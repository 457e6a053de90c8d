use Rattle.std.proofs.Common.{◌∙◌, ◌≤◌, length, sym, ap, subst, arith}
use Rattle.road_map.specs.Walks.{distance}
use Rattle.road_search.specs.Labelling.{length_at}
use Rattle.book_model.specs.Books.{borders}
use Rattle.book_model.specs.Pairs.{pairs_of}
use Rattle.method_books.specs.HypBooks.{HasPairs}
use Rattle.method_books.proofs.HypLaws.{table_up, table_has, table_small}
use Rattle.method_books.proofs.HypFound.{borders_sorted, places_same}
use Rattle.method_books.proofs.hyp.bring.Goals as goal

pub wanted_pairs-requires-clause-rise : goal.wanted_pairs-requires-clause-rise
wanted_pairs-requires-clause-rise c =
    let book = c.args.book.now in
    table_up (distance book.map.parts) (borders book.map.parts book.grid.columns book.grid.rows) c.as_slice.result.now (c.as_slice.ensures ∙ (book.all ∙ ap (pairs_of (distance book.map.parts)) book.bordered)) (borders_sorted book.map.parts book.map.order c.parts-parts.ensures.is_map c.parts-parts.ensures.by_id book.grid.columns book.grid.rows)

pub wanted_pairs-requires-clause-few : goal.wanted_pairs-requires-clause-few
wanted_pairs-requires-clause-few c =
    let book = c.args.book.now in
    let few : length c.as_slice.result.now ≤ 2097152 = table_small (distance book.map.parts) book.borders c.as_slice.result.now (c.as_slice.ensures ∙ book.all) book.few in
    omega (arith, few)

pub wanted_pairs-requires-clause-there : goal.wanted_pairs-requires-clause-there
wanted_pairs-requires-clause-there c =
    let book = c.args.book.now in
    subst (HasPairs c.as_slice.result.now) (sym (c.as_slice-2.ensures ∙ book.bordered))
    (table_has (distance book.map.parts) (borders book.map.parts book.grid.columns book.grid.rows) c.as_slice.result.now (c.as_slice.ensures ∙ (book.all ∙ ap (pairs_of (distance book.map.parts)) book.bordered)) (borders_sorted book.map.parts book.map.order c.parts-parts.ensures.is_map c.parts-parts.ensures.by_id book.grid.columns book.grid.rows))

pub returns-clause-pairs : goal.returns-clause-pairs
returns-clause-pairs c =
    let book = c.args.book.now in
    places_same c.as_slice.result.now book.pairs c.as_slice-2.result.now book.borders (length_at c.args.near.now) (length_at c.args.far.now) c.args.most c.in_ok-pairs.pairs c.as_slice.ensures c.as_slice-2.ensures c.in_ok-pairs.ensures
