use Rattle.std.proofs.Common.{not, ◌∙◌}
use Rattle.road_search.specs.Labelling.{length_at}
use Rattle.book_model.specs.Books.{leaf}
use Rattle.proof_judge.specs.ItemWalks.{marks}
use Rattle.proof_method.proofs.NarrowBooks.{book_narrow, book_at_most}
use Rattle.method_books.specs.HypBooks.{hyp_book}
use Rattle.method_books.proofs.HypFound.{found_hyp_apart}
use Rattle.method_books.proofs.hyp.HypBookMethodBook.gather_apart.Goals as goal

pub search_all-requires : goal.search_all-requires
search_all-requires c =
    let book = c.args.self.now in
    let b = hyp_book book.map.parts book.grid.columns book.grid.rows book.pairs in
    book_narrow b c.parts-parts.ensures.is_map (λ id _. not (marks (leaf b id)))

pub search_all-requires-2 : goal.search_all-requires-2
search_all-requires-2 c =
    let book = c.args.self.now in
    let b = hyp_book book.map.parts book.grid.columns book.grid.rows book.pairs in
    book_narrow b c.parts-parts.ensures.is_map (λ id _. not (marks (leaf b id)))

pub returns : goal.returns
returns c =
    let book = c.args.self.now in
    let b = hyp_book book.map.parts book.grid.columns book.grid.rows book.pairs in
    let near = length_at c.in_ok-near.near in
    let far = length_at c.in_ok-far.far in
    let few = book_at_most b c.parts-parts.ensures.is_map (λ id _. not (marks (leaf b id))) in
    found_hyp_apart book.map.parts book.map.order c.parts-parts.ensures.is_map c.parts-parts.ensures.by_id book.grid.columns book.grid.rows book.pairs c.args.query (record { route = c.from_vec-route.result; nodes = c.in_ok-brought.brought.nodes; pairs = c.in_ok-brought.brought.pairs }) near far book.borders c.requires book.bordered
    (c.from_vec-route.ensures ∙ c.new.ensures.items) c.in_ok-near.ensures.lengths c.in_ok-far.ensures.lengths (c.in_ok-near.ensures.low 65536 few) (c.in_ok-far.ensures.low 65536 few) c.in_ok-brought.ensures.nodes
    c.in_ok-brought.ensures.pairs
