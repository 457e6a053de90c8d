use Rattle.std.proofs.lemmas.Result.{err_from_is_err_and}
use Rattle.road_search.specs.Labelling.{length_at}
use Rattle.book_model.specs.Books.{leaf}
use Rattle.proof_judge.specs.ItemWalks.{inner_ways}
use Rattle.method_books.specs.HypBooks.{hyp_book}
use Rattle.method_books.proofs.GatedBooks.{inner_gated}
use Rattle.method_books.proofs.HypFound.{found_hyp}
use Rattle.method_books.proofs.hyp.HypBookMethodBook.gather.Goals as goal

pub lengths_through-requires : goal.lengths_through-requires
lengths_through-requires c = c.in_ok-path.ensures.route.known.0

pub lengths_through-requires-2 : goal.lengths_through-requires-2
lengths_through-requires-2 c = c.in_ok-path.ensures.route.known.1

pub returns-clause-found : goal.returns-clause-found
returns-clause-found c =
    let book = c.args.self.now in
    let found = c.in_ok-path in
    let d = found.path.length in
    let inner = inner_ways (leaf (hyp_book book.map.parts book.grid.columns book.grid.rows book.pairs)) in
    let gated = inner_gated book.map.parts book.map.order c.parts-parts.ensures.is_map c.parts-parts.ensures.by_id book.grid.columns book.grid.rows book.pairs book.marks.items book.marked in
    let near = length_at c.in_ok-near.near in
    let far = length_at c.in_ok-far.far in (
      d,
      found_hyp book.map.parts book.map.order c.parts-parts.ensures.is_map c.parts-parts.ensures.by_id book.grid.columns book.grid.rows book.pairs c.args.query d (record { route = found.path.ids; nodes = c.in_ok-brought.brought.nodes; pairs = c.in_ok-brought.brought.pairs }) near far book.borders book.bordered found.ensures.route found.ensures.distinct (c.in_ok-near.ensures inner gated) (c.in_ok-far.ensures inner gated) c.in_ok-brought.ensures.nodes
          c.in_ok-brought.ensures.pairs,
    )

pub returns-in_err-path-clause-unknown : goal.returns-in_err-path-clause-unknown
returns-in_err-path-clause-unknown c id first =
    let p = err_from_is_err_and c.from_residual.result c.from_residual.ensures.1 in
    let told = c.in_err-path.ensures.unknown id first in
    rw (p.1, p.2) (cc (told))
