use Rattle.std.proofs.Common.{not, ◌∙◌, ◌*◌, ◌≤◌, arith}
use Rattle.road_search.specs.Labelling.{length_at}
use Rattle.book_model.specs.Books.{leaf}
use Rattle.proof_judge.specs.Apart.{are_apart}
use Rattle.proof_method.proofs.NarrowBooks.{book_at_most, book_narrow}
use Rattle.method_books.specs.LdmBooks.{ldm_book}
use Rattle.method_books.proofs.FoundLaws.{found_apart}
use Rattle.method_books.proofs.ldm.LdmBookMethodBook.gather_apart.Goals as goal

pub search_all-requires : goal.search_all-requires
search_all-requires c =
    let b = ldm_book c.args.self.now.map.parts c.args.self.now.extras.entries c.args.self.now.numbers in
    book_narrow b c.parts-parts.ensures.is_map (λ u _. not (are_apart (leaf b) (leaf b u) (leaf b c.args.query.to)))

pub needed-requires : goal.needed-requires
needed-requires c =
    let b = ldm_book c.args.self.now.map.parts c.args.self.now.extras.entries c.args.self.now.numbers in
    λ v d is. let low : d ≤ 65536 * 4294967295 = c.in_ok-labels.ensures.low 65536 (book_at_most b c.parts-parts.ensures.is_map (λ u _. not (are_apart (leaf b) (leaf b u) (leaf b c.args.query.to)))) v d is in omega (arith, low)

pub returns : goal.returns
returns c =
    let self = c.args.self.now in
    found_apart self.map.parts self.map.order self.extras.entries self.numbers c.parts-parts.ensures.is_map c.parts-parts.ensures.by_id c.args.query c.requires
    (length_at c.in_ok-labels.labels) c.in_ok-labels.ensures.lengths c.in_ok-ends.ends c.in_ok-ends.ensures (record { route = c.from_vec.result; nodes = c.in_ok-nodes.nodes; pairs = c.from_vec-2.result }) (c.from_vec.ensures ∙ c.new.ensures.items)
    c.in_ok-nodes.ensures (c.from_vec-2.ensures ∙ c.new-2.ensures.items)
