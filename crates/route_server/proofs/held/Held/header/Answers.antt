use Rattle.std.proofs.Common.{◌∙◌, ap}
use Rattle.method_books.specs.AnyBooks.{shown_in}
use Rattle.route_server.specs.Keeping.{Kept, header_in, count_in, root_in}
use Rattle.route_server.proofs.HeaderLemmas.{header_is}
use Rattle.route_server.proofs.held.Held.header.Goals as goal

pub returns : goal.returns
returns g c =
    let i = c.self.inside in
    c.header_with.ensures
    ∙ header_is g.H.Hasher.hash i.settings _ _ (shown_in i.book).numbers c.numbers.result i.nodes i.pairs c.count.result c.root.result c.count_and_root-pairs.result.0 c.count_and_root-pairs.result.1
    c.self.invariant.nodes_are c.root.ensures.some.some c.self.invariant.pairs_are c.count.ensures c.root.ensures.value (c.count_and_root-pairs.ensures.count ∙ ap count_in c.as_ref.ensures.value) (c.count_and_root-pairs.ensures.root ∙ ap (root_in g.H.Hasher.hash) c.as_ref.ensures.value) c.numbers.ensures
    ∙ ap (λ (k : Kept). header_in g.H.Hasher.hash k) c.self.view_is
