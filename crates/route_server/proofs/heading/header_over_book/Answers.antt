use Rattle.std.proofs.Common.{◌≡◌, ◌≤◌, List, length, subst, sym, ap, ◌∙◌, arith, Fits}
use Rattle.std.specs.Int.{w32}
use Rattle.road_leaf.specs.declared.pair.PairLeaf.{PairLeaf}
use Rattle.book_model.specs.Books.{leaves_of}
use Rattle.route_server.specs.Headers.{pair_texts, root_or_zeros}
use Rattle.route_server.proofs.HeldLaws.{few_pairs}
use Rattle.route_server.proofs.Known.{some_ids}
use Rattle.route_server.proofs.RisenLemmas.{few_ids, length-leaves, header_so}
use Rattle.route_server.proofs.heading.header_over_book.Goals as goal

pub node_root-requires : goal.node_root-requires
node_root-requires g c = record { map = c.requires.map; order = c.requires.order; fits = c.requires.fits; fan = c.requires.fan; fan_max = c.requires.fan_max }

pub pair_root-requires-clause-few : goal.pair_root-requires-clause-few
pair_root-requires-clause-few g c =
    subst (λ (ps : List PairLeaf). length ps ≤ 2097152) (sym c.pairs-leaves.ensures) (few_pairs (g.B.MethodBook.kind c.args.book) (g.B.MethodBook.shown c.args.book) c.requires.fits)

pub overflow_cast-order : goal.overflow_cast-order
overflow_cast-order g c = omega (arith, few_ids (g.B.MethodBook.shown c.args.book).parts c.args.order.now c.requires.map c.requires.order)

pub overflow_cast-leaves : goal.overflow_cast-leaves
overflow_cast-leaves g c =
    subst (λ (ps : List PairLeaf). Fits w32 (length ps)) (sym c.pairs-leaves.ensures)
    (omega (arith, few_pairs (g.B.MethodBook.kind c.args.book) (g.B.MethodBook.shown c.args.book) c.requires.fits))

pub returns-clause-header : goal.returns-clause-header
returns-clause-header g c =
    let hash = g.H.Hasher.hash in
    let s = c.args.settings.now in
    let b = g.B.MethodBook.shown c.args.book in
    let order = c.args.order.now in
    let long : length (leaves_of b order) ≡ length order = length-leaves b order c.requires.order in
    c.header_with-header.ensures
    ∙ header_so hash s (leaves_of b order) b.pairs b.numbers c.numbers.result (length order) c.in_ok-nodes.nodes (length c.pairs-leaves.result.now) c.in_ok-pairs.pairs
    (omega (arith, long, some_ids b.parts order c.requires.map c.requires.order)) (sym long) c.in_ok-nodes.ensures (ap (λ (ps : List PairLeaf). length ps) c.pairs-leaves.ensures)
    (c.in_ok-pairs.ensures ∙ ap (λ (ps : List PairLeaf). root_or_zeros hash s.fan (pair_texts ps)) c.pairs-leaves.ensures) c.numbers.ensures
