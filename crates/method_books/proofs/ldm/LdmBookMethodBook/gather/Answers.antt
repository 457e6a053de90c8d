use Rattle.std.proofs.Common.{◌∙◌, ◌<◌, ◌^◌, arith}
use Rattle.std.proofs.lemmas.Result.{err_from_is_err_and}
use Rattle.road_search.specs.Labelling.{length_at}
use Rattle.method_books.proofs.FoundLaws.{short_route, low_lengths, err_kept, found_ldm}
use Rattle.method_books.proofs.ldm.LdmBookMethodBook.gather.Goals as goal

pub live_labels-requires-clause-known : goal.live_labels-requires-clause-known
live_labels-requires-clause-known c = c.in_ok-path.ensures.route.known.0

pub live_labels-requires-clause-short : goal.live_labels-requires-clause-short
live_labels-requires-clause-short c = short_route c.args.self.now.map.parts c.parts-parts.ensures.is_map (c.map_laws.ensures.distances c.args.self.now.map.parts c.parts-parts.ensures.is_map).bound c.args.query.from c.args.query.to c.in_ok-path.path.length c.in_ok-path.path.ids c.in_ok-path.ensures.route

pub needed-requires : goal.needed-requires
needed-requires c =
    let short : c.in_ok-path.path.length < 2 ^ 48 = short_route c.args.self.now.map.parts c.parts-parts.ensures.is_map (c.map_laws.ensures.distances c.args.self.now.map.parts c.parts-parts.ensures.is_map).bound c.args.query.from c.args.query.to c.in_ok-path.path.length c.in_ok-path.path.ids c.in_ok-path.ensures.route in
    low_lengths _ _ _ (length_at c.in_ok-labels.labels) (omega (arith, short)) c.in_ok-labels.ensures

pub returns-in_err-path-clause-unknown : goal.returns-in_err-path-clause-unknown
returns-in_err-path-clause-unknown c =
    let p = err_from_is_err_and c.from_residual.result c.from_residual.ensures.1 in
    rw (p.1, p.2) (λ id first. err_kept _ _ (c.in_err-path.ensures.unknown id first))

pub returns-clause-found : goal.returns-clause-found
returns-clause-found c =
    let found = c.in_ok-path in (
      found.path.length,
      found_ldm c.args.self.now.map.parts c.args.self.now.map.order c.args.self.now.extras.entries c.args.self.now.numbers c.parts-parts.ensures.is_map c.parts-parts.ensures.by_id c.args.query found.path.length
          (length_at c.in_ok-labels.labels) c.in_ok-labels.ensures (record { route = found.path.ids; nodes = c.in_ok-nodes.nodes; pairs = c.from_vec.result }) found.ensures.route found.ensures.distinct c.in_ok-nodes.ensures (c.from_vec.ensures ∙ c.new.ensures.items),
    )
