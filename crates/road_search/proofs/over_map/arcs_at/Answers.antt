use Rattle.std.proofs.Common.{Some, ◌∙◌, ap}
use Rattle.road_map.specs.ArcsOut.{arcs_out}
use Rattle.road_search.proofs.WholeMapLaws.{known_some, known_none}
use Rattle.road_search.proofs.over_map.arcs_at.Goals as goal

pub returns-in-None : goal.returns-in-None
returns-in-None c = rw (known_none c.args.map.now.parts.nodes c.args.map.now.order c.args.id c.parts-parts.ensures.by_id c.in-None.ensures.none)

pub returns-in-Some : goal.returns-in-Some
returns-in-Some c =
    let f = c.in-Some.ensures.found in
    rw (known_some c.args.map.now.parts.nodes c.args.map.now.order c.args.id c.in-Some.position f.0 c.parts-parts.ensures.by_id f.1 f.2) (ap Some (c.arcs.ensures f.0 f.1 ∙ ap (arcs_out c.args.map.now.parts.roads) f.2))
