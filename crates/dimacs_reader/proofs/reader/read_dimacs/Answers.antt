use Rattle.std.proofs.Common.{◌≡◌, ℕ, ◌<◌, ◌^◌, ◌⊎◌, inr, List, None, Some, Ok, length, sym, ◌∙◌, ap, subst}
use Rattle.std.proofs.lemmas.Result.{err_from_is_err_and}
use Rattle.road_map.specs.declared.parts.Road.{Road}
use Rattle.road_map.specs.declared.parts.Parts.{Parts}
use Rattle.dimacs_reader.specs.declared.arc.Arc.{Arc}
use Rattle.dimacs_reader.specs.declared.error.DimacsError.TheVariants.{Memory, Unpaired}
use Rattle.dimacs_reader.specs.Dimacs.{first_unpaired, roads_of}
use Rattle.dimacs_reader.proofs.ReadLaws.{bad_graph, bad_places, places_range, in_range, few_arcs, bad_nodes, bad_pairs, all_read}
use Rattle.dimacs_reader.proofs.reader.read_dimacs.Goals as goal
use Rattle.octet_text.specs.Want.{no_memory}

pub returns-in_err-graph-clause-fault : goal.returns-in_err-graph-clause-fault
returns-in_err-graph-clause-fault c =
    let p = err_from_is_err_and c.from_residual.result c.from_residual.ensures.1 in
    rw (p.1, p.2) (bad_graph c.args.graph.now c.args.places.now _ c.in_err-graph.ensures.fault)

pub returns-in_err-places-clause-fault : goal.returns-in_err-places-clause-fault
returns-in_err-places-clause-fault c =
    let p = err_from_is_err_and c.from_residual-in_err-places.result c.from_residual-in_err-places.ensures.1 in
    rw (p.1, p.2) (bad_places c.args.graph.now c.args.places.now c.in_ok-graph.graph c.in_ok-graph.ensures.graph _ c.in_err-places.ensures.fault)

pub nodes_by_id-requires : goal.nodes_by_id-requires
nodes_by_id-requires c = in_range c.in_ok-graph.graph.nodes c.in_ok-places.places.items (places_range c.in_ok-graph.graph.nodes c.args.places.now c.in_ok-places.places.items c.in_ok-places.ensures.places)

pub returns-in_err-nodes-clause-fault : goal.returns-in_err-nodes-clause-fault
returns-in_err-nodes-clause-fault c =
    let p = err_from_is_err_and c.from_residual-in_err-nodes.result c.from_residual-in_err-nodes.ensures.1 in
    rw (p.1, p.2) (inr (bad_nodes c.args.graph.now c.args.places.now c.in_ok-graph.graph c.in_ok-graph.ensures.graph c.in_ok-places.places.items c.in_ok-places.ensures.places _ c.in_err-nodes.ensures))

pub check_pairs-requires : goal.check_pairs-requires
check_pairs-requires c = subst (λ (arcs : List Arc). length arcs < 2 ^ 32) (sym c.as_slice.ensures) (few_arcs c.args.graph.now c.args.places.now c.in_ok-graph.graph c.in_ok-graph.ensures.graph)

pub returns-in_err-check_pairs-clause-fault : goal.returns-in_err-check_pairs-clause-fault
returns-in_err-check_pairs-clause-fault c =
    let p = err_from_is_err_and c.from_residual-in_err-check_pairs.result c.from_residual-in_err-check_pairs.ensures.1 in
    rw (p.1, p.2) (bad_pairs c.args.graph.now c.args.places.now c.in_ok-graph.graph c.in_ok-graph.ensures.graph c.in_ok-places.places.items c.in_ok-places.ensures.places c.in_ok-nodes.nodes _ c.in_ok-nodes.ensures
    (subst (λ (arcs : List Arc). (c.in_err-check_pairs.field-0.0 ≡ Memory no_memory) ⊎ ((index : ℕ) × (c.in_err-check_pairs.field-0.0 ≡ Unpaired index) × (first_unpaired arcs ≡ Some index))) c.as_slice.ensures c.in_err-check_pairs.ensures.fault))

pub returns-clause-parts : goal.returns-clause-parts
returns-clause-parts c =
    all_read c.args.graph.now c.args.places.now c.in_ok-graph.graph c.in_ok-graph.ensures.graph c.in_ok-places.places.items c.in_ok-places.ensures.places c.in_ok-nodes.nodes c.in_ok-nodes.ensures
    (subst (λ (arcs : List Arc). first_unpaired arcs ≡ None) c.as_slice.ensures c.in_ok-check_pairs.ensures.paired)
    ∙ ap (λ (roads : List Road). let parts : Parts = record { nodes = c.in_ok-nodes.nodes; roads = roads } in Ok parts) (sym (c.from_vec.ensures ∙ (c.in_ok-roads.ensures ∙ ap roads_of c.as_slice-2.ensures)))
