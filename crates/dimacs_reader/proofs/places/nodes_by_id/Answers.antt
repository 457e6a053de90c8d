use Rattle.std.proofs.Common.{None, Some, List, Ok, sym, ◌∙◌, ap, subst}
use Rattle.road_map.specs.declared.parts.Node.{Node}
use Rattle.road_map.specs.Least.{IsLeast}
use Rattle.road_map.specs.Maps.{StandsTwice}
use Rattle.dimacs_reader.specs.declared.error.DimacsError.TheVariants.{Repeated}
use Rattle.dimacs_reader.specs.Dimacs.{nodes_of, where_none}
use Rattle.dimacs_reader.proofs.NodeLaws.{sorted_nodes_of, sorted_twice}
use Rattle.dimacs_reader.proofs.places.nodes_by_id.Goals as goal

pub returns-in-None : goal.returns-in-None
returns-in-None c =
    let both = sorted_nodes_of c.args.nodes c.args.places.items c.sorted_by_id-sorted.result.items c.requires c.sorted_by_id-sorted.ensures.same c.sorted_by_id-sorted.ensures.sorted
    (subst (λ (xs : List Node). IsLeast (StandsTwice xs) None) c.as_slice.ensures.value c.in-None.ensures) in
    ap Ok (c.from_vec.ensures ∙ both.1) ∙ sym (ap (λ twice. where_none twice (λ id. Repeated id) (nodes_of c.args.nodes c.args.places.items)) both.0)

pub returns-in-Some : goal.returns-in-Some
returns-in-Some c =
    let twice = sorted_twice c.args.nodes c.args.places.items c.sorted_by_id-sorted.result.items c.in-Some.id c.requires c.sorted_by_id-sorted.ensures.same
    (subst (λ (xs : List Node). IsLeast (StandsTwice xs) (Some c.in-Some.id)) c.as_slice.ensures.value c.in-Some.ensures) in
    sym (ap (λ twice. where_none twice (λ id. Repeated id) (nodes_of c.args.nodes c.args.places.items)) twice)
