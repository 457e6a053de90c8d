-- The contents of two files can be listed in one road file.
use Rattle.std.proofs.Common.{◌≡◌, None, List, get_or, subst, arith}
use Rattle.std.specs.List.{Contains, All}
use Rattle.std.proofs.lemmas.List.Elements.{All-contains, Contains-get_or}
use Rattle.road_map.specs.declared.parts.Node.{Node}
use Rattle.road_map.specs.declared.parts.Road.{Road}
use Rattle.road_reader.specs.RoadText.{IsNode, IsRoad, IsListable}
use Rattle.dimacs_reader.specs.declared.graph.Graph.{Graph}
use Rattle.dimacs_reader.specs.Dimacs.{nodes_of, first_unpaired, road_of, roads_of}
use Rattle.dimacs_reader.proofs.NodeLaws.{of_places, nodes_of_few}
use Rattle.dimacs_reader.proofs.ReadLaws.{Within, Placed, GraphRange}
use Rattle.dimacs_reader.proofs.ArcLaws.{IsOfArc, of_arc}
use Rattle.dimacs_reader.proofs.CountLaws.{few_roads}

-- a fact that holds of each item of a list
all_of : {X : Type 0} (P : X → Type 0) (xs : List X) → ((x : X) → Contains xs x → P x) → All P xs
all_of P xs f = λ k d within. f (get_or xs k d) (Contains-get_or xs k d within)

pub listable : (graph : Graph) (places : List Node) → GraphRange graph → All (Placed graph.nodes) places → first_unpaired graph.arcs ≡ None → IsListable (record { nodes = nodes_of graph.nodes places; roads = roads_of graph.arcs })
listable graph places range placed paired = record {
  node_count = omega (arith, nodes_of_few graph.nodes places, range.small);
  road_count = omega (arith, few_roads graph.arcs paired, range.few);
  nodes = all_of IsNode (nodes_of graph.nodes places) is_node;
  roads = all_of IsRoad (roads_of graph.arcs) is_road;
}
  where
    is_node : (n : Node) → Contains (nodes_of graph.nodes places) n → IsNode n
    is_node n h =
        let p : Placed graph.nodes n = All-contains (Placed graph.nodes) places n placed (of_places graph.nodes places n h) in
        record { id = omega (arith, p.id.1, range.small); x = p.x; y = p.y }

    is_road : (r : Road) → Contains (roads_of graph.arcs) r → IsRoad r
    is_road r h =
        let a : IsOfArc graph.arcs r = of_arc graph.arcs r h in
        let w : Within graph.nodes a.arc = All-contains (Within graph.nodes) graph.arcs a.arc range.within a.among in
        let of : IsRoad (road_of a.arc) = record { a = omega (arith, w.from.1, range.small); b = omega (arith, w.to.1, range.small); length = w.short } in
        subst (λ (r : Road). IsRoad r) a.is of
