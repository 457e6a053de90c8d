use Rattle.std.proofs.Common.{◌≡◌, Ok, sym, subst}
use Rattle.road_map.specs.declared.parts.Parts.{Parts}
use Rattle.road_reader.specs.RoadText.{IsListable}
use Rattle.road_reader.proofs.RoundTrip.{roads_of-printed}
use Rattle.dimacs_reader.specs.declared.graph.Graph.{Graph}
use Rattle.dimacs_reader.specs.Dimacs.{graph_of}
use Rattle.dimacs_reader.specs.ArcWalks.{Agrees}
use Rattle.dimacs_reader.proofs.ReadLaws.{Reads, dimacs_reads, has_graph, graph_range, PlacesRange, places_range, in_range}
use Rattle.dimacs_reader.proofs.ArcLaws.{parts_agree}
use Rattle.dimacs_reader.proofs.ListLaws.{listable}
use Rattle.dimacs_reader.proofs.laws.dimacs_laws.Goals as goal

pub returns-clause-agrees : goal.returns-clause-agrees
returns-clause-agrees c text places graph parts read all =
    let r : Reads graph places parts = dimacs_reads text places graph parts read all in
    let range : PlacesRange graph.nodes r.places = places_range graph.nodes places r.places r.placed in
    subst (λ (p : Parts). Agrees graph p) (sym r.is) (parts_agree graph r.places (graph_range text graph read).within (in_range graph.nodes r.places range) range.long r.once r.paired)

pub returns-clause-listed : goal.returns-clause-listed
returns-clause-listed c text places parts all =
    let graph : (graph : Graph) × (graph_of text ≡ Ok graph) = has_graph text places parts all in
    let r : Reads graph.0 places parts = dimacs_reads text places graph.0 parts graph.1 all in
    let range : PlacesRange graph.0.nodes r.places = places_range graph.0.nodes places r.places r.placed in
    roads_of-printed parts (subst (λ (p : Parts). IsListable p) (sym r.is) (listable graph.0 r.places (graph_range text graph.0 graph.1) range.placed r.paired))
