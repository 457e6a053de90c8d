-- Road files of the challenge: the contents of a graph and its coordinates, or their first fault. Source: file
-- formats of the 9th DIMACS Implementation Challenge, Shortest Paths, 2006. The limits, the order of the faults,
-- and the reading of roads as pairs of arcs are this program's profile.
use Rattle.std.specs.Prelude.{ℕ, ◌+◌, ◌==◌, Bool, false, not, ◌&&◌, nat_lt, nat_le, List, [], ◌∷◌, length, map, take, slice_get, filter, find, count_by, Option, None, Some, Result, Ok, Err, codes, if◌then◌else◌}
use Rattle.std.specs.List.{range_with_len, filter_map}
use Rattle.std.specs.Option.{ok_or}
use Rattle.std.specs.Str.{bytes_eq}
use Rattle.road_map.specs.declared.parts.Node.{Node}
use Rattle.road_map.specs.declared.parts.Road.{Road}
use Rattle.road_map.specs.declared.parts.Parts.{Parts}
use Rattle.road_reader.specs.Fields.{natural_of}
use Rattle.dimacs_reader.specs.declared.arc.Arc.{Arc}
use Rattle.dimacs_reader.specs.declared.graph.Graph.{Graph}
use Rattle.dimacs_reader.specs.declared.problem.GraphSize.{GraphSize}
use Rattle.dimacs_reader.specs.declared.error.DimacsError.{DimacsError}
use Rattle.dimacs_reader.specs.declared.error.DimacsError.TheVariants.{NoProblem, BadLine, BadNumber, TooMany, Range, Count, Repeated, Unpaired}
use Rattle.dimacs_reader.specs.Told.{told_lines}
use Rattle.dimacs_reader.specs.Fields.{size_in, arc_in, place_in}

infixl 10 ◌>>=◌
abbrev pub ◌>>=◌ : {A B : Type 0} → Result A DimacsError → (A → Result B DimacsError) →
    Result B DimacsError
Ok x >>= next = next x
Err fault >>= next = Err fault

-- the value, if a test holds
abbrev pub where_holds : {A : Type 0} → Bool → DimacsError → A → Result A DimacsError
where_holds test fault value = if test then Ok value else Err fault

-- the greatest number of nodes in a file, and of arcs
abbrev pub most_nodes : ℕ
most_nodes = 65536

abbrev pub most_arcs : ℕ
most_arcs = 524288

-- the problem line of a graph: 'p sp NODES ARCS'
abbrev pub graph_size_of : ℕ → List (List ℕ) → Result GraphSize DimacsError
graph_size_of number (kind ∷ problem ∷ nodes ∷ arcs ∷ []) =
    if bytes_eq kind (codes "p") && bytes_eq problem (codes "sp")
    then ok_or (size_in nodes arcs) (BadNumber 1 number) >>=
    (λ size. where_holds (nat_le size.nodes most_nodes && nat_le size.arcs most_arcs)
    (TooMany 1) size)
    else Err (NoProblem 1)
graph_size_of number _ = Err (NoProblem 1)

-- an id is from 1 to the number of nodes
abbrev pub is_id : ℕ → ℕ → Bool
is_id nodes id = nat_le 1 id && nat_le id nodes

-- a later line of a graph: 'a FROM TO LENGTH'
abbrev pub arc_of : ℕ → ℕ → List (List ℕ) → Result Arc DimacsError
arc_of nodes number (kind ∷ from ∷ to ∷ length ∷ []) =
    if bytes_eq kind (codes "a")
    then ok_or (arc_in from to length) (BadNumber 1 number) >>=
    (λ arc. where_holds (is_id nodes arc.from && is_id nodes arc.to) (Range 1 number) arc)
    else Err (BadLine 1 number)
arc_of nodes number _ = Err (BadLine 1 number)

-- the value of each of several lines, or the first fault
abbrev pub each_of : {A : Type 0} → (ℕ → List (List ℕ) → Result A DimacsError) →
    List (ℕ × List (List ℕ)) → Result (List A) DimacsError
each_of says [] = Ok []
each_of says (line ∷ lines) = says line.0 line.1 >>=
    (λ first. each_of says lines >>= (λ rest. Ok (first ∷ rest)))

-- a graph's number of nodes and its arcs, in the order of the file
abbrev pub graph_from : List (ℕ × List (List ℕ)) → Result Graph DimacsError
graph_from [] = Err (NoProblem 1)
graph_from (problem ∷ lines) = do
  size ← graph_size_of problem.0 problem.1
  arcs ← each_of (arc_of size.nodes) lines
  where_holds (length arcs == size.arcs) (Count 1) (record { nodes = size.nodes; arcs = arcs })

unfoldable pub graph_of : List ℕ → Result Graph DimacsError
graph_of text = graph_from (told_lines 0 text)

-- the problem line of coordinates: 'p aux sp co NODES'
abbrev pub place_count_of : ℕ → List (List ℕ) → Result ℕ DimacsError
place_count_of number (kind ∷ aux ∷ problem ∷ form ∷ nodes ∷ []) =
    if bytes_eq kind (codes "p") && bytes_eq aux (codes "aux") && bytes_eq problem
    (codes "sp") && bytes_eq form (codes "co")
    then ok_or (natural_of nodes) (BadNumber 2 number) >>=
    (λ count. where_holds (nat_le count most_nodes) (TooMany 2) count)
    else Err (NoProblem 2)
place_count_of number _ = Err (NoProblem 2)

-- a later line of coordinates: 'v ID X Y'
abbrev pub place_of : ℕ → ℕ → List (List ℕ) → Result Node DimacsError
place_of nodes number (kind ∷ id ∷ x ∷ y ∷ []) =
    if bytes_eq kind (codes "v")
    then ok_or (place_in id x y) (BadNumber 2 number) >>=
    (λ node. where_holds (is_id nodes node.id) (Range 2 number) node)
    else Err (BadLine 2 number)
place_of nodes number _ = Err (BadLine 2 number)

-- the places of this many nodes, in the order of the file
abbrev pub places_from : ℕ → List (ℕ × List (List ℕ)) → Result (List Node) DimacsError
places_from nodes [] = Err (NoProblem 2)
places_from nodes (problem ∷ lines) = do
  count ← place_count_of problem.0 problem.1
  places ← each_of (place_of count) lines
  where_holds ((count == nodes) && (length places == count)) (Count 2) places

unfoldable pub places_of : ℕ → List ℕ → Result (List Node) DimacsError
places_of nodes text = places_from nodes (told_lines 0 text)

-- the least of this many ids that has two places
unfoldable pub placed_twice : ℕ → List Node → Option ℕ
placed_twice nodes places = find (λ id. nat_lt 1 (count_by (λ node. node.id == id) places))
    (range_with_len 1 nodes)

-- the place of each of this many ids, in ascending order
unfoldable pub nodes_of : ℕ → List Node → List Node
nodes_of nodes places = filter_map (λ id. find (λ node. node.id == id) places)
    (range_with_len 1 nodes)

-- two arcs are equal
abbrev pub is_arc : Arc → Arc → Bool
is_arc a b = (a.from == b.from) && (a.to == b.to) && (a.length == b.length)

-- the reverse arc
abbrev pub turned : Arc → Arc
turned arc = record { from = arc.to; to = arc.from; length = arc.length }

-- the arc joins two nodes, and there are more such arcs up to its index than reverse arcs in all
abbrev pub lacks_back : List Arc → ℕ → Option Arc → Bool
lacks_back arcs index None = false
lacks_back arcs index (Some arc) =
    not (arc.from == arc.to) && nat_lt (count_by (is_arc (turned arc)) arcs)
    (count_by (is_arc arc) (take (index + 1) arcs))

abbrev pub is_unpaired : List Arc → ℕ → Bool
is_unpaired arcs index = lacks_back arcs index (slice_get arcs index)

-- the least index of an arc without a reverse arc of its own
unfoldable pub first_unpaired : List Arc → Option ℕ
first_unpaired arcs = find (is_unpaired arcs) (range_with_len 0 (length arcs))

abbrev pub road_of : Arc → Road
road_of arc = record { a = arc.from; b = arc.to; length = arc.length }

-- a road for each pair of arcs, from the arc that leads to a greater id, in the order of the file
unfoldable pub roads_of : List Arc → List Road
roads_of arcs = map road_of (filter (λ arc. nat_lt arc.from arc.to) arcs)

-- the value, if no number has this fault
abbrev pub where_none : {A : Type 0} → Option ℕ → (ℕ → DimacsError) → A → Result A DimacsError
where_none None fault value = Ok value
where_none (Some number) fault value = Err (fault number)

-- the parts of a graph and its coordinates, or their first fault
unfoldable pub dimacs_of : List ℕ → List ℕ → Result Parts DimacsError
dimacs_of graph places = do
  graph ← graph_of graph
  places ← places_of graph.nodes places
  nodes ← where_none (placed_twice graph.nodes places) (λ id. Repeated id)
      (nodes_of graph.nodes places)
  roads ← where_none (first_unpaired graph.arcs) (λ index. Unpaired index) (roads_of graph.arcs)
  Ok (record { nodes = nodes; roads = roads })
