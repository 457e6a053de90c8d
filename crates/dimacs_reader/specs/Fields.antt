-- The meaning of a line's words. Source: file formats of the 9th DIMACS Implementation Challenge, Shortest
-- Paths, 2006.
use Rattle.std.specs.Prelude.{ℕ, List, Option, Some}
use Rattle.road_map.specs.declared.parts.Node.{Node}
use Rattle.road_reader.specs.Fields.{◌>>=◌, natural_of, coordinate_of}
use Rattle.dimacs_reader.specs.declared.arc.Arc.{Arc}
use Rattle.dimacs_reader.specs.declared.problem.GraphSize.{GraphSize}

-- the numbers of nodes and of arcs
abbrev pub size_in : List ℕ → List ℕ → Option GraphSize
size_in nodes arcs = do
  nodes ← natural_of nodes
  arcs ← natural_of arcs
  Some (record { nodes = nodes; arcs = arcs })

abbrev pub arc_in : List ℕ → List ℕ → List ℕ → Option Arc
arc_in from to length = do
  from ← natural_of from
  to ← natural_of to
  length ← natural_of length
  Some (record { from = from; to = to; length = length })

abbrev pub place_in : List ℕ → List ℕ → List ℕ → Option Node
place_in id x y = do
  id ← natural_of id
  x ← coordinate_of x
  y ← coordinate_of y
  Some (record { id = id; x = x; y = y })
