-- Nodes as the leaves of a reply give them.
use Rattle.std.specs.Prelude.{ℕ, pos, List, map, Option, None, Some, IsSome, All}
use Rattle.road_leaf.specs.declared.leaf.NodeLeaf.{NodeLeaf}
use Rattle.road_map.specs.Least.{IsLeast}
use Rattle.proof_judge.specs.ItemWalks.{item_at, StandsTwice}
use Rattle.proof_octets.specs.declared.marks.Mark.{Mark}
use Rattle.route_check_c.specs.declared.nodes.RouteNode.{RouteNode}
use Rattle.route_check_c.specs.declared.nodes.ReachedNode.{ReachedNode}

-- a node of a route, given by its leaf: the leaf's id and coordinates
abbrev pub route_node : Option NodeLeaf → RouteNode
route_node (Some leaf) = record { id = leaf.id; x = leaf.x; y = leaf.y }
route_node None = record { id = 0; x = pos 0; y = pos 0 }

-- a node within a radius, given by its leaf, with its distance
abbrev pub reached_node : Option NodeLeaf → Mark → ReachedNode
reached_node leaf mark = record {
  id = (route_node leaf).id;
  x = (route_node leaf).x;
  y = (route_node leaf).y;
  distance = mark.distance;
}

-- each of these ids has a leaf
abbrev pub HaveLeaves : List NodeLeaf → List ℕ → Type 0
HaveLeaves leaves ids = All (λ id. IsSome (item_at leaves id)) ids

-- the id of each of these marks has a leaf
abbrev pub HaveLeavesOf : List NodeLeaf → List Mark → Type 0
HaveLeavesOf leaves marks = All (λ mark. IsSome (item_at leaves mark.id)) marks

-- the nodes of a route, each given by the leaf of its id
abbrev pub route_nodes : List NodeLeaf → List ℕ → List RouteNode
route_nodes leaves ids = map (λ id. route_node (item_at leaves id)) ids

-- the nodes within a radius, each given by the leaf of its id
abbrev pub reached_nodes : List NodeLeaf → List Mark → List ReachedNode
reached_nodes leaves marks = map (λ mark. reached_node (item_at leaves mark.id) mark) marks

-- no two leaves belong to the same node
abbrev pub AreApart : List NodeLeaf → Type 0
AreApart leaves = IsLeast (StandsTwice leaves) None
