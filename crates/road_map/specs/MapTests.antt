-- A function that tests whether parts make a map.
use Rattle.std.specs.Prelude.{ℕ, ◌^◌, ◌==◌, Bool, not, ◌&&◌, nat_lt, nat_le, nat_eq, List, length, count_by}
use Rattle.std.specs.List.{list_all, list_any}
use Rattle.road_map.specs.declared.parts.Node.{Node}
use Rattle.road_map.specs.declared.parts.Road.{Road}
use Rattle.road_map.specs.declared.parts.Parts.{Parts}
use Rattle.road_map.specs.Walks.{ids}
use Rattle.road_map.specs.ArcsOut.{arcs_out}

-- there are nodes, and not too many nodes or roads
abbrev pub is_sized : Parts → Bool
is_sized parts = nat_lt 0 (length parts.nodes) && nat_le (length parts.nodes) 65536 && nat_le
    (length parts.roads) 262144

-- no other node has the node's id
abbrev pub stands_once : List Node → Node → Bool
stands_once nodes n = not (nat_le 2 (count_by (λ m. m.id == n.id) nodes))

-- the road joins two different nodes, and its length is a 32-bit number
abbrev pub joins_two : List ℕ → Road → Bool
joins_two ids r = list_any (nat_eq r.a) ids && list_any (nat_eq r.b) ids && not
    (r.a == r.b) && nat_lt r.length (2 ^ 32)

-- the node has at most 255 neighbours
abbrev pub is_uncrowded : List Road → Node → Bool
is_uncrowded roads n = not (nat_lt 255 (length (arcs_out roads n.id)))

-- the parts satisfy every rule of maps
unfoldable pub is_map : Parts → Bool
is_map parts =
    is_sized parts && list_all (stands_once parts.nodes) parts.nodes && list_all
    (joins_two (ids parts.nodes)) parts.roads
    && list_all (is_uncrowded parts.roads) parts.nodes
