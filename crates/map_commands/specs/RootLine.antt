-- The output of `root`.
use Rattle.std.specs.Prelude.{◌≡◌, ℕ, List, [], ◌++◌, length, map, codes, slice_get, Some}
use Rattle.std.specs.Fmt.{decimal}
use Rattle.hex.specs.Hex.{encode_lower}
use Rattle.sha2.specs.Sha256.{sha256}
use Rattle.merkle_cover.specs.Trees.{root}
use Rattle.road_map.specs.Maps.{IsById, Charted}
use Rattle.road_map.specs.ArcsOut.{arcs_out}
use Rattle.road_map.specs.declared.parts.Node.{Node}
use Rattle.road_map.specs.declared.parts.Parts.{Parts}
use Rattle.road_leaf.specs.Leaves.{node_leaf_text}
use Rattle.road_leaf.specs.declared.leaf.NodeLeaf.{NodeLeaf}
use Rattle.road_leaf.specs.declared.leaf.Extra.TheVariants.{Plain}
use Rattle.std.specs.declared.result.Result.TheVariants.{Ok, Err}
use Rattle.road_io.specs.Contents.{Folder}
use Rattle.road_map.specs.Maps.{IsMap}
use Rattle.command_files.specs.Reading.{parts_at, IsMapFault}
use Rattle.command_files.specs.Endings.{Ending, EndsReading}
use Rattle.command_files.specs.declared.fault.Fault.TheVariants.{Map as MapFault}
use Rattle.command_files.specs.declared.ended.Conclusion.TheVariants.{Done}

-- the leaf of a node with only its coordinates and arcs
abbrev pub plain_leaf : Parts → Node → NodeLeaf
plain_leaf parts node = record {
  id = node.id;
  x = node.x;
  y = node.y;
  arcs = arcs_out parts.roads node.id;
  extra = Plain;
}

-- the texts of the plain leaves of nodes, in their order
abbrev pub plain_texts : Parts → List Node → List (List ℕ)
plain_texts parts order = map (λ node. node_leaf_text (plain_leaf parts node)) order

-- the text of the plain leaf at this index among the nodes by ascending id
pub record IsPlainTextAt (map : Charted) (place : ℕ) (text : List ℕ) : Type 0 where
  pub node : Node
  pub here : slice_get map.order place ≡ Some node
  pub is : text ≡ node_leaf_text (plain_leaf map.parts node)

-- the line of a root: the number of nodes, a space, the root in lower-case hex, and a line end
abbrev pub root_line : ℕ → List ℕ → List ℕ
root_line count root = decimal count ++ codes " " ++ encode_lower root ++ codes "\n"

-- the line of the number of nodes, and of the root of the tree over their plain leaves by ascending id
pub record IsRootLine (parts : Parts) (fan : ℕ) (text : List ℕ) : Type 0 where
  pub order : List Node
  pub by_id : IsById parts.nodes order
  pub line : text ≡ root_line (length parts.nodes) (root sha256 (plain_texts parts order) fan)

-- `root` over the parts of a file: the line of the root
abbrev pub EndsRoot : ℕ → Parts → Ending
EndsRoot fan parts (Ok Done) text = IsMap parts × IsRootLine parts fan text
EndsRoot fan parts (Err (MapFault fault)) text = IsMapFault parts fault × (text ≡ [])
EndsRoot fan parts outcome text = ⊥

-- the same over the road file with this name
abbrev pub ends_root : List ℕ → ℕ → Folder → Ending
ends_root roads fan folder = EndsReading (parts_at folder roads) (EndsRoot fan)
