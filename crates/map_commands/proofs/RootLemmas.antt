-- The plain leaves of a map's nodes.
use Rattle.std.proofs.Common.{◌≡◌, ℕ, ◌≤◌, ◌<◌, Some, List, [], length, get_or, slice_get, refl, sym, ap, subst, ◌∙◌, arith}
use Rattle.std.proofs.lemmas.List.{get_or-map}
use Rattle.std.proofs.lemmas.Option.{get_or_from_slice_get, slice_get_within}
use Rattle.road_map.specs.ArcsOut.{arcs_out}
use Rattle.road_map.specs.Maps.{IsMap}
use Rattle.road_leaf.specs.declared.leaf.NodeLeaf.{NodeLeaf}
use Rattle.road_leaf.specs.declared.leaf.Extra.TheVariants.{Plain}
use Rattle.road_map.specs.declared.arc.Arc.{Arc}
use Rattle.road_map.specs.declared.parts.Node.{Node}
use Rattle.road_map.specs.declared.parts.Parts.{Parts}
use Rattle.road_leaf.specs.Leaves.{node_leaf_text}
use Rattle.map_commands.specs.RootLine.{plain_leaf, plain_texts}

-- no node of a map is crowded
short_text : (parts : Parts) → IsMap parts → (node : Node) (arcs : List Arc) → arcs ≡ arcs_out parts.roads node.id → length arcs ≤ 255
short_text parts is node arcs e = rw e (not_more (length (arcs_out parts.roads node.id)) (is.uncrowded node.id))
  where
    not_more : (n : ℕ) → (255 < n → ⊥) → n ≤ 255
    not_more n h = grind (arith, h)

-- the leaf of a node of a map has few arcs
pub few_arcs : (parts : Parts) → IsMap parts → (node : Node) (arcs : List Arc) → arcs ≡ arcs_out parts.roads node.id → (leaf : NodeLeaf) →
    leaf ≡ record { id = node.id; x = node.x; y = node.y; arcs = arcs; extra = Plain } → length leaf.arcs < 65536
few_arcs parts is node arcs e leaf l =
    let few : length arcs ≤ 255 = short_text parts is node arcs e in
    let P : NodeLeaf → Type 0 = λ leaf. length leaf.arcs < 65536 in
    subst P (sym l) (omega (arith, few))

-- the text at an index is that of the plain leaf of the node at this index
pub text_here : (parts : Parts) (order : List Node) (place : ℕ) (node : Node) (text : List ℕ) → slice_get order place ≡ Some node → text ≡ node_leaf_text (plain_leaf parts node) → get_or (plain_texts parts order) place [] ≡ text
text_here parts order place node text here is =
    let leaf : Node → List ℕ = λ node. node_leaf_text (plain_leaf parts node) in
    get_or-map leaf order place node [] (slice_get_within order place node here) ∙ ap leaf (get_or_from_slice_get order place node node here) ∙ sym is
