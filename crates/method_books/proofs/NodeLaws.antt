-- The leaves of a book, by id.
use Rattle.std.proofs.Common.{◌≡◌, ◌≢◌, ℕ, ◌==◌, nat_eq, Bool, true, false, cond, ◌||◌, Option, None, Some, is_some, List, [], ◌∷◌, refl, arith, ap, sym, ◌∙◌, slice_get}
use Rattle.std.specs.List.{Contains, list_any}
use Rattle.std.specs.Cmp.{nat_eq_equiv}
use Rattle.std.proofs.lemmas.Map.Views.{list_any-from_Contains}
use Rattle.std.specs.Map.{lookup}
use Rattle.std.specs.Option.{option_map, unwrap_or}
use Rattle.road_map.specs.declared.arc.Arc.{Arc}
use Rattle.road_map.specs.declared.parts.Node.{Node}
use Rattle.road_map.specs.declared.parts.Parts.{Parts}
use Rattle.road_map.specs.Walks.{ids}
use Rattle.road_map.specs.Maps.{IsMap, IsById}
use Rattle.road_map.specs.ArcsOut.{arcs_out}
use Rattle.road_search.proofs.WholeMapLaws.{known_none}
use Rattle.road_leaf.specs.declared.leaf.Extra.{Extra}
use Rattle.road_leaf.specs.declared.leaf.Extra.TheVariants.{Plain}
use Rattle.road_leaf.specs.declared.leaf.NodeLeaf.{NodeLeaf}
use Rattle.book_model.specs.Nodes.{node_at}
use Rattle.book_model.specs.declared.settings.Numbers.{Numbers}
use Rattle.book_model.specs.Books.{leaf, leaf_by}
use Rattle.proof_method.proofs.LeafLaws.{node_is}
use Rattle.proof_judge.proofs.ItemLaws.{find_some}
use Rattle.method_books.specs.LdmBooks.{extra_in, ldm_book}

flips : (x y : ℕ) → nat_eq x y ≡ (y == x)
flips x y = grind arith

-- an id has a node if it is known
pub node_known : (nodes : List Node) (id : ℕ) → list_any (nat_eq id) (ids nodes) ≡ is_some (node_at nodes id)
node_known [] id = refl
node_known (n ∷ nodes) id = by_test (nat_eq id n.id) (n.id == id) (flips id n.id) (node_known nodes id)
  where
    by_test : (s t : Bool) → s ≡ t → list_any (nat_eq id) (ids nodes) ≡ is_some (node_at nodes id) → (s || list_any (nat_eq id) (ids nodes)) ≡ is_some (cond t (Some n) (node_at nodes id))
    by_test true true e rest = refl
    by_test false false e rest = rest
    by_test true false e rest = cc
    by_test false true e rest = cc

same_id : (x y : ℕ) → (x == y) ≡ true → x ≡ y
same_id x y h = grind (arith, h)

-- the node of an id has it
pub node_has : (nodes : List Node) (id : ℕ) (n : Node) → node_at nodes id ≡ Some n → n.id ≡ id
node_has nodes id n is = same_id n.id id (find_some (λ (m : Node). m.id == id) nodes n is).1

-- the contents of an id's leaf, if each known id has an entry
pub extra_leaf : (parts : Parts) (entries : List (ℕ × Extra)) (numbers : Numbers) (id : ℕ) → is_some (lookup (nat_eq id) entries) ≡ list_any (nat_eq id) (ids parts.nodes) → lookup (nat_eq id) entries ≡ option_map (λ (n : NodeLeaf). n.extra) (leaf (ldm_book parts entries numbers) id)
extra_leaf parts entries numbers id covers = by_node (lookup (nat_eq id) entries) (node_at parts.nodes id) refl refl (covers ∙ node_known parts.nodes id)
  where
    by_node : (o : Option Extra) (p : Option Node) → lookup (nat_eq id) entries ≡ o → node_at parts.nodes id ≡ p → is_some o ≡ is_some p → o ≡ option_map (λ (n : NodeLeaf). n.extra) (option_map (leaf_by parts (extra_in entries)) p)
    by_node None None h k e = refl
    by_node None (Some n) h k e = cc
    by_node (Some x) None h k e = cc
    by_node (Some x) (Some n) h k e = let here : n.id ≡ id = node_has parts.nodes id n k in ap Some (sym (ap (λ i. extra_in entries i) here ∙ ap (λ o. unwrap_or o Plain) h))

-- the arcs in the leaf of an id
pub arcs_at : (parts : Parts) (order : List Node) (entries : List (ℕ × Extra)) (numbers : Numbers) → IsMap parts → IsById parts.nodes order → (id p : ℕ) (out : List Arc) → ((n : Node) × (slice_get order p ≡ Some n) × (n.id ≡ id)) → ((n : Node) → slice_get order p ≡ Some n → out ≡ arcs_out parts.roads n.id) → Some out ≡ option_map (λ (n : NodeLeaf). n.arcs) (leaf (ldm_book parts entries numbers) id)
arcs_at parts order entries numbers m by id p out at arcs =
    let there : node_at parts.nodes id ≡ Some at.0 = node_is parts order m by id p at.0 at.1 at.2 in
    ap Some (arcs at.0 at.1) ∙ sym (ap (λ o. option_map (λ (n : NodeLeaf). n.arcs) (option_map (leaf_by parts (extra_in entries)) o)) there)

pub no_arcs : (parts : Parts) (order : List Node) (entries : List (ℕ × Extra)) (numbers : Numbers) → IsById parts.nodes order → (id : ℕ) → ((k : ℕ) (n : Node) → slice_get order k ≡ Some n → n.id ≢ id) → None ≡ option_map (λ (n : NodeLeaf). n.arcs) (leaf (ldm_book parts entries numbers) id)
no_arcs parts order entries numbers by id apart = by_node (node_at parts.nodes id) refl
  where
    none : is_some (node_at parts.nodes id) ≡ false
    none = sym (node_known parts.nodes id) ∙ known_none parts.nodes order id by apart

    by_node : (o : Option Node) → node_at parts.nodes id ≡ o → None ≡ option_map (λ (n : NodeLeaf). n.arcs) (option_map (leaf_by parts (extra_in entries)) o)
    by_node None e = refl
    by_node (Some n) e = absurd (let bad : true ≡ false = sym (ap is_some e) ∙ none in cc)

-- a known id has a node
pub known_node : (nodes : List Node) (id : ℕ) → Contains (ids nodes) id → (n : Node) × (node_at nodes id ≡ Some n)
known_node nodes id known = by_node (node_at nodes id) refl
  where
    some : is_some (node_at nodes id) ≡ true
    some = sym (node_known nodes id) ∙ list_any-from_Contains nat_eq_equiv id (ids nodes) known

    by_node : (o : Option Node) → node_at nodes id ≡ o → (n : Node) × (node_at nodes id ≡ Some n)
    by_node None is = absurd (let bad : false ≡ true = sym (ap is_some is) ∙ some in cc)
    by_node (Some n) is = (n, is)
