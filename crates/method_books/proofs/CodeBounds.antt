-- The bounds from the codes of a book.
use Rattle.std.proofs.Common.{◌≡◌, ℕ, ◌≤◌, ◌-◌, ◌^◌, min, Some, List, arith, ap, sym, ◌∙◌, subst, slice_get}
use Rattle.road_map.specs.declared.parts.Node.{Node}
use Rattle.road_map.specs.Maps.{IsMap}
use Rattle.road_map.specs.Walks.{Knows, IsDistance}
use Rattle.road_map.proofs.WalkLaws.{distance-is}
use Rattle.road_leaf.specs.declared.leaf.NodeLeaf.{NodeLeaf}
use Rattle.road_search.specs.Headed.{IsLowerBound}
use Rattle.book_model.specs.Bounds.{bound}
use Rattle.book_model.specs.Books.{Ldm, Book, leaf}
use Rattle.proof_method.specs.Vectors.{HasVectors}
use Rattle.proof_method.proofs.BoundLaws.{bound_le}
use Rattle.proof_method.proofs.RouteLaws.{Leaf, leaf_is, leaf_id, roads_known}
use Rattle.method_books.specs.LdmBooks.{bound_from}

leaf_says : (b : Book) (u : ℕ) (n : NodeLeaf) → leaf b u ≡ Some n → (n.extra ≡ b.extra_of u) × Knows b.parts u
leaf_says b u n is =
    let own : n.id ≡ u = leaf_id b.parts b.extra_of u n is in
    let l : Leaf b.parts b.extra_of n = leaf_is b.parts b.extra_of n (subst (λ z. leaf b z ≡ Some n) (sym own) is) in
    (l.extra ∙ ap b.extra_of own, subst (Knows b.parts) own l.known)

-- the distance from a node to an id is at least the bound of the node's position
pub low_bounds : (b : Book) (order : List Node) (to : ℕ) → IsMap b.parts → HasVectors Ldm b → IsLowerBound b.parts order to (λ p. bound_from b to (slice_get order p))
low_bounds b order to m has id p d at is =
    let least : IsDistance b.parts id to (Some d) = subst (IsDistance b.parts id to) is (distance-is b.parts (roads_known b.parts m) id to) in
    let le : bound b.numbers.first (leaf b) (leaf b id) (leaf b to) ≤ d = bound_le b.parts b.numbers.first has.0 b.extra_of has.1 (leaf b) (leaf_says b) m id to d least.0 in
    subst (λ o. bound_from b to o ≤ d) (sym at.1)
    (subst (λ z. min (bound b.numbers.first (leaf b) (leaf b z) (leaf b to)) (2 ^ 64 - 1) ≤ d) (sym at.2) (small (bound b.numbers.first (leaf b) (leaf b id) (leaf b to)) le))
  where
    small : (n : ℕ) → n ≤ d → min n (2 ^ 64 - 1) ≤ d
    small n le = omega (arith, le)
