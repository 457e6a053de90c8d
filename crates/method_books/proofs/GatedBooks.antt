-- Walks over the leaves of a book, and walks over its map from position to position.
use Rattle.std.proofs.Common.{◌≡◌, ℕ, ◌+◌, ◌-◌, ◌<◌, ◌≤◌, ◌^◌, min, not, nat_eq, nat_lt, ltb-true, ltb-false, Bool, true, false, cond, Option, None, Some, is_some, List, refl, arith, ap, sym, ◌∙◌, slice_get}
use Rattle.std.specs.List.{list_any}
use Rattle.std.specs.Option.{option_map, unwrap_or}
use Rattle.road_map.specs.declared.parts.Node.{Node}
use Rattle.road_map.specs.declared.parts.Parts.{Parts}
use Rattle.road_map.specs.ArcsOut.{arcs_out}
use Rattle.road_map.specs.Maps.{IsMap, IsById}
use Rattle.road_map.specs.Walks.{ids}
use Rattle.road_search.specs.Gated.{IsGated}
use Rattle.road_search.specs.OverMap.{map_ways}
use Rattle.road_leaf.specs.declared.leaf.NodeLeaf.{NodeLeaf}
use Rattle.road_leaf.specs.declared.pair.PairLeaf.{PairLeaf}
use Rattle.book_model.specs.Bounds.{bound}
use Rattle.book_model.specs.Cells.{cell_of, is_border}
use Rattle.book_model.specs.Nodes.{node_at}
use Rattle.book_model.specs.Orders.{neighbours}
use Rattle.book_model.specs.Books.{Book, leaf, leaf_by}
use Rattle.proof_judge.specs.ItemWalks.{inner_ways, live_ways, marks}
use Rattle.method_books.specs.HypBooks.{hyp_book, cell_extra, AreMarked}
use Rattle.method_books.specs.LdmBooks.{bound_from}
use Rattle.method_books.proofs.HypLaws.{leaf_at_place}
use Rattle.method_books.proofs.MarkedNodes.{marked_at}
use Rattle.method_books.proofs.NodeLaws.{node_known, node_has}

-- the arcs of a leaf are those of the map
pub leaf_arcs : (b : Book) (id : ℕ) → option_map (λ (n : NodeLeaf). n.arcs) (leaf b id) ≡ (map_ways b.parts).arcs id
leaf_arcs b id = by_node (node_at b.parts.nodes id) refl
  where
    by_node : (o : Option Node) → node_at b.parts.nodes id ≡ o → option_map (λ (n : NodeLeaf). n.arcs) (option_map (leaf_by b.parts b.extra_of) o) ≡ cond (list_any (nat_eq id) (ids b.parts.nodes)) (Some (arcs_out b.parts.roads id)) None
    by_node None is = sym (ap (λ k. cond k (Some (arcs_out b.parts.roads id)) None) (node_known b.parts.nodes id ∙ ap is_some is))
    by_node (Some n) is =
        ap (λ i. Some (arcs_out b.parts.roads i)) (node_has b.parts.nodes id n is)
        ∙ sym (ap (λ k. cond k (Some (arcs_out b.parts.roads id)) None) (node_known b.parts.nodes id ∙ ap is_some is))

-- inner walks continue from positions that are not marked
pub inner_gated : (parts : Parts) (order : List Node) → IsMap parts → IsById parts.nodes order → (columns rows : ℕ) (pairs : List PairLeaf) (marked : List Bool) → AreMarked parts order columns rows marked →
    IsGated parts order (λ p _. not (unwrap_or (slice_get marked p) false)) (inner_ways (leaf (hyp_book parts columns rows pairs)))
inner_gated parts order m by columns rows pairs marked all = record {
  arcs = leaf_arcs (hyp_book parts columns rows pairs);
  lets = λ id p length at.
      ap (λ o. not (marks o)) (leaf_at_place parts order m by id p at.0 at.1 at.2 (cell_extra parts columns rows))
      ∙ sym (ap not (marked_at (is_border (cell_of parts.nodes columns rows) (neighbours parts.roads)) order marked p at.0 at.1 all));
}

-- live walks continue from positions whose bound leaves room below the limit
pub live_gated : (b : Book) (order : List Node) (to most : ℕ) → most < 2 ^ 48 →
    IsGated b.parts order (λ p length. nat_lt (length + bound_from b to (slice_get order p)) most) (live_ways b.numbers.first (leaf b) to most)
live_gated b order to most short = record {
  arcs = leaf_arcs b;
  lets = λ id p length at.
      let whole : ℕ = bound b.numbers.first (leaf b) (leaf b id) (leaf b to) in
      let here : bound_from b to (slice_get order p) ≡ min whole (2 ^ 64 - 1) = ap (bound_from b to) at.1 ∙ ap (λ i. min (bound b.numbers.first (leaf b) (leaf b i) (leaf b to)) (2 ^ 64 - 1)) at.2 in
      same length whole ∙ sym (ap (λ k. nat_lt (length + k) most) here);
}
  where
    same : (length whole : ℕ) → nat_lt (length + whole) most ≡ nat_lt (length + min whole (2 ^ 64 - 1)) most
    same length whole = by_test (nat_lt (length + whole) most) (nat_lt (length + min whole (2 ^ 64 - 1)) most) refl refl
      where
        not_cut : length + whole < most → most ≤ length + min whole (2 ^ 64 - 1) → ⊥
        not_cut lt le = omega (arith, lt, le)

        cut : most ≤ length + whole → length + min whole (2 ^ 64 - 1) < most → ⊥
        cut le lt = omega (arith, le, lt, short)

        by_test : (x y : Bool) → nat_lt (length + whole) most ≡ x → nat_lt (length + min whole (2 ^ 64 - 1)) most ≡ y → x ≡ y
        by_test true true e f = refl
        by_test false false e f = refl
        by_test true false e f = absurd (not_cut (ltb-true (length + whole) most e) (ltb-false (length + min whole (2 ^ 64 - 1)) most f))
        by_test false true e f = absurd (cut (ltb-false (length + whole) most e) (ltb-true (length + min whole (2 ^ 64 - 1)) most f))

-- all walks over the map, if there is no gate
pub free_gated : (parts : Parts) (order : List Node) → IsGated parts order (λ _ _. true) (map_ways parts)
free_gated parts order = record { arcs = λ id. refl; lets = λ id p length at. refl }
