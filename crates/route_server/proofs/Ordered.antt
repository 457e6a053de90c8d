-- A permutation of a map's ids is an order of its leaves.
use Rattle.std.proofs.Common.{ℕ, List, nat_eq}
use Rattle.std.specs.List.Sorted.{IsPermutation}
use Rattle.std.specs.Ordering.{nat_cmp}
use Rattle.std.proofs.lemmas.List.Sorted.{IsPermutation-sym, IsPermutation-trans, Contains-permutation}
use Rattle.std.proofs.lemmas.Map.Keys.{IsDistinct-IsPermutation}
use Rattle.road_map.specs.declared.parts.Parts.{Parts}
use Rattle.road_map.specs.Walks.{ids}
use Rattle.road_map.specs.Maps.{IsMap}
use Rattle.book_model.specs.Orders.{by_id}
use Rattle.proof_method.specs.Gathering.{IsOrderOf}
use Rattle.road_order.proofs.ListingLaws.{ids_distinct, flips}
use Rattle.road_order.proofs.SortLaws.{sorted_moves}

pub order_from_moves : (parts : Parts) (order : List ℕ) → IsMap parts → IsPermutation (ids parts.nodes) order → IsOrderOf parts order
order_from_moves parts order is_map moved = record {
  distinct = IsDistinct-IsPermutation nat_eq flips (by_id parts.nodes) order (IsPermutation-trans (by_id parts.nodes) (ids parts.nodes) order (IsPermutation-sym (ids parts.nodes) (by_id parts.nodes) (sorted_moves nat_cmp (ids parts.nodes))) moved) (ids_distinct parts is_map);
  same = λ id. (Contains-permutation order (ids parts.nodes) id (IsPermutation-sym (ids parts.nodes) order moved), Contains-permutation (ids parts.nodes) order id moved);
}
