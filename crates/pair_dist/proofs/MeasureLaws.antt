-- The lengths that searches over a net, and over a chain, find at the stations of ids.
use Rattle.std.proofs.Common.{◌≡◌, ℕ, ◌<◌, Some, List, length, slice_get, get_or, arith, ◌∙◌, subst}
use Rattle.std.proofs.lemmas.Option.{slice_get-get_or, slice_get_within}
use Rattle.road_map.specs.declared.arc.Arc.{Arc}
use Rattle.road_map.specs.declared.parts.Node.{Node}
use Rattle.road_map.specs.declared.parts.Parts.{Parts}
use Rattle.road_map.specs.Walks.{distance}
use Rattle.road_map.specs.Laws.{DistanceLaws}
use Rattle.road_map.specs.Maps.{IsMap, IsById}
use Rattle.road_map.specs.Nets.{IsNet}
use Rattle.road_search.specs.Passing.{IsLeastPassing}
use Rattle.road_search.specs.Nets.{net_ways}
use Rattle.road_search.proofs.NetLaws.{net_distance}
use Rattle.pair_dist.specs.Placing.{ArePlaces}
use Rattle.pair_dist.specs.Chains.{too_long, Keeps, Measured}

module _ (parts : Parts) (order : List Node) (rows : List (List Arc)) (chosen places : List ℕ) (m : IsMap parts) (by : IsById parts.nodes order) (net : IsNet parts order rows) (laws : DistanceLaws parts) (h : ArePlaces order chosen places) where
  pub by_places : Measured (distance parts) (net_ways rows) chosen places
  by_places = record {
    long = h.long;
    each = λ i j a b p q o ci cj pi pj l. net_distance parts order rows m by net laws a b p q o (h.each i a p ci pi) (h.each j b q cj pj) l;
  }

  at_place : (i a : ℕ) → slice_get chosen i ≡ Some a → slice_get places i ≡ Some (get_or places i 0)
  at_place i a at = slice_get-get_or places i 0 (let lt : i < length chosen = slice_get_within chosen i a at in omega (arith, lt, h.long))

  pub by_chain : (chain : List (List Arc)) (stations : List ℕ) → Keeps rows places chain → length stations ≡ length places → ((i n : ℕ) → slice_get stations i ≡ Some n → n ≡ i) → Measured (distance parts) (net_ways chain) chosen stations
  by_chain chain stations keeps long each = record {
    long = long ∙ h.long;
    each = λ i j a b n k o ci cj si sj l. by_places.each i j a b (get_or places i 0) (get_or places j 0) o ci cj (at_place i a ci) (at_place j b cj)
        (keeps i j (get_or places i 0) (get_or places j 0) o (at_place i a ci) (at_place j b cj)
        (subst (λ t. IsLeastPassing (net_ways chain) i too_long t o) (each j k sj) (subst (λ t. IsLeastPassing (net_ways chain) t too_long k o) (each i n si) l)));
  }
