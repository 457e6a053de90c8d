-- A search over a map up to a limit finds the nodes within a radius.
use Rattle.std.proofs.Common.{◌≡◌, ℕ, ◌+◌, ◌-◌, ◌^◌, ◌<◌, ◌≤◌, min, IsTrue, Option, None, Some, List, refl, arith, sym, subst}
use Rattle.std.specs.Prelude.{nat_le, All}
use Rattle.std.specs.List.{Contains}
use Rattle.std.proofs.lemmas.Bool.Decides.{nat_tests}
use Rattle.road_map.specs.declared.parts.Parts.{Parts}
use Rattle.road_map.specs.Laws.{DistanceLaws}
use Rattle.road_map.specs.Least.{IsLeast}
use Rattle.road_map.specs.Maps.{IsMap}
use Rattle.road_map.specs.Walks.{Knows, Joins, distance}
use Rattle.road_map.proofs.ChartLaws.{roads_known}
use Rattle.road_search.specs.Nearness.{is_within}
use Rattle.road_search.specs.OverMap.{map_ways}
use Rattle.road_search.specs.Passing.{Reaches, IsLeastPassing}
use Rattle.road_search.proofs.OverMapLaws.{joins_reaches, joined_known}
use Rattle.road_search.proofs.WholeMapLaws.{whole_same, least_higher}
use Rattle.proof_octets.specs.declared.query.NearQuery.{NearQuery}
use Rattle.proof_octets.specs.Radius.{IsWithin}
use Rattle.route_server.proofs.Answering.{all_from_contains}

module _ (parts : Parts) (is_map : IsMap parts) (laws : DistanceLaws parts) (q : NearQuery) (here : Knows parts q.from) (limit : ℕ) (limit_is : limit ≡ min (q.radius + 1) (2 ^ 64 - 1))
    (len : ℕ → Option ℕ) (lengths : (v : ℕ) → IsLeastPassing (map_ways parts) q.from limit v (len v)) where
  -- a length that is found is the distance
  far : (id d : ℕ) → len id ≡ Some d → distance parts q.from id ≡ Some d
  far id d is =
      let least : IsLeastPassing (map_ways parts) q.from limit id (Some d) = subst (IsLeastPassing (map_ways parts) q.from limit id) is (lengths id) in
      sym (whole_same parts is_map laws q.from (limit + 2 ^ 48) id (Some d) here (omega arith) (least_higher (map_ways parts) q.from limit (limit + 2 ^ 48) id d (omega arith) least))

  within_to : (id : ℕ) → IsTrue (is_within q.radius (len id)) → IsWithin parts q id
  within_to id h = by_length (len id) refl h
    where
      le_of : (d most : ℕ) → IsTrue (nat_le d most) → d ≤ most
      le_of d most t = grind (arith, nat_tests)

      by_length : (o : Option ℕ) → len id ≡ o → IsTrue (is_within q.radius o) → IsWithin parts q id
      by_length None is t = cc
      by_length (Some d) is t = (d, far id d is, le_of d q.radius t)

  within_from : (id : ℕ) → IsWithin parts q id → IsTrue (is_within q.radius (len id))
  within_from id w =
      let least : IsLeast (Joins parts q.from id) (Some w.0) = subst (IsLeast (Joins parts q.from id)) w.1 (laws.least q.from id) in
      let small : w.0 < 2 ^ 48 = laws.bound q.from id w.0 w.1 in
      let below : w.0 < limit = omega (arith, limit_is, w.2, small) in
      let r : (m : ℕ) × Reaches (map_ways parts) q.from limit id m × (m ≤ w.0) = joins_reaches parts (roads_known parts is_map.joined) q.from limit id w.0 below least.0 in
      by_length (len id) (lengths id) r.0 r.1 r.2
    where
      le_true : (d most : ℕ) → d ≤ most → IsTrue (nat_le d most)
      le_true d most le = grind (arith, nat_tests)

      by_length : (o : Option ℕ) → IsLeastPassing (map_ways parts) q.from limit id o → (m : ℕ) → Reaches (map_ways parts) q.from limit id m → m ≤ w.0 → IsTrue (is_within q.radius o)
      by_length None h m r le = absurd (h m r)
      by_length (Some e) h m r le = le_true e q.radius (omega (arith, h.1 m r, le, w.2))

  -- ids with a length of at most the radius are those within it
  pub ids_same : (ids : List ℕ) → ((id : ℕ) → (Contains ids id → IsTrue (is_within q.radius (len id))) × (IsTrue (is_within q.radius (len id)) → Contains ids id)) → (id : ℕ) → (Contains ids id → IsWithin parts q id) × (IsWithin parts q id → Contains ids id)
  ids_same ids same id = (λ c. within_to id ((same id).0 c), λ w. (same id).1 (within_from id w))

  -- and they are known
  pub ids_known : (ids : List ℕ) → ((id : ℕ) → (Contains ids id → IsTrue (is_within q.radius (len id))) × (IsTrue (is_within q.radius (len id)) → Contains ids id)) → All (Knows parts) ids
  ids_known ids same = all_from_contains (Knows parts) ids (λ id c.
      let w : IsWithin parts q id = within_to id ((same id).0 c) in
      let least : IsLeast (Joins parts q.from id) (Some w.0) = subst (IsLeast (Joins parts q.from id)) w.1 (laws.least q.from id) in
      joined_known parts (roads_known parts is_map.joined) q.from id w.0 least.0)
