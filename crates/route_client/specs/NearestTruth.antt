-- The facts about a map that hold when the nearest of listed ids are picked from the nodes that a client accepts.
-- Source: Papadias, Zhang, Mamoulis and Tao, VLDB 2003: nearest neighbours in a road network, by network distance.
use Rattle.std.specs.Prelude.{◌≡◌, ◌⊎◌, ℕ, ◌<◌, List, Some, All, Contains, length}
use Rattle.std.specs.declared.cmp.Ordering.TheVariants.{Less}
use Rattle.road_map.specs.declared.parts.Parts.{Parts}
use Rattle.road_map.specs.Maps.{IsMap}
use Rattle.road_map.specs.Walks.{Knows, Joins, IsDistance}
use Rattle.proof_octets.specs.declared.marks.Mark.{Mark}
use Rattle.proof_octets.specs.declared.query.NearQuery.{NearQuery}
use Rattle.proof_octets.specs.Radius.{marked_ids, IsNear, AreWithin}
use Rattle.route_client.specs.declared.picking.Picked.{Picked}
use Rattle.route_client.specs.Nearest.{nearer_cmp, PicksNearest}

-- no walk within the radius ends at the id: it is not a node, no walk joins it to the start, or it is farther
pub data IsBeyond (parts : Parts) (q : NearQuery) (id : ℕ) : Type 0 where
  NoNode : ¬ Knows parts id → IsBeyond parts q id
  Unjoined : Knows parts id → ((d : ℕ) → ¬ Joins parts q.from id d) → IsBeyond parts q id
  Farther : (d : ℕ) → IsDistance parts q.from id (Some d) → q.radius < d → IsBeyond parts q id

-- a node within the radius; as many nodes as requested are picked before it
pub record IsBehind (parts : Parts) (q : NearQuery) (most : ℕ) (x : Picked) (id : ℕ) : Type 0 where
  pub mark : Mark
  pub of_id : mark.id ≡ id
  pub near : IsNear parts q mark
  pub full : length x.nodes ≡ most
  pub nearer : All (λ m. nearer_cmp m mark ≡ Less) x.nodes

-- The nearest of the listed nodes within the radius of a map, each with its distance. A listed id that is not
-- picked is beyond the radius, or as many nodes as requested are picked before it.
pub record AreNearest (parts : Parts) (q : NearQuery) (ids : List ℕ) (most : ℕ)
    (x : Picked) : Type 0 where
  pub picks : PicksNearest (IsNear parts q) ids most x
  pub others : (id : ℕ) → Contains ids id → ¬ Contains (marked_ids x.nodes) id →
      IsBeyond parts q id ⊎ IsBehind parts q most x id

-- a pick from all nodes within the radius of a map, each with its distance, has the nearest of them
abbrev pub PicksAreNearest : Type 0
PicksAreNearest = (parts : Parts) (q : NearQuery) (nodes : List Mark) (ids : List ℕ) (most : ℕ)
    (x : Picked) → IsMap parts → AreWithin parts q nodes →
    PicksNearest (λ m. Contains nodes m) ids most x → AreNearest parts q ids most x

-- the same nodes, ids and number give one pick
abbrev pub OneIsPicked : Type 0
OneIsPicked = (nodes : List Mark) (ids : List ℕ) (most : ℕ) (x y : Picked) →
    PicksNearest (λ m. Contains nodes m) ids most x →
    PicksNearest (λ m. Contains nodes m) ids most y → x ≡ y
