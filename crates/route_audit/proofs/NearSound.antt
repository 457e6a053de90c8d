-- Over leaves of a map's book, walks that find every item they need within the radius are the map's walks within
-- the radius.
use Rattle.std.proofs.Common.{◌≡◌, ℕ, ◌+◌, ◌<◌, ◌≤◌, ◌⊎◌, inl, inr, Option, None, Some, List, [], true, refl, arith, sym, subst}
use Rattle.std.specs.List.{Contains}
use Rattle.road_map.specs.declared.arc.Arc.{Arc}
use Rattle.road_map.specs.declared.parts.Parts.{Parts}
use Rattle.road_map.specs.Walks.{Knows, Joins, distance}
use Rattle.road_map.specs.Least.{IsLeast}
use Rattle.road_map.specs.Laws.{DistanceLaws}
use Rattle.road_map.specs.Maps.{IsMap}
use Rattle.road_map.specs.Routes.{walk_length}
use Rattle.road_map.proofs.Among.{Contains-none}
use Rattle.road_map.proofs.LeastLaws.{IsLeast-unique}
use Rattle.road_search.specs.Passing.{Ways, Reaches, IsLeastPassing}
use Rattle.road_leaf.specs.declared.leaf.NodeLeaf.{NodeLeaf}
use Rattle.road_leaf.specs.declared.pair.PairLeaf.{PairLeaf}
use Rattle.book_model.specs.declared.items.Items.{Items}
use Rattle.book_model.specs.Books.{Book, leaf}
use Rattle.proof_judge.specs.ItemWalks.{item_at, any_ways}
use Rattle.proof_method.specs.Gathering.{IsAuthentic}
use Rattle.proof_judge.proofs.Reaching.{Reaches-start}
use Rattle.proof_method.proofs.Along.{IsOfMap, IsClosed, Shorter, Cut, joins_along, reaches_joins, run}
use Rattle.proof_method.proofs.Completes.{below_bound}
use Rattle.proof_method.proofs.RouteLaws.{have_arcs, items_of_map, roads_known}
use Rattle.proof_octets.specs.declared.marks.Mark.{Mark}
use Rattle.proof_octets.specs.declared.query.NearQuery.{NearQuery}
use Rattle.proof_octets.specs.Radius.{IsNear, ListsMarks, AreWithin}
use Rattle.proof_octets.proofs.MarkLaws.{listed_same}
use Rattle.route_client.specs.NearVerdicts.{IsReached, LacksItem, limit_of}

-- leaves, as the items of an answer
abbrev pub alone : List NodeLeaf → Items
alone nodes = record { route = []; nodes = nodes; pairs = [] }

pub authentic_alone : (b : Book) (nodes : List NodeLeaf) → ((n : NodeLeaf) → Contains nodes n → leaf b n.id ≡ Some n) → IsAuthentic b (alone nodes)
authentic_alone b nodes own = record { nodes = own; pairs = λ p c. absurd (Contains-none p c) }

lt_cases : (a b : ℕ) → (a < b) ⊎ (b ≤ a)
lt_cases a b = grind arith

module _ (b : Book) (nodes : List NodeLeaf) (q : NearQuery) (is_map : IsMap b.parts) (laws : DistanceLaws b.parts) (own : (n : NodeLeaf) → Contains nodes n → leaf b n.id ≡ Some n) (complete : (id : ℕ) → LacksItem nodes q id → ⊥) where
  of : IsOfMap b.parts (any_ways (item_at nodes))
  of = items_of_map b.parts nodes (λ _ _. true) (have_arcs b (alone nodes) (authentic_alone b nodes own))

  closed : IsClosed (any_ways (item_at nodes)) q.from (limit_of q)
  closed id d r none = complete id ((d, r), none)

  known : Knows b.parts q.from
  known = by_entry ((any_ways (item_at nodes)).arcs q.from) refl
    where
      by_entry : (o : Option (List Arc)) → (any_ways (item_at nodes)).arcs q.from ≡ o → Knows b.parts q.from
      by_entry None e = absurd (closed q.from 0 (Reaches-start (any_ways (item_at nodes)) q.from (limit_of q) (omega arith)) e)
      by_entry (Some out) e = (of q.from out e).1

  -- for a walk of the map within the radius there is a walk over the items that is no longer
  over_items : (id e : ℕ) → Joins b.parts q.from id e → e < limit_of q → (m : ℕ) × Reaches (any_ways (item_at nodes)) q.from (limit_of q) id m × (m ≤ e)
  over_items id e j lt =
      let w : Ways = any_ways (item_at nodes) in
      let a : Shorter b.parts q.from id e = joins_along b.parts (roads_known b.parts is_map) q.from id e j in
      let near : walk_length a.arcs ≤ e = a.shorter in
      let below : 0 + walk_length a.arcs < limit_of q = omega arith in
      elim (run b.parts w q.from (limit_of q) of closed q.from 0 a.arcs (Reaches-start w q.from (limit_of q) (omega arith)) a.along below) [
        | inl r ↦ (0 + walk_length a.arcs, subst (λ x. Reaches w q.from (limit_of q) x (0 + walk_length a.arcs)) a.ends r, omega arith)
        | inr c ↦ absurd (stopped c)
      ]
    where
      stopped : {to whole : ℕ} → Cut b.parts (any_ways (item_at nodes)) q.from (limit_of q) to whole → ⊥
      stopped c = let never = c.stops in cc

  joined : (id d : ℕ) → Reaches (any_ways (item_at nodes)) q.from (limit_of q) id d → Joins b.parts q.from id d
  joined id d r = reaches_joins b.parts (any_ways (item_at nodes)) of q.from (limit_of q) id d known r

  to_map : (m : Mark) → IsReached nodes q m → IsNear b.parts q m
  to_map m h =
      let below : m.distance < limit_of q = below_bound q.from (limit_of q) m.id m.distance h.0 in
      let least : IsLeast (Joins b.parts q.from m.id) (Some m.distance)
      = (
        joined m.id m.distance h.0,
        λ e j. elim (lt_cases e (limit_of q)) [
          | inl lt ↦ (let r = over_items m.id e j lt in omega (arith, h.1 r.0 r.1, r.2))
          | inr ge ↦ omega (arith, ge, below)
        ],
      ) in
      record {
        distance_is = IsLeast-unique (Joins b.parts q.from m.id) (distance b.parts q.from m.id) (Some m.distance) (laws.least q.from m.id) least;
        within = omega (arith, below);
      }

  from_map : (m : Mark) → IsNear b.parts q m → IsReached nodes q m
  from_map m n =
      let least : IsLeast (Joins b.parts q.from m.id) (Some m.distance) = subst (IsLeast (Joins b.parts q.from m.id)) n.distance_is (laws.least q.from m.id) in
      let r = over_items m.id m.distance least.0 (omega (arith, n.within)) in
      let same : r.0 ≡ m.distance = omega (arith, r.2, least.1 r.0 (joined m.id r.0 r.1)) in
      (subst (Reaches (any_ways (item_at nodes)) q.from (limit_of q) m.id) same r.1, λ d k. least.1 d (joined m.id d k))

  -- so the nodes that the items list are those within the radius in the map
  pub within_map : (marks : List Mark) → ListsMarks (IsReached nodes q) marks → AreWithin b.parts q marks
  within_map marks listed = listed_same marks (λ m. (to_map m, from_map m)) listed

  -- and the nodes within the radius in the map are those that the items list
  pub items_listed : (marks : List Mark) → AreWithin b.parts q marks → ListsMarks (IsReached nodes q) marks
  items_listed marks within = listed_same marks (λ m. (from_map m, to_map m)) within
