-- Goal-directed walks are walks, and every walk to the end below the limit is goal-directed.
use Rattle.std.proofs.Common.{◌≡◌, ℕ, suc, ◌+◌, ◌<◌, ◌≤◌, nat_lt, false, true, Option, None, Some, IsSome, IfSome, ◌⊎◌, inl, inr, List, [], ◌∷◌, refl, arith, subst}
use Rattle.road_map.specs.declared.arc.Arc.{Arc}
use Rattle.road_map.specs.declared.parts.Node.{Node}
use Rattle.road_map.specs.declared.parts.Parts.{Parts}
use Rattle.road_map.specs.Laws.{DistanceLaws}
use Rattle.road_map.specs.Least.{IsLeast}
use Rattle.road_map.specs.Maps.{IsMap, IsById}
use Rattle.road_map.specs.Nets.{IsPlace, IsNet}
use Rattle.road_map.specs.Routes.{last_stop, walk_length, stops}
use Rattle.road_map.specs.Walks.{Knows, Joins, distance}
use Rattle.road_map.proofs.ChartLaws.{roads_known}
use Rattle.road_search.specs.Headed.{headed_ways, IsLowerBound}
use Rattle.road_search.specs.Labelling.{IsWay}
use Rattle.road_search.specs.Nearness.{below}
use Rattle.road_search.specs.Nets.{net_ways}
use Rattle.road_search.specs.Passing.{Passes, Reaches, IsLeastPassing}
use Rattle.road_search.proofs.NetLaws.{known, reach_map, reach_net, next_place}
use Rattle.road_search.proofs.OverMapLaws.{reaches_joins, joins_reaches}

module _ (parts : Parts) (order : List Node) (rows : List (List Arc)) (m : IsMap parts) (by : IsById parts.nodes order) (net : IsNet parts order rows) (laws : DistanceLaws parts) (bound_of : ℕ → ℕ) (t end limit : ℕ) (to : IsPlace order t end) (lower : IsLowerBound parts order t bound_of) where
  -- a goal-directed walk is a walk over the net
  relaxed : (u p : ℕ) (walk : List Arc) → Passes (headed_ways rows bound_of limit) u p walk → Passes (net_ways rows) u p walk
  relaxed u p [] h = tt
  relaxed u p (a ∷ walk) h = (record { out = h.0.out; entry = h.0.entry; among = h.0.among }, refl, relaxed a.to (p + a.length) walk h.2)

  -- over the net a walk passes whatever its length
  rebased : (u p q : ℕ) (walk : List Arc) → Passes (net_ways rows) u p walk → Passes (net_ways rows) u q walk
  rebased u p q [] h = tt
  rebased u p q (a ∷ walk) h = (h.0, refl, rebased a.to (p + a.length) (q + a.length) walk h.2)

  -- the rest of a walk to the end is at least as long as the bound
  bounded : (v u : ℕ) (walk : List Arc) → IsPlace order v u → Passes (net_ways rows) u 0 walk → last_stop u walk ≡ end → bound_of u ≤ walk_length walk
  bounded v u walk at h ends =
      let r : Reaches (net_ways rows) u (suc (walk_length walk)) end (walk_length walk) = (stops u walk, record { walk = walk; passes = h; visits = refl; ends = ends; sums = refl; below = omega arith }) in
      let joins : Joins parts v t (walk_length walk) = reaches_joins parts v (suc (walk_length walk)) t (walk_length walk) (known parts order rows m by net v u at) (reach_map parts order rows m by net v t u end (suc (walk_length walk)) (walk_length walk) at to r) in
      by_distance (distance parts v t) refl (laws.least v t) joins
    where
      by_distance : (o : Option ℕ) → distance parts v t ≡ o → IsLeast (Joins parts v t) o → Joins parts v t (walk_length walk) → bound_of u ≤ walk_length walk
      by_distance None e least joins = absurd (least (walk_length walk) joins)
      by_distance (Some d) e least joins = let low : bound_of u ≤ d = lower v u d at e in let le : d ≤ walk_length walk = least.1 (walk_length walk) joins in omega (arith, low, le)

  -- so a walk to the end below the limit is goal-directed
  lifted : (v u p : ℕ) (walk : List Arc) → IsPlace order v u → Passes (net_ways rows) u p walk → last_stop u walk ≡ end → p + walk_length walk < limit → Passes (headed_ways rows bound_of limit) u p walk
  lifted v u p [] at h ends lt = tt
  lifted v u p (a ∷ walk) at h ends lt =
      let low : bound_of u ≤ a.length + walk_length walk = bounded v u (a ∷ walk) at (rebased u p 0 (a ∷ walk) h) ends in
      let next = next_place parts order rows m by net v u a at h.0 in
      let short : p + bound_of u < limit = omega (arith, low, lt) in
      let passes : nat_lt (p + bound_of u) limit ≡ true = grind (arith, short) in
      let rest : (p + a.length) + walk_length walk < limit = omega (arith, lt) in
      (record { out = h.0.out; entry = h.0.entry; among = h.0.among }, passes, lifted next.0 a.to (p + a.length) walk next.1 h.2 ends rest)

  headed_reach : (s start b d : ℕ) → IsPlace order s start → b ≤ limit → Reaches (net_ways rows) start b end d → Reaches (headed_ways rows bound_of limit) start b end d
  headed_reach s start b d from low r =
      let lt : 0 + walk_length r.1.walk < limit = (let sums : walk_length r.1.walk ≡ d = r.1.sums in let short : d < b = r.1.below in omega (arith, sums, short, low)) in
      (r.0, record { walk = r.1.walk; passes = lifted s start 0 r.1.walk from r.1.passes r.1.ends lt; visits = r.1.visits; ends = r.1.ends; sums = r.1.sums; below = r.1.below })

  net_reach : (start b d : ℕ) → Reaches (headed_ways rows bound_of limit) start b end d → Reaches (net_ways rows) start b end d
  net_reach start b d r = (r.0, record { walk = r.1.walk; passes = relaxed start 0 r.1.walk r.1.passes; visits = r.1.visits; ends = r.1.ends; sums = r.1.sums; below = r.1.below })

  -- the least length of goal-directed walks to the end is that of all walks
  pub least_net : (s start b : ℕ) (o : Option ℕ) → IsPlace order s start → b ≤ limit → IsLeastPassing (headed_ways rows bound_of limit) start b end o → IsLeastPassing (net_ways rows) start b end o
  least_net s start b None from low h = λ d r. h d (headed_reach s start b d from low r)
  least_net s start b (Some d) from low h = (net_reach start b d h.0, λ e r. h.1 e (headed_reach s start b e from low r))

  pub way_net : (start b : ℕ) (o : Option ℕ) (route : List ℕ) → IsWay (headed_ways rows bound_of limit) start b end o route → IsWay (net_ways rows) start b end o route
  way_net start b o route w = record {
    distinct = w.distinct;
    d = w.d;
    long = w.long;
    passes = record { walk = w.passes.walk; passes = relaxed start 0 w.passes.walk w.passes.passes; visits = w.passes.visits; ends = w.passes.ends; sums = w.passes.sums; below = w.passes.below };
  }

  -- if no goal-directed walk leads to the end, its distance is at least the limit
  pub far_end : (s start b d : ℕ) (o : Option ℕ) → IsPlace order s start → Knows parts s → b ≤ limit → (b ≡ limit) ⊎ IsSome o → o ≡ None → IsLeastPassing (headed_ways rows bound_of limit) start b end (below b o) → distance parts s t ≡ Some d → limit ≤ d
  far_end s start b d o from there low whole none h is = elim whole [
    | inl e ↦ not_below (λ lt.
        let least : IsLeast (Joins parts s t) (Some d) = subst (IsLeast (Joins parts s t)) is (laws.least s t) in
        let short : d < b = omega (arith, lt, e) in
        let r = joins_reaches parts (roads_known parts m.joined) s b t d short least.0 in
        let away : IsLeastPassing (headed_ways rows bound_of limit) start b end None = subst (λ x. IsLeastPassing (headed_ways rows bound_of limit) start b end (below b x)) none h in
        away r.0 (headed_reach s start b r.0 from low (reach_net parts order rows m by net s t start end b r.0 from to r.1)))
    | inr some ↦ absurd (gone (subst IsSome none some))
  ]
    where
      gone : false ≡ true → ⊥
      gone h = cc

      not_below : (d < limit → ⊥) → limit ≤ d
      not_below h = grind (arith, h)

  pub ways_net : (start b : ℕ) (o : Option ℕ) (r : Option (List ℕ)) → IfSome r (IsWay (headed_ways rows bound_of limit) start b end o) → IfSome r (IsWay (net_ways rows) start b end o)
  ways_net start b o None w = tt
  ways_net start b o (Some route) w = way_net start b o route w
