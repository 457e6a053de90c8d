-- Walks that a gate lets pass, by position and by id.
use Rattle.std.proofs.Common.{◌≡◌, ℕ, ◌+◌, Bool, IsTrue, Option, None, Some, inl, inr, List, [], ◌∷◌, refl, arith, ap, sym, ◌∙◌, subst, slice_get}
use Rattle.std.specs.List.{Contains}
use Rattle.std.specs.Option.{option_map}
use Rattle.road_map.specs.declared.arc.Arc.{Arc}
use Rattle.road_map.specs.declared.parts.Node.{Node}
use Rattle.road_map.specs.declared.parts.Parts.{Parts}
use Rattle.road_map.specs.ArcsOut.{arcs_out}
use Rattle.road_map.specs.Maps.{IsMap, IsById}
use Rattle.road_map.specs.Nets.{IsPlace, IsNet}
use Rattle.road_map.specs.Places.{StandsAt, AreRising}
use Rattle.road_map.specs.Routes.{last_stop, walk_length, stops}
use Rattle.road_map.specs.Walks.{ids, Knows}
use Rattle.road_map.proofs.Among.{place_map, map_place}
use Rattle.road_map.proofs.ChartLaws.{roads_known}
use Rattle.road_map.proofs.RisingLaws.{found, missing}
use Rattle.road_search.specs.declared.label.Label.{Label}
use Rattle.road_search.specs.declared.marks.Mark.{Mark}
use Rattle.road_search.specs.Gated.{gated_net, IsGated}
use Rattle.road_search.specs.Labelling.{length_in}
use Rattle.road_search.specs.Listing.{mark_by, listed_by}
use Rattle.road_search.specs.OverMap.{map_ways}
use Rattle.road_search.specs.Passing.{Ways, Leaves, Passes, Reaches, IsLeastPassing}
use Rattle.road_search.proofs.NamedSearch.{place_or_not}
use Rattle.road_search.proofs.NetLaws.{Pair, in_row, in_arcs, known, placed_row, row_at, one_id, one_place}
use Rattle.road_search.proofs.OverMapLaws.{leaves_out, out_leaves, reaches_joins, joined_known}

module _ (parts : Parts) (order : List Node) (rows : List (List Arc)) (m : IsMap parts) (by : IsById parts.nodes order) (net : IsNet parts order rows) (gate : ℕ → ℕ → Bool) (w : Ways) (g : IsGated parts order gate w) where
  leaves_map : (u : ℕ) (a : Arc) → Leaves w u a → Leaves (map_ways parts) u a
  leaves_map u a h = record { out = h.out; entry = sym (g.arcs u) ∙ h.entry; among = h.among }

  leaves_gated : (u : ℕ) (a : Arc) → Leaves (map_ways parts) u a → Leaves w u a
  leaves_gated u a h = record { out = h.out; entry = g.arcs u ∙ h.entry; among = h.among }

  -- a walk over the net, and the one by ids
  record Same (u p len : ℕ) (by_id over_net : List Arc) : Type 0 where
    in_ids : Passes w u len by_id
    in_net : Passes (gated_net rows gate) p len over_net
    long : walk_length over_net ≡ walk_length by_id
    ends : IsPlace order (last_stop u by_id) (last_stop p over_net)

  longer : (u p len : ℕ) (row : List Arc) (a b : Arc) (walk net_walk : List Arc) → IsPlace order u p → IsTrue (gate p len) → slice_get rows p ≡ Some row → Pair order (arcs_out parts.roads u) row a b → Same a.to b.to (len + b.length) walk net_walk → Same u p len (a ∷ walk) (b ∷ net_walk)
  longer u p len row a b walk net_walk at lets entry pair rest = record {
    in_ids = (leaves_gated u a (out_leaves parts u a (known parts order rows m by net u p at) pair.among), subst IsTrue (sym (g.lets u p len at)) lets, subst (λ k. Passes w a.to (len + k) walk) pair.long rest.in_ids);
    in_net = (record { out = row; entry = entry; among = pair.stands }, lets, rest.in_net);
    long = (let l : b.length ≡ a.length = pair.long in let r : walk_length net_walk ≡ walk_length walk = rest.long in omega (arith, l, r));
    ends = rest.ends;
  }

  to_ids : (u p len : ℕ) (net_walk : List Arc) → IsPlace order u p → Passes (gated_net rows gate) p len net_walk → (walk : List Arc) × Same u p len walk net_walk
  to_ids u p len [] at h = ([], record { in_ids = tt; in_net = tt; long = refl; ends = at })
  to_ids u p len (b ∷ net_walk) at h =
      let pair = in_row order (arcs_out parts.roads u) h.0.out (placed_row parts order rows m by net u p h.0.out at h.0.entry) b h.0.among in
      let rest = to_ids pair.0.to b.to (len + b.length) net_walk pair.1.leads h.2 in
      (pair.0 ∷ rest.0, longer u p len h.0.out pair.0 b rest.0 net_walk at h.1 h.0.entry pair.1 rest.1)

  to_net : (u p len : ℕ) (walk : List Arc) → IsPlace order u p → Passes w u len walk → (net_walk : List Arc) × Same u p len walk net_walk
  to_net u p len [] at h = ([], record { in_ids = tt; in_net = tt; long = refl; ends = at })
  to_net u p len (a ∷ walk) at h =
      let row = row_at parts order rows m by net u p at in
      let pair = in_arcs order (arcs_out parts.roads u) row.0 (placed_row parts order rows m by net u p row.0 at row.1) a (leaves_out parts u a (leaves_map u a h.0)).0 in
      let rest = to_net a.to pair.0.to (len + pair.0.length) walk pair.1.leads (subst (λ k. Passes w a.to (len + k) walk) (sym pair.1.long) h.2) in
      (pair.0 ∷ rest.0, longer u p len row.0 a pair.0 walk rest.0 at (subst IsTrue (g.lets u p len at) h.1) row.1 pair.1 rest.1)

  reach_ids : (s t p q limit d : ℕ) → IsPlace order s p → IsPlace order t q → Reaches (gated_net rows gate) p limit q d → Reaches w s limit t d
  reach_ids s t p q limit d from to r =
      let o = to_ids s p 0 r.1.walk from r.1.passes in
      let end : IsPlace order (last_stop s o.0) q = subst (IsPlace order (last_stop s o.0)) r.1.ends o.1.ends in
      (stops s o.0, record { walk = o.0; passes = o.1.in_ids; visits = refl; ends = one_id parts order rows m by net (last_stop s o.0) t q end to; sums = sym o.1.long ∙ r.1.sums; below = r.1.below })

  reach_net : (s t p q limit d : ℕ) → IsPlace order s p → IsPlace order t q → Reaches w s limit t d → Reaches (gated_net rows gate) p limit q d
  reach_net s t p q limit d from to r =
      let o = to_net s p 0 r.1.walk from r.1.passes in
      let end : IsPlace order t (last_stop p o.0) = subst (λ i. IsPlace order i (last_stop p o.0)) r.1.ends o.1.ends in
      (stops p o.0, record { walk = o.0; passes = o.1.in_net; visits = refl; ends = one_place parts order rows m by net t (last_stop p o.0) q end to; sums = o.1.long ∙ r.1.sums; below = r.1.below })

  least_ids : (s t p q limit : ℕ) (o : Option ℕ) → IsPlace order s p → IsPlace order t q → IsLeastPassing (gated_net rows gate) p limit q o → IsLeastPassing w s limit t o
  least_ids s t p q limit None from to h = λ d r. h d (reach_net s t p q limit d from to r)
  least_ids s t p q limit (Some d) from to h = (reach_ids s t p q limit d from to h.0, λ e r. h.1 e (reach_net s t p q limit e from to r))

  -- a walk that passes is one of the map's
  freed : (u len : ℕ) (walk : List Arc) → Passes w u len walk → Passes (map_ways parts) u len walk
  freed u len [] h = tt
  freed u len (a ∷ walk) h = (leaves_map u a h.0, refl, freed a.to (len + a.length) walk h.2)

  reached_known : (s limit v d : ℕ) → Knows parts s → Reaches w s limit v d → Knows parts v
  reached_known s limit v d here r =
      joined_known parts (roads_known parts m.joined) s v d (reaches_joins parts s limit v d here (r.0, record { walk = r.1.walk; passes = freed s 0 r.1.walk r.1.passes; visits = r.1.visits; ends = r.1.ends; sums = r.1.sums; below = r.1.below }))

  abbrev length_of : Option Mark → Option ℕ
  length_of o = option_map (λ (l : Label). l.length) (option_map (λ (n : Mark). n.label) o)

  -- the lengths of a search over the net, by the ids of its positions
  pub gated_lengths : (f by_id : ℕ → Option Mark) (s start limit : ℕ) → AreRising (ids order) → ((id : ℕ) → by_id id ≡ listed_by (ids order) f [] id) → IsPlace order s start → ((q : ℕ) → IsLeastPassing (gated_net rows gate) start limit q (length_in f q)) → (v : ℕ) → IsLeastPassing w s limit v (length_in by_id v)
  gated_lengths f by_id s start limit rise same from lengths v = elim (place_or_not parts order by v) [
    | inl at ↦
        let here : by_id v ≡ f at.0 = same v ∙ ap (mark_by f None) (found (ids order) v at.0 rise (at.1.0.id, place_map (λ (n : Node). n.id) order at.0 at.1.0 at.1.1, at.1.2)) in
        subst (IsLeastPassing w s limit v) (sym (ap length_of here)) (least_ids s v start at.0 limit (length_in f at.0) from at.1 (lengths at.0))
    | inr none ↦
        let here : by_id v ≡ None = same v ∙ ap (mark_by f None) (missing (ids order) v (λ k at. nowhere none.1 k at)) in
        subst (IsLeastPassing w s limit v) (sym (ap length_of here)) (λ d r. none.0 (reached_known s limit v d (known parts order rows m by net s start from) r))
  ]
    where
      nowhere : ((p : ℕ) → IsPlace order v p → ⊥) → (k : ℕ) → StandsAt (λ i. i) (ids order) v k → ⊥
      nowhere none k at = let n = map_place (λ (x : Node). x.id) order k at.0 at.1 in none k (n.0, n.1, n.2 ∙ at.2)
