-- The nodes at most as far as an end, from the result of a search over the net.
use Rattle.std.proofs.Common.{◌≡◌, ℕ, ◌<◌, ◌≤◌, lit≤, nat_le, true, Option, None, Some, inl, inr, List, refl, arith, ap, sym, ◌∙◌, subst}
use Rattle.std.specs.List.{Contains, filter}
use Rattle.std.specs.Option.{option_map}
use Rattle.road_map.specs.declared.arc.Arc.{Arc}
use Rattle.road_map.specs.declared.parts.Node.{Node}
use Rattle.road_map.specs.declared.parts.Parts.{Parts}
use Rattle.road_map.specs.Laws.{DistanceLaws}
use Rattle.road_map.specs.Maps.{IsMap, IsById}
use Rattle.road_map.specs.Nets.{IsPlace, IsNet}
use Rattle.road_map.specs.Places.{AreRising}
use Rattle.road_map.specs.Walks.{ids, Knows, distance}
use Rattle.road_map.proofs.Among.{place_at, map_place, place_map, contains_at}
use Rattle.road_map.proofs.RisingLaws.{found, rise_from_sorted}
use Rattle.road_search.specs.declared.label.Label.{Label}
use Rattle.road_search.specs.declared.marks.Mark.{Mark}
use Rattle.road_search.specs.Labelling.{length_in}
use Rattle.road_search.specs.Listing.{mark_by, is_near_at}
use Rattle.road_search.specs.Nearness.{below, is_within}
use Rattle.road_search.specs.Nets.{net_ways}
use Rattle.road_search.specs.Passing.{IsLeastPassing}
use Rattle.road_search.proofs.NamedSearch.{place_or_not, no_end}
use Rattle.road_search.proofs.NearIds.{among, passes, keeps}
use Rattle.road_search.proofs.NetLaws.{least_map}
use Rattle.road_search.proofs.WholeMapLaws.{near_same}

-- a length that is at most another
within_some : (most : ℕ) (o : Option ℕ) → is_within most o ≡ true → (d : ℕ) × (o ≡ Some d) × (d ≤ most)
within_some most None h = cc
within_some most (Some d) h = (d, refl, grind (arith, h))

some_within : (most d : ℕ) (o : Option ℕ) → o ≡ Some d → d ≤ most → is_within most o ≡ true
some_within most d o is le = ap (is_within most) is ∙ (let t : nat_le d most ≡ true = grind (arith, le) in t)

module _ (parts : Parts) (order : List Node) (rows : List (List Arc)) (m : IsMap parts) (by : IsById parts.nodes order) (net : IsNet parts order rows) (laws : DistanceLaws parts) (f : ℕ → Option Mark) (s start bound most : ℕ) (known : Knows parts s) (from : IsPlace order s start) (low : bound ≤ 18446744073709551615) (lengths : (q : ℕ) → IsLeastPassing (net_ways rows) start bound q (below bound (length_in f q))) (short : most < bound) where
  rise : AreRising (ids order)
  rise = rise_from_sorted (ids order) by.rising

  -- a length of a position is the distance of its node
  one_near : (id k d : ℕ) → IsPlace order id k → d ≤ most → (length_in f k ≡ Some d → distance parts s id ≡ Some d) × (distance parts s id ≡ Some d → length_in f k ≡ Some d)
  one_near id k d at le = near_same parts m laws s bound 18446744073709551615 id d (length_in f k) known (lit≤ tt) low (omega (arith, le, short)) (least_map parts order rows m by net s id start k bound (below bound (length_in f k)) from at (lengths k))

  near_at : (id k : ℕ) → IsPlace order id k → is_near_at (ids order) f most id ≡ is_within most (length_in f k)
  near_at id k at = ap (λ o. is_within most (option_map (λ (l : Label). l.length) (option_map (λ (n : Mark). n.label) (mark_by f None o)))) (found (ids order) id k rise (at.0.id, place_map (λ (n : Node). n.id) order k at.0 at.1, at.2))

  -- the nodes that are near by their labels are exactly the near nodes
  pub near_nodes : (near : List ℕ) → near ≡ filter (is_near_at (ids order) f most) (ids order) → (id : ℕ) → (Contains near id → is_within most (distance parts s id) ≡ true) × (is_within most (distance parts s id) ≡ true → Contains near id)
  near_nodes near is id = (λ c. forth (subst (λ xs. Contains xs id) is c), λ t. subst (λ xs. Contains xs id) (sym is) (back t))
    where
      forth : Contains (filter (is_near_at (ids order) f most) (ids order)) id → is_within most (distance parts s id) ≡ true
      forth c =
          let p = place_at (ids order) id (among (is_near_at (ids order) f most) (ids order) id c) in
          let n = map_place (λ (x : Node). x.id) order p.0 id p.1 in
          let at : IsPlace order id p.0 = (n.0, n.1, n.2) in
          let d = within_some most (length_in f p.0) (sym (near_at id p.0 at) ∙ passes (is_near_at (ids order) f most) (ids order) id c) in
          some_within most d.0 (distance parts s id) ((one_near id p.0 d.0 at d.2).0 d.1) d.2

      back : is_within most (distance parts s id) ≡ true → Contains (filter (is_near_at (ids order) f most) (ids order)) id
      back t =
          let d = within_some most (distance parts s id) t in
          elim (place_or_not parts order by id) [
            | inl at ↦ keeps (is_near_at (ids order) f most) (ids order) id (subst (Contains (ids order)) at.1.2 (contains_at (ids order) at.0 at.1.0.id (place_map (λ (n : Node). n.id) order at.0 at.1.0 at.1.1))) (near_at id at.0 at.1 ∙ some_within most d.0 (length_in f at.0) ((one_near id at.0 d.0 at.1 d.2).1 d.1) d.2)
            | inr none ↦ absurd (let bad : None ≡ Some d.0 = sym (no_end parts m laws s id none.0) ∙ d.1 in cc)
          ]
