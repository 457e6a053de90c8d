-- The definitions of a radius, evaluated for some marks. A changed definition fails here.
use Rattle.std.proofs.Common.{◌≡◌, ◌+◌, List, [], ◌∷◌, Some, arith}
use Rattle.std.specs.Ordering.{nat_cmp}
use Rattle.std.specs.List.Sorted.{IsStrictlySortedBy}
use Rattle.road_map.proofs.Among.{Contains-none, Contains-here}
use Rattle.road_map.specs.declared.parts.Parts.{Parts}
use Rattle.road_map.specs.Walks.{distance}
use Rattle.proof_octets.specs.declared.marks.Mark.{Mark}
use Rattle.proof_octets.specs.declared.query.NearQuery.{NearQuery}
use Rattle.proof_octets.specs.Radius.{marked_ids, ListsMarks, IsWithin, IsNear, AreWithin}

module _ (parts : Parts) (q : NearQuery) (m : Mark) where
  -- a node at the radius itself is within it
  at_the_radius : distance parts q.from m.id ≡ Some m.distance → m.distance ≡ q.radius → IsNear parts q m
  at_the_radius is same = record { distance_is = is; within = omega (arith, same) }

  -- a node one step farther is not
  behind_the_radius : IsNear parts q m → m.distance ≡ q.radius + 1 → ⊥
  behind_the_radius h is = omega (arith, h.within, is)

  own_distance : IsNear parts q m → distance parts q.from m.id ≡ Some m.distance
  own_distance h = h.distance_is

  id_at_the_radius : distance parts q.from m.id ≡ Some q.radius → IsWithin parts q m.id
  id_at_the_radius is = (q.radius, is, omega arith)

  id_behind_the_radius : (h : IsWithin parts q m.id) → h.0 ≡ q.radius + 1 → ⊥
  id_behind_the_radius h is = omega (arith, h.2, is)

  -- each node within the radius is listed, and no other node
  listed : AreWithin parts q [] → IsNear parts q m → ⊥
  listed h near = Contains-none m ((h.same m).1 near)

  none_else : AreWithin parts q (m ∷ []) → IsNear parts q m
  none_else h = (h.same m).0 (Contains-here m [])

-- marks are ordered by ascending id
rising : (P : Mark → Type 0) (marks : List Mark) → ListsMarks P marks → IsStrictlySortedBy nat_cmp (marked_ids marks)
rising P marks h = h.rising
