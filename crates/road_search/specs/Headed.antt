-- Goal-directed walks: they continue only while the sum of their length and a lower bound of the remaining distance
-- is below a limit. Source: Hart, Nilsson and Raphael, 1968: estimates that never exceed the remaining cost.
use Rattle.std.specs.Prelude.{◌≡◌, ℕ, ◌+◌, ◌≤◌, nat_lt, IsTrue, Some, List, slice_get}
use Rattle.std.proofs.lemmas.Bool.{lt-ltb, ltb-true}
use Rattle.std.proofs.Math.Nat.{lt_of_le_of_lt, add-le-add_iff_right}
use Rattle.road_map.specs.declared.arc.Arc.{Arc}
use Rattle.road_map.specs.declared.parts.Node.{Node}
use Rattle.road_map.specs.declared.parts.Parts.{Parts}
use Rattle.road_map.specs.Nets.{IsPlace}
use Rattle.road_map.specs.Walks.{distance}
use Rattle.road_search.specs.Passing.{Ways}

-- walks from position to position that may leave a position while the sum of their length and the position's bound
-- is below the limit
abbrev pub headed_ways : List (List Arc) → (ℕ → ℕ) → ℕ → Ways
headed_ways rows bound limit = record {
  arcs = λ p. slice_get rows p;
  lets = λ p length. nat_lt (length + bound p) limit;
}

-- the distance from each position to the end is at least the position's bound
abbrev pub IsLowerBound : Parts → List Node → ℕ → (ℕ → ℕ) → Type 0
IsLowerBound parts order t bound = (id p d : ℕ) → IsPlace order id p → distance parts id t ≡ Some d →
    bound p ≤ d

-- a shorter walk passes too
pub headed_shorter : (b limit short long : ℕ) → short ≤ long → IsTrue (nat_lt (long + b) limit) →
    IsTrue (nat_lt (short + b) limit)
headed_shorter b limit short long le h = lt-ltb (short + b) limit
    (lt_of_le_of_lt ((add-le-add_iff_right b).1 le) (ltb-true (long + b) limit h))
