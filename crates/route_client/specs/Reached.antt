-- The results of a search over the items.
use Rattle.std.specs.Prelude.{◌≡◌, ◌⊎◌, ℕ, ◌+◌, ◌^◌, ◌≤◌, ◌↔◌, IsTrue, None, Some, Result, Ok, Err, List, Contains}
use Rattle.std.specs.List.Sorted.{IsStrictlySortedBy}
use Rattle.std.specs.Ordering.{nat_cmp}
use Rattle.road_map.specs.Least.{IsLeast}
use Rattle.road_leaf.specs.declared.leaf.NodeLeaf.{NodeLeaf}
use Rattle.road_search.specs.Labelling.{Found, length_at}
use Rattle.road_search.specs.Nearness.{is_within}
use Rattle.road_search.specs.Passing.{Ways, IsLeastPassing}
use Rattle.proof_judge.specs.ItemWalks.{item_at, StandsTwice, any_ways}
use Rattle.proof_octets.specs.declared.marks.Mark.{Mark}
use Rattle.proof_octets.specs.declared.query.NearQuery.{NearQuery}
use Rattle.proof_octets.specs.Radius.{marked_ids}
use Rattle.route_client.specs.declared.near_errors.NearError.{NearError}
use Rattle.route_client.specs.NearVerdicts.{limit_of, LacksItem, Listed, Walked}

-- the limit is one more than the radius, or both are the greatest 64-bit number
abbrev pub IsLimitAbove : ℕ → ℕ → Type 0
IsLimitAbove radius limit = (limit ≡ radius + 1) ⊎ ((radius + 1 ≡ 2 ^ 64) × (limit + 1 ≡ 2 ^ 64))

-- each id has the least length of a passing walk to it
abbrev pub AreLeast : Ways → ℕ → ℕ → Found → Type 0
AreLeast w from limit found = (v : ℕ) → IsLeastPassing w from limit v (length_at found v)

-- exactly the ids with a length of at most `most`, in ascending order
pub record RiseWithin (found : Found) (most : ℕ) (ids : List ℕ) : Type 0 where
  pub rising : IsStrictlySortedBy nat_cmp ids
  pub same : (id : ℕ) → Contains ids id ↔ IsTrue (is_within most (length_at found id))

-- the id has this length, which is at most `most`
pub record IsLabelled (found : Found) (most : ℕ) (m : Mark) : Type 0 where
  pub length_is : length_at found m.id ≡ Some m.distance
  pub within : m.distance ≤ most

-- the marks of these ids in the same order, each with its length
pub record AreMarked (found : Found) (ids : List ℕ) (marks : List Mark) : Type 0 where
  pub named : marked_ids marks ≡ ids
  pub right : (m : Mark) → Contains marks m → length_at found m.id ≡ Some m.distance

-- the least lengths of walks no longer than the radius, if each such walk ends at an item; or the reason why
-- nothing is listed
abbrev pub Reached : List NodeLeaf → NearQuery → Result Found NearError → Type 0
Reached nodes q (Ok found) = IsLeast (LacksItem nodes q) None ×
    AreLeast (any_ways (item_at nodes)) q.from (limit_of q) found
Reached nodes q (Err e) = Listed nodes q (Err e)

-- the same if no two items carry the same id
abbrev pub Measured : List NodeLeaf → NearQuery → Result Found NearError → Type 0
Measured nodes q (Ok found) = IsLeast (StandsTwice nodes) None × Reached nodes q (Ok found)
Measured nodes q (Err e) = Walked nodes q (Err e)
