-- Indices of node items by ascending id, and pair items by their two ids.
use Rattle.std.specs.Prelude.{◌≡◌, ◌==◌, ◌&&◌, ◌||◌, ℕ, ◌<◌, ◌≤◌, nat_lt, Bool, false, Some, None, Option, List, length, slice_get, get_or, count_by, find}
use Rattle.road_map.specs.Least.{IsLeast}
use Rattle.road_map.specs.Places.{AreRising, place_in}
use Rattle.road_leaf.specs.declared.leaf.NodeLeaf.{NodeLeaf}
use Rattle.road_leaf.specs.declared.pair.PairLeaf.{PairLeaf}
use Rattle.proof_judge.specs.ItemWalks.{StandsTwice}

-- an id occurs as often among the ids as among the items
abbrev pub AsMany : List NodeLeaf → List ℕ → Type 0
AsMany nodes ids = (id : ℕ) → count_by (λ i. i == id) ids ≡ count_by (λ n. n.id == id) nodes

-- an id is repeated
abbrev pub IsTaken : List ℕ → ℕ → Type 0
IsTaken ids id = 2 ≤ count_by (λ i. i == id) ids

-- an index has the same position in its list as its id
abbrev pub IsIndexOf : List ℕ → List ℕ → ℕ → ℕ → Type 0
IsIndexOf ids indices id index =
    (k : ℕ) × (place_in ids id ≡ Some k) × (slice_get indices k ≡ Some index)

-- for each item before this one, its index has the position of its id
abbrev pub AreNoted : List NodeLeaf → List ℕ → List ℕ → ℕ → Type 0
AreNoted nodes ids indices end = (index : ℕ) (n : NodeLeaf) → index < end →
    slice_get nodes index ≡ Some n → IsIndexOf ids indices n.id index

-- for each item, its index has the position of its id
abbrev pub AreIndices : List NodeLeaf → List ℕ → List ℕ → Type 0
AreIndices nodes ids indices = AreNoted nodes ids indices (length nodes)

-- the ids of items in ascending order, all distinct, and the index of each item
pub record AreListed (nodes : List NodeLeaf) (indices : List ℕ) (ids : List ℕ) : Type 0 where
  pub rise : AreRising ids
  pub as_many : AsMany nodes ids
  pub distinct : IsLeast (StandsTwice nodes) None
  pub indices_of : AreIndices nodes ids indices

-- the first item that names these two ids, in this order
abbrev pub named_in : List PairLeaf → ℕ → ℕ → Option PairLeaf
named_in pairs a b = find (λ p. (p.a == a) && (p.b == b)) pairs

-- two ids come before two others: the first id is less, or the first ids are equal and the second is less
abbrev pub is_before : ℕ → ℕ → ℕ → ℕ → Bool
is_before a b c d = nat_lt a c || ((a == c) && nat_lt b d)

-- no item comes before an earlier one, by its two ids
abbrev pub AreSorted : List PairLeaf → Type 0
AreSorted pairs = (i j : ℕ) (d : PairLeaf) → i ≤ j → j < length pairs →
    is_before (get_or pairs j d).a (get_or pairs j d).b (get_or pairs i d).a
    (get_or pairs i d).b ≡ false

-- the items sorted by their two ids; the first of them that names two ids is also the first in the unsorted list
pub record IsSortedCopy (pairs : List PairLeaf) (copy : List PairLeaf) : Type 0 where
  pub sorted : AreSorted copy
  pub same_first : (a b : ℕ) → named_in copy a b ≡ named_in pairs a b
