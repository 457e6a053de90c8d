-- Trees whose texts come one at a time.
use Rattle.std.specs.Prelude.{ℕ, zero, suc, ◌+◌, ◌-◌, ◌*◌, ◌/◌, ◌^◌, ◌<◌, ◌≤◌, ◌≡◌, ◌==◌, ◌||◌, nat_lt, if◌then◌else◌, Option, Some, None, List, [], length, map, min, take, slice_get, slice_index_or}
use Rattle.std.specs.List.{range_with_len, sum_by}
use Rattle.std.specs.Option.{option_map}
use Rattle.merkle_cover.specs.Shape.{places_at, top}
use Rattle.merkle_cover.specs.Trees.{digest, root}
use Rattle.merkle_cover.specs.Covers.{first_fault}
use Rattle.merkle_cover.specs.Spots.{spots_of}
use Rattle.merkle_cover.specs.declared.spots.Spot.{Spot}
use Rattle.merkle_cover.specs.declared.rising.RisingError.{RisingError}
use Rattle.merkle_cover.specs.declared.rising.RisingError.TheVariants.{Fan, Empty, TooMany, Place}

-- the first refusal that applies, over n leaves and chosen positions
abbrev pub first_rising_refusal : ℕ → ℕ → List ℕ → Option RisingError
first_rising_refusal n fan places =
    if nat_lt fan 2 || nat_lt 32 fan then Some Fan
    else (if n == 0 then Some Empty else
    (if nat_lt 2097152 n then Some TooMany else option_map (λ i. Place i)
    (first_fault n places)))

-- The contents of a tree that takes its texts one at a time, as contracts see it: its number of leaves and fan-out,
-- the number of texts taken, the digests that wait for their group (each by its level and its position in the
-- group), the positions of the cover's digests, the cover's digests made so far, and the digest made last.
pub record Growth : Type 0 where
  pub leaves : ℕ
  pub fan : ℕ
  pub pushed : ℕ
  pub waiting : List (List ℕ)
  pub spots : List Spot
  pub cover : List (List ℕ)
  pub newest : List ℕ

-- the number of complete positions of level k, with m of n texts
abbrev pub whole_places : ℕ → ℕ → ℕ → ℕ → ℕ
whole_places n f m k = if m == n then places_at n f k else m / f ^ k

-- the number of waiting digests: those of complete positions with an incomplete parent
abbrev pub count_waiting : ℕ → ℕ → ℕ → ℕ
count_waiting n f m =
    sum_by (λ k. whole_places n f m k - f * whole_places n f m (suc k)) (range_with_len 0 (top n f))

-- the index after the last of the leaves below position p of level k, over n leaves
abbrev pub end_of : ℕ → ℕ → ℕ → ℕ → ℕ
end_of n f k p = min n ((p + 1) * f ^ k)

-- with m texts, each complete position of level k stays in its slot until its group is complete
pub record HoldsLevel (hash : List ℕ → List ℕ) (texts : List (List ℕ)) (f m k : ℕ)
    (waiting : List (List ℕ)) : Type 0 where
  pub digests : (g i : ℕ) → i < f → end_of (length texts) f k (g * f + i) ≤ m →
      m < end_of (length texts) f (suc k) g
      → slice_index_or waiting (k * f + i) [] ≡ digest hash texts f k (g * f + i)

-- the digests of the cover made so far are its first ones, and the position of the next one is not complete
pub record HoldsCover (hash : List ℕ → List ℕ) (texts : List (List ℕ)) (f m : ℕ) (spots : List Spot)
    (cover : List (List ℕ)) : Type 0 where
  pub made : cover ≡ map (λ (s : Spot). digest hash texts f s.level s.place)
      (take (length cover) spots)
  pub next : (s : Spot) → slice_get spots (length cover) ≡ Some s →
      m < end_of (length texts) f s.level s.place

-- The tree has taken the first of these texts; it has this fan-out and these chosen positions.
pub record Takes (hash : List ℕ → List ℕ) (fan : ℕ) (places : List ℕ) (texts : List (List ℕ))
    (r : Growth) : Type 0 where
  pub count : length texts ≡ r.leaves
  pub fan_is : r.fan ≡ fan
  pub spots_are : r.spots ≡ spots_of (length texts) fan places
  pub levels : (k : ℕ) → k < top (length texts) fan → HoldsLevel hash texts fan r.pushed k r.waiting
  pub covers : HoldsCover hash texts fan r.pushed r.spots r.cover
  pub whole : r.pushed ≡ r.leaves → r.newest ≡ root hash texts fan

-- each level below the top has a slot for each child of a group
pub record IsGrowing (leaves fan height pushed : ℕ) (waiting : List (List ℕ)) : Type 0 where
  pub fan_least : 2 ≤ fan
  pub fan_most : fan ≤ 32
  pub some : 1 ≤ leaves
  pub most : leaves ≤ 2097152
  pub height_is : height ≡ top leaves fan
  pub within : pushed ≤ leaves
  pub slots : length waiting ≡ height * fan
