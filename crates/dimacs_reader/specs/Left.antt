-- The number of arcs left, at the indices of sorted arcs.
use Rattle.std.specs.Prelude.{◌≡◌, ◌≢◌, ℕ, ◌+◌, ◌==◌, ◌||◌, nat_lt, Bool, if◌then◌else◌, Option, None, Some, List, get_or}
use Rattle.std.specs.List.{position}
use Rattle.std.specs.List.Sorted.{IsSortedByKey}
use Rattle.std.specs.Ordering.{nat_cmp, ordering_then, ordering_index}
use Rattle.std.specs.declared.cmp.Ordering.{Ordering}
use Rattle.dimacs_reader.specs.declared.arc.Arc.{Arc}
use Rattle.dimacs_reader.specs.Dimacs.{is_arc, turned}

-- the numbers by which arcs are sorted: the two ends, then the length
abbrev pub three_of : Arc → ℕ × ℕ × ℕ
three_of arc = (arc.from, arc.to, arc.length)

abbrev pub three_cmp : ℕ × ℕ × ℕ → ℕ × ℕ × ℕ → Ordering
three_cmp x y = ordering_then (ordering_then (nat_cmp x.0 y.0) (nat_cmp x.1 y.1)) (nat_cmp x.2 y.2)

abbrev pub AreSorted : List Arc → Type 0
AreSorted arcs = IsSortedByKey three_of three_cmp arcs

-- how an arc compares with another: 0 if it sorts before the other, 1 if they are equal, 2 if it sorts after the
-- other
abbrev pub rank : Arc → Arc → ℕ
rank arc other = ordering_index (three_cmp (three_of other) (three_of arc))

-- another arc sorts before this arc
abbrev pub precedes : Arc → Arc → Bool
precedes arc other = nat_lt (rank arc other) 1

-- the first index of an arc, if it is in the list
abbrev pub place_in : List Arc → Arc → Option ℕ
place_in arcs arc = position (is_arc arc) arcs

-- the number left at an index, if the index exists
abbrev pub left_at : List ℕ → Option ℕ → ℕ
left_at left None = 0
left_at left (Some place) = get_or left place 0

-- how many arcs equal to this one are left; the number is stored at the first index of the arc
abbrev pub left_of : List Arc → List ℕ → Arc → ℕ
left_of arcs left arc = left_at left (place_in arcs arc)

-- the arc needs no reverse arc, or one is left
abbrev pub has_back : (Arc → ℕ) → Arc → Bool
has_back left arc = (arc.from == arc.to) || nat_lt 0 (left (turned arc))

-- of the arcs between two nodes, only the reverse of this one has been taken
abbrev pub TakesBack : (Arc → ℕ) → (Arc → ℕ) → Arc → Type 0
TakesBack before after arc = (other : Arc) → other.from ≢ other.to →
    after other + (if is_arc (turned other) arc then 1 else 0) ≡ before other
