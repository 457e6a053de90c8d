-- Leaves of nodes whose arcs follow one another in one list, each up to its end, and whose codes are also in one
-- list.
use Rattle.std.specs.Prelude.{◌≡◌, ℕ, zero, suc, ◌+◌, ◌-◌, ◌≤◌, List, [], ◌∷◌, get_or, map, take, drop}
use Rattle.std.specs.List.{All}
use Rattle.road_map.specs.declared.arc.Arc.{Arc}
use Rattle.road_leaf.specs.declared.leaf.Extra.{Extra}
use Rattle.road_leaf.specs.declared.leaf.Extra.TheVariants.{Plain, Own, Near, Cell}
use Rattle.road_leaf.specs.declared.leaf.NodeLeaf.{NodeLeaf}
use Rattle.road_leaf.specs.declared.node_leaves.Head.{Head}
use Rattle.road_leaf.specs.declared.node_leaves.Note.{Note}
use Rattle.road_leaf.specs.declared.node_leaves.Note.TheVariants as notes

-- the extra contents of the leaf at an index; a leaf after the last note has none
abbrev pub extra_at : List Extra → ℕ → Extra
extra_at [] i = Plain
extra_at (e ∷ es) zero = e
extra_at (e ∷ es) (suc i) = extra_at es i

-- the extra contents of the leaves after the first
abbrev pub later : List Extra → List Extra
later [] = []
later (e ∷ es) = es

abbrev pub leaf_of : Head → List Arc → Extra → NodeLeaf
leaf_of h arcs extra = record { id = h.id; x = h.x; y = h.y; arcs = arcs; extra = extra }

-- the leaves; the arcs of the first one begin at an index
abbrev pub leaves_from : ℕ → List Head → List Arc → List Extra → List NodeLeaf
leaves_from start [] arcs extras = []
leaves_from start (h ∷ hs) arcs extras =
    leaf_of h (take (h.end - start) (drop start arcs)) (extra_at extras 0) ∷
    leaves_from h.end hs arcs (later extras)

-- the index at which the arcs of the leaf at an index begin
abbrev pub start_before : ℕ → List Head → ℕ → ℕ
start_before start hs index = get_or (start ∷ map (λ h. h.end) hs) index 0

-- no end precedes the one before it, and the last end is the length of the list
abbrev pub EndAt : ℕ → List Head → ℕ → Type 0
EndAt start [] long = start ≡ long
EndAt start (h ∷ hs) long = (start ≤ h.end) × EndAt h.end hs long

-- the contents that a note stands for, with its codes taken from this list
abbrev pub said : List ℕ → Note → Extra
said codes notes.Plain = Plain
said codes (notes.Own count start) = Own (take count (drop start codes))
said codes (notes.Near error reference) = Near reference error
said codes (notes.Cell border cell) = Cell cell border

-- the codes in the contents of a leaf
abbrev pub codes_of : Extra → List ℕ
codes_of (Own codes) = codes
codes_of _ = []

-- the codes of a note are within the first n codes
abbrev pub IsWithin : ℕ → Note → Type 0
IsWithin long (notes.Own count start) = start + count ≤ long
IsWithin long _ = Unit {0}

-- the leaves
abbrev pub held : List Head → List Arc → List Note → List ℕ → List NodeLeaf
held heads arcs noted codes = leaves_from 0 heads arcs (map (said codes) noted)

-- the leaves have this many arcs, and the codes of each are within this many codes
pub record AreHeld (heads : List Head) (long : ℕ) (noted : List Note) (count : ℕ) : Type 0 where
  pub ends : EndAt 0 heads long
  pub within : All (IsWithin count) noted
