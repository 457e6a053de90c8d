-- How border nodes are gathered, and their lists in the proof of a scan.
use Rattle.std.specs.Prelude.{ℕ, ◌↔◌, IsTrue, Option, None, Some, if◌then◌else◌, List, Contains, is_some}
use Rattle.road_map.specs.Least.{IsLeast}
use Rattle.road_leaf.specs.declared.leaf.NodeLeaf.{NodeLeaf}
use Rattle.proof_judge.specs.ItemWalks.{item_at, marks}
use Rattle.method_judges.specs.Scans.{AreRising, border_length}

-- a border node, and the least length for which a fact holds there
abbrev pub Marked : List NodeLeaf → (ℕ → ℕ → Type 0) → ℕ → ℕ → Type 0
Marked nodes P b p = IsTrue (marks (item_at nodes b)) × IsLeast (P b) (Some p)

-- all ids for which a fact holds, by ascending id and with their lengths
pub record AreBorders (At : ℕ → ℕ → Type 0) (bs : List (ℕ × ℕ)) : Type 0 where
  pub rising : AreRising bs
  pub all : (b p : ℕ) → Contains bs (b, p) ↔ At b p

-- the same for an id among some of the items
abbrev pub border_among : List NodeLeaf → List NodeLeaf → (ℕ → Option ℕ) → ℕ → Option ℕ
border_among nodes some len id = if is_some
    (item_at some id) then border_length nodes len id else None
