-- The scan of the pairs of border nodes, by ascending ids.
use Rattle.std.specs.Prelude.{◌≡◌, ℕ, ◌+◌, ◌^◌, ◌<◌, ◌↔◌, nat_lt, Option, None, Some, if◌then◌else◌, List, [], ◌∷◌, Contains}
use Rattle.std.specs.Option.{option_or}
use Rattle.road_map.specs.Least.{IsLeast}
use Rattle.road_leaf.specs.declared.leaf.NodeLeaf.{NodeLeaf}
use Rattle.proof_judge.specs.declared.refusal.Refusal.{Refusal}
use Rattle.proof_judge.specs.ItemWalks.{item_at, marks, inner_ways}
use Rattle.proof_judge.specs.Apart.{Leads}

-- the fault of two border nodes, given the sum of their inner lengths
abbrev pub PairFault : Type 0
PairFault = ℕ → ℕ → ℕ → Option Refusal

-- the first fault of a border node with one of a list, among those for which the inner lengths of the two sum to
-- less than a limit
abbrev pub scan_row : PairFault → ℕ → ℕ → ℕ → List (ℕ × ℕ) → Option Refusal
scan_row fault most b p [] = None
scan_row fault most b p (c ∷ far) = option_or
    (if nat_lt (p + c.1) most then fault b c.0 (p + c.1) else None)
    (scan_row fault most b p far)

-- the first fault of two lists of border nodes
abbrev pub scan : PairFault → ℕ → List (ℕ × ℕ) → List (ℕ × ℕ) → Option Refusal
scan fault most [] far = None
scan fault most (b ∷ near) far = option_or (scan_row fault most b.0 b.1 far)
    (scan fault most near far)

abbrev pub AboveAll : ℕ → List (ℕ × ℕ) → Type 0
AboveAll id [] = Unit {0}
AboveAll id (b ∷ bs) = (id < b.0) × AboveAll b.0 bs

abbrev pub AreRising : List (ℕ × ℕ) → Type 0
AreRising [] = Unit {0}
AreRising (b ∷ bs) = AboveAll b.0 bs

-- the least inner length of an id, if the id belongs to a border node
abbrev pub border_length : List NodeLeaf → (ℕ → Option ℕ) → ℕ → Option ℕ
border_length nodes len id = if marks (item_at nodes id) then len id else None

-- the border nodes among the items by ascending id, each with its length
pub record IsBorderList (nodes : List NodeLeaf) (len : ℕ → Option ℕ)
    (bs : List (ℕ × ℕ)) : Type 0 where
  pub rising : AreRising bs
  pub all : (b p : ℕ) → Contains bs (b, p) ↔ (border_length nodes len b ≡ Some p)

-- the least lengths of inner walks from an end, without a limit; none of them comes near 2 to the 64th
pub record AreInner (nodes : List NodeLeaf) (from : ℕ) (len : ℕ → Option ℕ) : Type 0 where
  pub least : (v : ℕ) → IsLeast (Leads (inner_ways (item_at nodes)) from v) (len v)
  pub low : (v d : ℕ) → len v ≡ Some d → d < 2 ^ 48

-- the result of a scan of all border nodes that two searches reach, with these lengths
pub record IsScan (fault : PairFault) (most : ℕ) (nodes : List NodeLeaf)
    (near_length far_length : ℕ → Option ℕ) (found : Option Refusal) : Type 0 where
  pub near_borders : List (ℕ × ℕ)
  pub far_borders : List (ℕ × ℕ)
  pub near : IsBorderList nodes near_length near_borders
  pub far : IsBorderList nodes far_length far_borders
  pub finds : scan fault most near_borders far_borders ≡ found
