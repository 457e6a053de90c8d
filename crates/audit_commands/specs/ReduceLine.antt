-- The lines of reduced forgeries.
use Rattle.std.specs.Prelude.{ℕ, List, ◌++◌, codes}
use Rattle.std.specs.Fmt.{decimal}
use Rattle.hex.specs.Hex.{encode_lower}
use Rattle.road_line.specs.EvidenceLine.{collision_line}
use Rattle.lms_reduce.specs.declared.reduced.Reduced.{Reduced}
use Rattle.lms_reduce.specs.declared.reduced.Reduced.TheVariants.{Collision, Chain}

-- a slot's number, the number of one of its chains, a step, and the value of the chain at this step in lower-case
-- hex
abbrev pub chain_line : ℕ → ℕ → ℕ → List ℕ → List ℕ
chain_line slot at step value = codes "chain " ++ decimal slot ++ codes " " ++ decimal at ++
    codes " " ++ decimal step ++ codes " " ++ encode_lower value ++ codes "\n"

-- the slot that has signed the same text
abbrev pub signed_line : ℕ → List ℕ
signed_line slot = codes "signed " ++ decimal slot ++ codes "\n"

abbrev pub reduced_line : Reduced → List ℕ
reduced_line (Collision left right) = collision_line left right
reduced_line (Chain slot at step value) = chain_line slot at step value
