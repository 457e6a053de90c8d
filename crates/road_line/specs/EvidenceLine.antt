-- The lines of an audit's findings.
use Rattle.std.specs.Prelude.{ℕ, List, ◌++◌, codes}
use Rattle.hex.specs.Hex.{encode_lower}

-- a right reply
abbrev pub right_line : List ℕ
right_line = codes "right\n"

-- two texts with the same digest, both in full, in lower-case hex
abbrev pub collision_line : List ℕ → List ℕ → List ℕ
collision_line left right = codes "collision " ++ encode_lower left ++ codes " " ++ encode_lower
    right ++ codes "\n"

-- a header and its signature, in lower-case hex
abbrev pub forged_line : List ℕ → List ℕ → List ℕ
forged_line header signature = codes "forged " ++ encode_lower header ++ codes " " ++ encode_lower
    signature ++ codes "\n"
