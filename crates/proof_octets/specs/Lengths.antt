-- The length of a node leaf's text.
use Rattle.std.specs.Prelude.{ℕ, ◌+◌, ◌*◌, length}
use Rattle.road_leaf.specs.declared.leaf.Extra.{Extra}
use Rattle.road_leaf.specs.declared.leaf.Extra.TheVariants.{Plain, Own, Near, Cell}

-- the number of octets that the kind adds: for codes, a tag and either the codes or another node's id and an error;
-- for cells, a cell and a border mark
abbrev pub added_length : Extra → ℕ
added_length Plain = 0
added_length (Own codes) = 1 + 2 * length codes
added_length (Near reference error) = 7
added_length (Cell cell border) = 5
