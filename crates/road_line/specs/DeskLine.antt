-- The line of an owner's desk.
use Rattle.std.specs.Prelude.{ℕ, List, ◌++◌, codes}
use Rattle.std.specs.Fmt.{decimal}
use Rattle.hex.specs.Hex.{encode_lower}

-- a public key in lower-case hex, a space, the number of remaining one-time keys, a space, their total
-- number, and a line end
abbrev pub desk_line : List ℕ → ℕ → ℕ → List ℕ
desk_line public left size = encode_lower public ++ codes " " ++ decimal left ++ codes " " ++
    decimal size ++ codes "\n"
