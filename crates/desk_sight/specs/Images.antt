-- The octets that a look reads from a disk.
use Rattle.std.specs.Prelude.{ℕ, List, take}

-- the octets of a disk, as far as eight areas can reach
abbrev pub seen_of : List ℕ → List ℕ
seen_of content = take 1049088 content
