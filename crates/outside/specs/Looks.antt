-- A look at a file, as it is noted.
use Rattle.std.specs.Prelude.{ℕ, List, [], ◌∷◌}
use Rattle.outside.specs.declared.look.Look.{Look}

-- under a code: the kind of the file (the highest bits of C's `st_mode`), its owner, the number of its names, its mode, its device
-- and its number on the device
abbrev pub seen_as : ℕ → Look → List ℕ
seen_as code look = code ∷ look.kind ∷ look.owner ∷ look.names ∷ look.mode ∷ look.device ∷ look.inode ∷ []
