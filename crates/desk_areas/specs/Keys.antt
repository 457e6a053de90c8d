-- Keys from secrets.
use Rattle.std.specs.Prelude.{ℕ, List, take, drop}
use Rattle.lms_tree.specs.Signatures.{KeyOf}
use Rattle.desk_areas.specs.Layout.{kind_at, secret_at}

-- the key of a kind made from 48 octets: I, then SEED
abbrev pub key_from : ℕ → List ℕ → KeyOf
key_from kind secret = record { kind = kind; i = take 16 secret; seed = drop 16 secret }

-- the key with its block at a base
abbrev pub key_at : List ℕ → ℕ → KeyOf
key_at image base = key_from (kind_at image base) (secret_at image base)
