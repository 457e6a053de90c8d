-- The source in memory.
use Rattle.std.specs.Prelude.{◌≡◌, ◌+◌, ◌-◌, ◌^◌, ℕ, List, min, take, drop, Contains}
use Rattle.mem_io.specs.declared.source.MemSource.{MemSource}

-- the octets that are left
abbrev pub left_of : MemSource → List ℕ
left_of source = drop source.at source.octets.items

-- the octets that it has given
abbrev pub given_by : MemSource → List ℕ
given_by source = take source.at source.octets.items

-- the next read is planned to fail
abbrev pub IsPlannedRead : MemSource → Type 0
IsPlannedRead source = Contains source.fails.items source.calls

-- a read was counted, and the plan and the piece are unchanged
pub record CountsRead (old new : MemSource) : Type 0 where
  pub counted : new.calls ≡ min (old.calls + 1) (2 ^ 64 - 1)
  pub plan : new.fails.items ≡ old.fails.items
  pub piece_is : new.piece ≡ old.piece

-- all its octets are left, and it has not been called and has not failed
pub record IsNewSource (octets : List ℕ) (piece : ℕ) (fails : List ℕ)
    (source : MemSource) : Type 0 where
  pub whole : left_of source ≡ octets
  pub pieces : source.piece ≡ piece
  pub plan : source.fails.items ≡ fails
  pub uncalled : source.calls ≡ 0
  pub faultless : source.faults ≡ 0
