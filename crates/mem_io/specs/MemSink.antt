-- The sink in memory.
use Rattle.std.specs.Prelude.{◌≡◌, ℕ, ◌+◌, ◌-◌, ◌^◌, ◌≤◌, List, [], length, min, Contains}
use Rattle.mem_io.specs.declared.sink.MemSink.{MemSink}

-- the octets taken
abbrev pub taken_of : MemSink → List ℕ
taken_of sink = sink.taken.items

-- the next write, of this many octets, is not planned to fail, and its piece fits the room
pub record CanTake (sink : MemSink) (count : ℕ) : Type 0 where
  pub unplanned : ¬ Contains sink.fails.items sink.calls
  pub room : length (taken_of sink) + min count sink.piece ≤ sink.room

-- a write was counted, and the plan, the room and the piece are unchanged
pub record CountsWrite (old new : MemSink) : Type 0 where
  pub counted : new.calls ≡ min (old.calls + 1) (2 ^ 64 - 1)
  pub plan : new.fails.items ≡ old.fails.items
  pub room_is : new.room ≡ old.room
  pub piece_is : new.piece ≡ old.piece

-- it has taken nothing, has not been called and has not failed
pub record IsNewSink (room piece : ℕ) (fails : List ℕ) (sink : MemSink) : Type 0 where
  pub empty : taken_of sink ≡ []
  pub roomy : sink.room ≡ room
  pub pieces : sink.piece ≡ piece
  pub plan : sink.fails.items ≡ fails
  pub uncalled : sink.calls ≡ 0
  pub faultless : sink.faults ≡ 0
