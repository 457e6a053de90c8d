-- The mirror in memory.
use Rattle.std.specs.Prelude.{◌≡◌, ℕ, ◌+◌, ◌-◌, ◌^◌, List, [], length, min}
use Rattle.mirror_out.specs.Promises.{puts_before}
use Rattle.mirror_out.specs.declared.mem_mirror.MemMirror.{MemMirror}

-- the octets that it holds
abbrev pub held_in : MemMirror → List ℕ
held_in mirror = mirror.taken.items

-- the puts that it promises
abbrev pub promised_puts : MemMirror → ℕ
promised_puts mirror = puts_before mirror.fails.items mirror.calls

-- the octets that it promises
abbrev pub free_room : MemMirror → ℕ
free_room mirror = mirror.room - length (held_in mirror)

-- a put was counted, and the plan and the room are unchanged
pub record CountsPut (old new : MemMirror) : Type 0 where
  pub counted : new.calls ≡ min (old.calls + 1) (2 ^ 64 - 1)
  pub plan : new.fails.items ≡ old.fails.items
  pub room_is : new.room ≡ old.room

-- it holds nothing, has not been called or handed anything, and has not failed
pub record IsNewMirror (label room : ℕ) (fails : List ℕ) (mirror : MemMirror) : Type 0 where
  pub empty : held_in mirror ≡ []
  pub labelled : mirror.label ≡ label
  pub roomy : mirror.room ≡ room
  pub plan : mirror.fails.items ≡ fails
  pub uncalled : mirror.calls ≡ 0
  pub unhanded : mirror.handed.events ≡ []
  pub faultless : mirror.faults ≡ 0
