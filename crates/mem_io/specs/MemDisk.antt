-- The disk in memory.
use Rattle.std.specs.Prelude.{◌≡◌, ℕ, ◌+◌, ◌-◌, ◌*◌, ◌^◌, ◌<◌, ◌≤◌, min, [], List, length, get_or, Contains, IfSome}
use Rattle.mem_io.specs.Journal.{Covered, LeftAt}
use Rattle.mem_io.specs.declared.disk.MemDisk.{MemDisk}

-- the content that it reads
abbrev pub disk_content : MemDisk → List ℕ
disk_content disk = disk.content.items

-- the content that was last synced
abbrev pub disk_synced : MemDisk → List ℕ
disk_synced disk = disk.synced.items

-- the number of moments so far: one for each entry of the journal
abbrev pub disk_clock : MemDisk → ℕ
disk_clock disk = length disk.entries.items

-- what a crash at a moment may leave
abbrev pub disk_image_at : MemDisk → ℕ → List ℕ → Type 0
disk_image_at disk k i = LeftAt disk.base.items disk.entries.items disk.octets.items k i

-- what a crash now may leave
abbrev pub MayBeLeft : MemDisk → List ℕ → Type 0
MayBeLeft disk i = disk_image_at disk (disk_clock disk) i

-- the octet at an offset was written since the last sync
abbrev pub IsUnsynced : MemDisk → ℕ → Type 0
IsUnsynced disk x = Covered disk.entries.items (length disk.entries.items) x

-- the content, with one octet at each offset that was written since the last sync
pub record FillsUnsynced (octet : ℕ) (disk : MemDisk) (image : List ℕ) : Type 0 where
  pub long : length image ≡ length (disk_content disk)
  pub filled : (x : ℕ) → IsUnsynced disk x → get_or image x 0 ≡ octet
  pub others : (x : ℕ) → ¬ IsUnsynced disk x → get_or image x 0 ≡ get_or (disk_content disk) x 0

-- the used part of the journal's room: 16 for each entry, plus the octets that were written
abbrev pub journal_taken : MemDisk → ℕ
journal_taken disk = 16 * length disk.entries.items + length disk.octets.items

-- the next call is not planned to fail and is before the stop
pub record CanCall (disk : MemDisk) : Type 0 where
  pub unplanned : ¬ Contains disk.fails.items disk.calls
  pub going : IfSome disk.stop (λ number. disk.calls < number)

-- the next call may be a sync
pub record CanSync (disk : MemDisk) : Type 0 where
  pub can_call : CanCall disk
  pub journal_room : journal_taken disk + 16 ≤ disk.journal

-- the next call may be a write of this many octets at an offset
pub record CanWrite (disk : MemDisk) (at count : ℕ) : Type 0 where
  pub can_call : CanCall disk
  pub disk_room : at + count ≤ disk.room
  pub journal_room : journal_taken disk + 16 + count ≤ disk.journal

-- a call was counted, and the plan is unchanged
pub record Counts (old new : MemDisk) : Type 0 where
  pub counted : new.calls ≡ min (old.calls + 1) (2 ^ 64 - 1)
  pub plan : new.fails.items ≡ old.fails.items
  pub stop_is : new.stop ≡ old.stop
  pub room_is : new.room ≡ old.room
  pub journal_is : new.journal ≡ old.journal

-- nothing is pending, no call has been counted, and none has failed; this is the disk's room and its journal's
pub record IsNewDisk (room journal : ℕ) (disk : MemDisk) : Type 0 where
  pub base_is : disk.base.items ≡ disk_content disk
  pub no_entries : disk.entries.items ≡ []
  pub uncalled : disk.calls ≡ 0
  pub faultless : disk.faults ≡ 0
  pub room_is : disk.room ≡ room
  pub journal_is : disk.journal ≡ journal
