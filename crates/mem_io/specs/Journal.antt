-- The meaning of a journal of writes and syncs at each moment.
use Rattle.std.specs.Prelude.{◌≡◌, ◌⊎◌, ℕ, zero, suc, ◌+◌, ◌<◌, ◌≤◌, List, get_or, take, drop, replicate}
use Rattle.mem_io.specs.declared.disk.Entry.{Entry}
use Rattle.mem_io.specs.declared.disk.Entry.TheVariants.{Sync, Write}
use Rattle.road_io.specs.Disk.{written, Torn}

-- the content after one entry; the octets of a write are in the journal's octets
abbrev pub after : Entry → List ℕ → List ℕ → List ℕ
after Sync octets content = content
after (Write p) octets content = written p.at (take p.len (drop p.from octets)) content

-- the content at a moment
abbrev pub content_at : List ℕ → List Entry → List ℕ → ℕ → List ℕ
content_at base entries octets zero = base
content_at base entries octets (suc k) = after (get_or entries k Sync) octets
    (content_at base entries octets k)

-- what a crash just after an entry may leave, given what a crash before it may leave
abbrev pub LeftAfter : Entry → List ℕ → (List ℕ → Type 0) → List ℕ → Type 0
LeftAfter Sync content Before i = i ≡ content
LeftAfter (Write p) content Before i = (i ≡ content) ⊎
    ((d : List ℕ) × Before d × Torn p.at p.len d i)

-- what a crash at a moment may leave
abbrev pub LeftAt : List ℕ → List Entry → List ℕ → ℕ → List ℕ → Type 0
LeftAt base entries octets zero i = i ≡ base
LeftAt base entries octets (suc k) i = LeftAfter (get_or entries k Sync)
    (content_at base entries octets (suc k)) (LeftAt base entries octets k) i

-- the end of an entry's octets
abbrev pub entry_end : Entry → ℕ
entry_end Sync = 0
entry_end (Write p) = p.from + p.len

-- the offset at which a write begins
abbrev pub entry_at : Entry → ℕ
entry_at Sync = 0
entry_at (Write p) = p.at

-- the first value for a sync, the second for a write
abbrev pub by_entry : {X : Type 0} → Entry → X → X → X
by_entry Sync x y = x
by_entry (Write p) x y = y

-- the moment just after the last sync
abbrev pub last_sync : List Entry → ℕ → ℕ
last_sync entries zero = 0
last_sync entries (suc k) = by_entry (get_or entries k Sync) (suc k) (last_sync entries k)

-- the content with one octet at each offset that this entry wrote
abbrev pub filled : ℕ → Entry → List ℕ → List ℕ → List ℕ
filled fill Sync content before = content
filled fill (Write p) content before = written p.at (replicate p.len fill) before

-- the content at a moment, with one octet at each offset that was written since the last sync
abbrev pub filled_at : ℕ → List ℕ → List Entry → List ℕ → ℕ → List ℕ
filled_at fill base entries octets zero = base
filled_at fill base entries octets (suc k) = filled fill (get_or entries k Sync)
    (content_at base entries octets (suc k)) (filled_at fill base entries octets k)

-- an entry has written the octet at an offset
abbrev pub Covers : Entry → ℕ → Type 0
Covers Sync x = ⊥
Covers (Write p) x = (p.at ≤ x) × (x < p.at + p.len)

-- an entry after the last sync and before a moment has written the octet at an offset
pub record Covered (entries : List Entry) (moment x : ℕ) : Type 0 where
  pub entry : ℕ
  pub behind : last_sync entries moment ≤ entry
  pub before : entry < moment
  pub covers : Covers (get_or entries entry Sync) x
