-- What a file system answered about a desk's file, the latest answer first, and when the file was found to be safe.
use Rattle.std.specs.Prelude.{ℕ, List, [], ◌∷◌, ◌==◌, ◌&&◌, ◌||◌, not, Bool, true, false, slice_index, bit_and}
use Rattle.std.specs.declared.option.Option.{Option}
use Rattle.std.specs.declared.option.Option.TheVariants.{None, Some}
use Rattle.std.specs.Str.{bytes_eq}
use Rattle.outside.specs.declared.look.Look.{Look}
use Rattle.road_io.specs.Shelves.{Note}
use Rattle.desk_disk.specs.declared.unsafe_desk.Unsafe.{Unsafe}
use Rattle.desk_disk.specs.declared.unsafe_desk.Unsafe.TheVariants as faults

abbrev pub part : ℕ → Note → ℕ
part k note = slice_index note.0 k

-- ---- one look

-- a regular file (by the highest bits of C's `st_mode`), of this user, with one name
abbrev pub is_own : ℕ → Look → Bool
is_own user look = look.kind == 0o10 && look.owner == user && look.names == 1

-- such a file, and others may neither read nor write it
abbrev pub is_closed : Look → Bool
is_closed look = bit_and look.mode 0x3f == 0

-- such a file, and others may at most read it
abbrev pub is_unwritable : Look → Bool
is_unwritable look = bit_and look.mode 0x12 == 0

-- such a file, whatever others may do with it, if the system reports the user
abbrev pub is_users : Option ℕ → Look → Bool
is_users None look = false
is_users (Some user) look = is_own user look

-- the file belongs to the user and is closed to others, if the system reports the user
abbrev pub is_safe : Option ℕ → Look → Bool
is_safe None look = false
is_safe (Some user) look = is_own user look && is_closed look

abbrev pub is_safe_but_read : Option ℕ → Look → Bool
is_safe_but_read None look = false
is_safe_but_read (Some user) look = is_own user look && is_unwritable look

-- the name is not a link; it is the name of the handle's file
abbrev pub is_under : Look → Look → Bool
is_under named held = named.kind == 0o10 && named.device == held.device && named.inode == held.inode

-- at most the mode of the file is at fault: others may read or write it
abbrev pub is_of_mode : Option Unsafe → Bool
is_of_mode None = true
is_of_mode (Some faults.Mode) = true
is_of_mode (Some faults.Readable) = true
is_of_mode (Some fault) = false

-- ---- the recorded answers: 0 the user of the process, 1 a look at the file of a name, without following a link, 2
-- a look at the file of the handle, 3 that others were denied access to that file, through the handle

-- a look as it is recorded
abbrev pub shown : Note → Look
shown note = record {
  kind = part 1 note;
  owner = part 2 note;
  names = part 3 note;
  mode = part 4 note;
  device = part 5 note;
  inode = part 6 note;
}

-- the last three answers are the user, a look at this name, and one at the handle
abbrev pub are_looks : List ℕ → Note → Note → Note → Bool
are_looks name user named held = part 0 user == 0 && part 0 named == 1 && part 0 held == 2 &&
    bytes_eq named.1 name

-- these looks show a regular file and no link, of the user, with one name
abbrev pub is_seen_own : List ℕ → List Note → Bool
is_seen_own name (held ∷ named ∷ user ∷ before) = are_looks name user named held &&
    is_under (shown named) (shown held) && is_own (part 1 user) (shown held)
is_seen_own name answers = false

-- these looks show such a file, and it is closed to others
abbrev pub is_seen : List ℕ → List Note → Bool
is_seen name [] = false
is_seen name (held ∷ before) = is_seen_own name (held ∷ before) && is_closed (shown held)

-- these looks show such a file, and others may at most read it
abbrev pub is_seen_readable : List ℕ → List Note → Bool
is_seen_readable name [] = false
is_seen_readable name (held ∷ before) =
    is_seen_own name (held ∷ before) && is_unwritable (shown held)

-- others were denied access to a file only directly after looks which show that it is safe except that others may
-- read it
abbrev pub shuts_well : List ℕ → List Note → Bool
shuts_well name [] = true
shuts_well name (answer ∷ before) = (not (part 0 answer == 3) || is_seen_readable name before) &&
    shuts_well name before
