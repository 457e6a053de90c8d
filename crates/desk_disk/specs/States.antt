-- How a desk's file was opened, and what was found of it then.
use Rattle.std.specs.Prelude.{List, Bool, true, false}
use Rattle.std.specs.declared.option.Option.TheVariants.{None, Some}
use Rattle.road_io.specs.Shelves.{Note}
use Rattle.desk_disk.specs.Looks.{is_seen, is_seen_own}
use Rattle.desk_disk.specs.Systems.{WasOwn, WasSafe}
use Rattle.desk_disk.specs.declared.handle.TheConstants.{DESK}
use Rattle.desk_disk.specs.declared.state.State.{State}
use Rattle.desk_disk.specs.declared.state.State.TheVariants.{Unseen, Absent, Own, Seen}

-- it may be open to others
abbrev pub is_read_only : State → Bool
is_read_only (Own fault) = true
is_read_only _ = false

-- it was found to be safe
abbrev pub is_writable : State → Bool
is_writable (Seen was_readable) = true
is_writable _ = false

-- it was not looked at
abbrev pub is_unseen : State → Bool
is_unseen Unseen = true
is_unseen _ = false

-- it did not exist
abbrev pub is_absent : State → Bool
is_absent Absent = true
is_absent _ = false

-- the last answers about the file are looks that show it as the state says: with no fault told, it is closed to others
abbrev pub is_found : State → List Note → Bool
is_found Unseen answers = true
is_found Absent answers = true
is_found (Own None) answers = is_seen DESK.now answers
is_found (Own (Some fault)) answers = is_seen_own DESK.now answers
is_found (Seen was_readable) answers = is_seen DESK.now answers

-- Nothing is read but from a file that was found, at the look after its opening, to be a regular file and no link, the
-- user's own, with one name. Nothing is written but to one that was also closed to others.
abbrev pub WasFound : State → List Note → Type 0
WasFound Unseen answers = Unit {0}
WasFound Absent answers = Unit {0}
WasFound (Own fault) answers = WasOwn DESK.now answers
WasFound (Seen was_readable) answers = WasSafe DESK.now answers
