-- The definitions of a library's contents, in small cases.
use Rattle.std.proofs.Common.{◌≡◌, [], ◌∷◌, List, true, false, refl}
use Rattle.std.specs.declared.option.Option.TheVariants.{None, Some}
use Rattle.road_io.specs.Shelves.{Note, shelf, opened, read_of, agrees, told, asked_in, failures_in}

-- file "a" has three octets and file "b" has none; "a" occurs a second time, which is ignored
abbrev world : List Note
world = (97 ∷ [], 1 ∷ 2 ∷ 3 ∷ []) ∷ (98 ∷ [], []) ∷ (97 ∷ [], 9 ∷ []) ∷ []

first_entry : shelf world (97 ∷ []) ≡ Some (1 ∷ 2 ∷ 3 ∷ [])
first_entry = refl

empty_file : shelf world (98 ∷ []) ≡ Some []
empty_file = refl

no_file : shelf world (99 ∷ []) ≡ None
no_file = refl

-- file "a" was opened, and read in two pieces up to its end
abbrev whole : List Note
whole = (3 ∷ [], []) ∷ (2 ∷ [], 3 ∷ []) ∷ (2 ∷ [], 1 ∷ 2 ∷ []) ∷ (0 ∷ [], 97 ∷ []) ∷ []

was_opened : opened whole ≡ 97 ∷ []
was_opened = refl

was_read : read_of whole ≡ 1 ∷ 2 ∷ 3 ∷ []
was_read = refl

whole_agrees : agrees (shelf world) whole ≡ true
whole_agrees = refl

-- its end came too early or too late, or another octet was read, or the answer says that it is missing
early : agrees (shelf world) ((3 ∷ [], []) ∷ (2 ∷ [], 1 ∷ 2 ∷ []) ∷ (0 ∷ [], 97 ∷ []) ∷ []) ≡ false
early = refl

late : agrees (shelf world) ((2 ∷ [], 4 ∷ []) ∷ (2 ∷ [], 1 ∷ 2 ∷ 3 ∷ []) ∷ (0 ∷ [], 97 ∷ []) ∷ []) ≡ false
late = refl

other_octet : agrees (shelf world) ((2 ∷ [], 7 ∷ []) ∷ (0 ∷ [], 97 ∷ []) ∷ []) ≡ false
other_octet = refl

said_missing : agrees (shelf world) ((1 ∷ [], 97 ∷ []) ∷ whole) ≡ false
said_missing = refl

-- "c" is missing
is_missing_there : agrees (shelf world) ((1 ∷ [], 99 ∷ []) ∷ whole) ≡ true
is_missing_there = refl

-- from the first answer that disagrees, nothing is stated
untold : told world ((0 ∷ [], 98 ∷ []) ∷ (1 ∷ [], 97 ∷ []) ∷ whole) ≡ None
untold = refl

told_whole : told world whole ≡ Some (shelf world)
told_whole = refl

-- that a name was opened implies nothing about its octets: a folder can be opened too
opened_alone : agrees (shelf world) ((0 ∷ [], 99 ∷ []) ∷ []) ≡ true
opened_alone = refl

-- but no octet and no end can be read from a missing file
read_of_none : agrees (shelf world) ((2 ∷ [], 7 ∷ []) ∷ (0 ∷ [], 99 ∷ []) ∷ []) ≡ false
read_of_none = refl

end_of_none : agrees (shelf world) ((3 ∷ [], []) ∷ (0 ∷ [], 99 ∷ []) ∷ []) ≡ false
end_of_none = refl

-- a refused opening and a closing tell nothing of a file
refused_opening : told world ((4 ∷ 0 ∷ [], 99 ∷ []) ∷ whole) ≡ Some (shelf world)
refused_opening = refl

closed : read_of ((5 ∷ 0 ∷ [], []) ∷ whole) ≡ 1 ∷ 2 ∷ 3 ∷ []
closed = refl

-- each opening asks for its name, whatever the answer; reads and closings ask for none
asked_names : asked_in ((5 ∷ 4 ∷ [], []) ∷ (4 ∷ 0 ∷ [], 98 ∷ []) ∷ (1 ∷ 0 ∷ [], 99 ∷ []) ∷ whole) ≡
    (97 ∷ []) ∷ (99 ∷ []) ∷ (98 ∷ []) ∷ []
asked_names = refl

-- a load that failed is a failure; a file that is missing or too long is none while the answers agree with the files
failed_once : failures_in (shelf world) ((5 ∷ 4 ∷ [], []) ∷ (4 ∷ 0 ∷ [], 98 ∷ []) ∷ (5 ∷ 0 ∷ [], []) ∷ whole) ≡ 1
failed_once = refl

explained : failures_in (shelf world) ((5 ∷ 1 ∷ [], []) ∷ (1 ∷ 0 ∷ [], 99 ∷ []) ∷ (5 ∷ 2 ∷ [], []) ∷ whole) ≡ 0
explained = refl

unexplained : failures_in (shelf world) ((5 ∷ 1 ∷ [], []) ∷ (1 ∷ 0 ∷ [], 97 ∷ []) ∷ whole) ≡ 1
unexplained = refl

no_memory_is_no_failure : failures_in (shelf world) ((5 ∷ 3 ∷ [], []) ∷ (1 ∷ 0 ∷ [], 97 ∷ []) ∷ whole) ≡ 0
no_memory_is_no_failure = refl
