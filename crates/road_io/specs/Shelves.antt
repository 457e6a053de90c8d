-- The contents of a library of which only the system's answers are known, in a world: a list of files by name, in
-- which the first file of each name counts. No clause says in which world a library is. Once an answer disagrees
-- with the world, the library states nothing.
use Rattle.std.specs.Prelude.{ℕ, ◌+◌, zero, suc, List, [], ◌∷◌, ◌++◌, Bool, true, false, ◌&&◌, length, take, find, slice_index, if◌then◌else◌}
use Rattle.std.specs.Str.{bytes_eq}
use Rattle.std.specs.Option.{option_map}
use Rattle.std.specs.declared.option.Option.{Option}
use Rattle.std.specs.declared.option.Option.TheVariants.{None, Some}
use Rattle.road_io.specs.Contents.{Folder}

-- numbers and octets, as recorded
abbrev pub Note : Type 0
Note = List ℕ × List ℕ

-- the files of a world
abbrev pub shelf : List Note → Folder
shelf world name = option_map (λ file. file.1) (find (λ file. bytes_eq file.0 name) world)

-- ---- the answers of the system, the latest first: a file was opened (0), is missing (1) or is refused for another
-- reason (4), with its name; octets were read from it (2); it ended (3); or it was closed (5), with what became of it

-- the name that was opened last
abbrev pub opened_by : ℕ → List ℕ → List ℕ → List ℕ
opened_by zero name last = name
opened_by (suc zero) name last = name
opened_by (suc (suc (suc (suc zero)))) name last = name
opened_by _ octets last = last

abbrev pub opened : List Note → List ℕ
opened [] = []
opened (answer ∷ before) = opened_by (slice_index answer.0 0) answer.1 (opened before)

-- the octets read since then
abbrev pub read_by : ℕ → List ℕ → List ℕ → List ℕ
read_by zero name octets = []
read_by (suc zero) name octets = []
read_by (suc (suc (suc (suc zero)))) name octets = []
read_by _ piece octets = octets ++ piece

abbrev pub read_of : List Note → List ℕ
read_of [] = []
read_of (answer ∷ before) = read_by (slice_index answer.0 0) answer.1 (read_of before)

-- a file begins with these octets
abbrev pub begins : Option (List ℕ) → List ℕ → Bool
begins None octets = false
begins (Some file) octets = bytes_eq (take (length octets) file) octets

-- a file has these octets
abbrev pub has : Option (List ℕ) → List ℕ → Bool
has None octets = false
has (Some file) octets = bytes_eq file octets

abbrev pub is_missing : Option (List ℕ) → Bool
is_missing None = true
is_missing (Some file) = false

-- an answer agrees with the file that was opened last, from which these octets were read before
abbrev pub answer_agrees : ℕ → Option (List ℕ) → List ℕ → Bool
answer_agrees zero file octets = true
answer_agrees (suc zero) file octets = is_missing file
answer_agrees (suc (suc zero)) file octets = begins file octets
answer_agrees (suc (suc (suc zero))) file octets = has file octets
answer_agrees _ file octets = true

-- all answers agree with the files
abbrev pub agrees : Folder → List Note → Bool
agrees folder [] = true
agrees folder (answer ∷ before) =
    answer_agrees (slice_index answer.0 0) (folder (opened (answer ∷ before)))
    (read_of (answer ∷ before)) && agrees folder before

-- the files of a world, as long as each answer agrees with them
abbrev pub told : List Note → List Note → Option Folder
told world history = if agrees (shelf world) history then Some (shelf world) else None

-- the names that were requested, the earliest first
abbrev pub asked_for : List Note → List (List ℕ)
asked_for [] = []
asked_for (asked ∷ names) = asked_for names ++ asked.1 ∷ []

-- the names that the system was asked to open, the earliest first
abbrev pub asked_by : ℕ → List ℕ → List (List ℕ) → List (List ℕ)
asked_by zero name names = names ++ name ∷ []
asked_by (suc zero) name names = names ++ name ∷ []
asked_by (suc (suc (suc (suc zero)))) name names = names ++ name ∷ []
asked_by _ octets names = names

abbrev pub asked_in : List Note → List (List ℕ)
asked_in [] = []
asked_in (answer ∷ before) = asked_by (slice_index answer.0 0) answer.1 (asked_in before)

-- ---- the failures that the files do not explain: a load that failed, and one whose file was missing or too long although
-- an answer before disagrees with the files

-- by what became of a file: 0 whole, 1 missing, 2 too long, 3 no memory for it, 4 failed
abbrev pub failures_by : ℕ → Bool → ℕ
failures_by (suc zero) false = 1
failures_by (suc (suc zero)) false = 1
failures_by (suc (suc (suc (suc zero)))) agree = 1
failures_by _ agree = 0

abbrev pub failures_at : ℕ → ℕ → Bool → ℕ
failures_at (suc (suc (suc (suc (suc zero))))) became agree = failures_by became agree
failures_at _ became agree = 0

abbrev pub failures_in : Folder → List Note → ℕ
failures_in folder [] = 0
failures_in folder (answer ∷ before) =
    failures_at (slice_index answer.0 0) (slice_index answer.0 1) (agrees folder before) + failures_in folder before
