-- A file system as an outside object: its contents at each answer. Others may change anything between two answers,
-- and no clause says in which file system a process runs.
use Rattle.std.specs.Prelude.{◌≡◌, ℕ, zero, suc, List, [], ◌∷◌, length, slice_index, bit_and}
use Rattle.std.specs.declared.option.Option.{Option}
use Rattle.std.specs.declared.option.Option.TheVariants.{Some}
use Rattle.outside.specs.declared.look.Look.{Look}
use Rattle.outside.specs.Looks.{seen_as}
use Rattle.road_io.specs.Shelves.{Note}

-- a file: its identity, which no answer shows, and the facts that a look at it shows
pub record Inode : Type 0 where
  pub identity : ℕ
  pub shown : Look

-- a file system at one moment: the file of each name (links are not followed), the file of the opened handle, and
-- the user of the process
pub record Moment : Type 0 where
  pub named : List ℕ → Option Inode
  pub held : Option Inode
  pub user : ℕ

-- the file system at the first answer, at the second, and so on
abbrev pub System : Type 0
System = ℕ → Moment

-- the record of a look at a file
pub record IsShown (found : Option Inode) (code : ℕ) (numbers : List ℕ) : Type 0 where
  pub file : Inode
  pub is : found ≡ Some file
  pub shows : numbers ≡ seen_as code file.shown

-- an answer is that of the file system at that moment
abbrev pub AnswersAt : Moment → ℕ → Note → Type 0
AnswersAt moment zero answer = slice_index answer.0 1 ≡ moment.user
AnswersAt moment (suc zero) answer = IsShown (moment.named answer.1) 1 answer.0
AnswersAt moment (suc (suc zero)) answer = IsShown moment.held 2 answer.0
AnswersAt moment _ answer = Unit {0}

abbrev pub Answers : System → List Note → Type 0
Answers system [] = Unit {0}
Answers system (answer ∷ before) =
    AnswersAt (system (length before)) (slice_index answer.0 0) answer × Answers system before

-- THE ASSUMPTION, which only the system can guarantee: if a look shows the same device and number for the file
-- under a name and for the file of the handle, they are the same file, since no other file has these while a handle
-- is open.
abbrev pub TellsFilesApart : System → Type 0
TellsFilesApart system = (j k : ℕ) (name : List ℕ) (file held : Inode) →
    (system j).named name ≡ Some file → (system k).held ≡ Some held →
    file.shown.device ≡ held.shown.device → file.shown.inode ≡ held.shown.inode →
    file.identity ≡ held.identity

-- at these two moments, the name was not a link but the name of the handle's own file, which was a regular file of
-- the user, with one name
pub record IsOwnAt (system : System) (name : List ℕ) (told looked seen : ℕ) : Type 0 where
  pub under : Inode
  pub held : Inode
  pub stood : (system looked).named name ≡ Some under
  pub opened : (system seen).held ≡ Some held
  pub no_link : under.shown.kind ≡ 0o10
  pub one : TellsFilesApart system → under.identity ≡ held.identity
  pub regular : held.shown.kind ≡ 0o10
  pub own : held.shown.owner ≡ (system told).user
  pub one_name : held.shown.names ≡ 1

-- such a file, and others could neither read nor write it
pub record IsSafeAt (system : System) (name : List ℕ) (told looked seen : ℕ) : Type 0 where
  pub file : IsOwnAt system name told looked seen
  pub closed : bit_and file.held.shown.mode 0x3f ≡ 0

-- the handle was found to be the user's own at the last three answers, in each file system that gave these answers
abbrev pub WasOwn : List ℕ → List Note → Type 0
WasOwn name answers = (system : System) → Answers system answers → (told : ℕ) ×
    IsOwnAt system name told (suc told) (suc (suc told))

-- and to be safe
abbrev pub WasSafe : List ℕ → List Note → Type 0
WasSafe name answers = (system : System) → Answers system answers → (told : ℕ) ×
    IsSafeAt system name told (suc told) (suc (suc told))
