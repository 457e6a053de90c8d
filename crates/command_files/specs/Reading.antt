-- Files and their meaning: a value, or the first fault.
use Rattle.std.specs.Prelude.{◌≡◌, ◌≢◌, ◌≤◌, ℕ, nat_lt, List, [], length, IfSome, IfNone, IfErr, OnOk, if◌then◌else◌}
use Rattle.std.specs.declared.option.Option.{Option}
use Rattle.std.specs.declared.option.Option.TheVariants.{None, Some}
use Rattle.std.specs.declared.result.Result.{Result}
use Rattle.std.specs.declared.result.Result.TheVariants.{Ok, Err}
use Rattle.road_io.specs.Causes.{Rose}
use Rattle.road_io.specs.Contents.{Folder}
use Rattle.octet_text.specs.Format.{Format, whole}
use Rattle.lms_tree.specs.declared.links.Link.{Link}
use Rattle.lms_tree.specs.ChainFiles.{chain_file}
use Rattle.proof_octets.specs.declared.publication.Publication.{Publication}
use Rattle.proof_octets.specs.Publications.{publication}
use Rattle.road_map.specs.Maps.{IsMap, Charted, Fault as FaultOf}
use Rattle.road_map.specs.declared.parts.Parts.{Parts}
use Rattle.road_map.specs.declared.error.MapError.{MapError}
use Rattle.road_map.specs.declared.error.MapError.TheVariants as map_errors
use Rattle.road_reader.specs.RoadText.{roads_of}
use Rattle.road_reader.specs.declared.error.RoadError.{RoadError}
use Rattle.command_files.specs.Spared.{SparesLibrary}
use Rattle.command_files.specs.declared.fault.Fault.{Fault}
use Rattle.command_files.specs.declared.fault.Fault.TheVariants.{Missing, TooLong, Road, Dimacs, Map, Malformed, BadHex, Library, Memory}
use Rattle.octet_text.specs.Want.{no_memory}

-- ---- the contents of files

-- the octets of a file
abbrev pub octets_in : Option (List ℕ) → Result (List ℕ) Fault
octets_in None = Err Missing
octets_in (Some octets) = if nat_lt 268435456 (length octets) then Err TooLong else Ok octets

-- the octets of the file with this name
abbrev pub octets_at : Folder → List ℕ → Result (List ℕ) Fault
octets_at folder name = octets_in (folder name)

abbrev pub as_parts : Result Parts RoadError → Result Parts Fault
as_parts (Ok parts) = Ok parts
as_parts (Err fault) = Err (Road fault)

abbrev pub parts_in : Result (List ℕ) Fault → Result Parts Fault
parts_in (Ok text) = as_parts (roads_of text)
parts_in (Err fault) = Err fault

-- the parts in the road file with this name
abbrev pub parts_at : Folder → List ℕ → Result Parts Fault
parts_at folder name = parts_in (octets_at folder name)

-- the value that octets encode, or the offset of the first field that cannot be read
abbrev pub as_spelled : {X : Type 0} → Result X ℕ → Result X Fault
as_spelled (Ok x) = Ok x
as_spelled (Err at) = Err (Malformed at)

abbrev pub spelled_in : {X : Type 0} → Format X → Result (List ℕ) Fault → Result X Fault
spelled_in format (Ok text) = as_spelled (whole format text)
spelled_in format (Err fault) = Err fault

-- the publication in the file with this name
abbrev pub publication_at : Folder → List ℕ → Result Publication Fault
publication_at folder name = spelled_in publication (octets_at folder name)

-- the links of the chain file with this name; there are none if no name is given
abbrev pub chain_at : Folder → Option (List ℕ) → Result (List Link) Fault
chain_at folder None = Ok []
chain_at folder (Some name) = spelled_in chain_file (octets_at folder name)

-- the first reason why parts are not a map
abbrev pub IsMapFault : Parts → MapError → Type 0
IsMapFault parts fault = FaultOf parts fault × (fault ≢ map_errors.Memory no_memory)

-- ---- the results of functions

-- a function failed with this fault, unless memory ran out or the library failed
abbrev pub Fails : {Y : Type 0} → Fault → Result Y Fault → Type 0
Fails (Memory _) read = Unit {0}
Fails Library read = Unit {0}
Fails fault read = read ≡ Err fault

-- the value of a function, converted by view, is the result of reading, unless memory ran out or the library failed
abbrev pub Gives : {X Y : Type 0} → (X → Y) → Result X Fault → Result Y Fault → Type 0
Gives view (Ok x) read = read ≡ Ok (view x)
Gives view (Err fault) read = Fails fault read

-- a function that should make a map failed with this fault of the file or of its parts
abbrev pub FailsMap : Fault → Result Parts Fault → Type 0
FailsMap (Memory _) read = Unit {0}
FailsMap Library read = Unit {0}
FailsMap (Map fault) read = (parts : Parts) × (read ≡ Ok parts) × IsMapFault parts fault
FailsMap fault read = read ≡ Err fault

-- the value of a function is the map of the parts that were read
abbrev pub GivesMap : Result Charted Fault → Result Parts Fault → Type 0
GivesMap (Ok map) read = (read ≡ Ok map.parts) × IsMap map.parts
GivesMap (Err fault) read = FailsMap fault read

-- the faults of loading and reading files
abbrev pub IsOfFiles : Fault → Type 0
IsOfFiles Missing = Unit {0}
IsOfFiles TooLong = Unit {0}
IsOfFiles (Road fault) = Unit {0}
IsOfFiles (Dimacs fault) = Unit {0}
IsOfFiles (Malformed at) = Unit {0}
IsOfFiles BadHex = Unit {0}
IsOfFiles Library = Unit {0}
IsOfFiles (Memory _) = Unit {0}
IsOfFiles fault = ⊥

-- the same, and the faults of maps
abbrev pub IsOfMaps : Fault → Type 0
IsOfMaps (Map fault) = Unit {0}
IsOfMaps fault = IsOfFiles fault

-- the guarantees of a function that loads a file and reads it
pub record Loads {X Y : Type 0} (view : X → Y) (meaning : Folder → Result Y Fault)
    (files : Option Folder) (before now : ℕ) (result : Result X Fault) : Type 0 where
  pub read : IfSome files (λ folder. Gives view result (meaning folder))
  pub missing : IfNone files (result ≡ Err Missing → Rose before now)
  pub too_long : IfNone files (result ≡ Err TooLong → Rose before now)
  pub library : result ≡ Err Library → Rose before now
  pub kept : OnOk result (now ≡ before)
  pub spared : SparesLibrary result before now
  pub others : IfErr result IsOfFiles
  pub later : before ≤ now

-- the guarantees of a function that loads a road file and makes its map
pub record LoadsMap (meaning : Folder → Result Parts Fault) (files : Option Folder) (before now : ℕ)
    (result : Result Charted Fault) : Type 0 where
  pub read : IfSome files (λ folder. GivesMap result (meaning folder))
  pub missing : IfNone files (result ≡ Err Missing → Rose before now)
  pub too_long : IfNone files (result ≡ Err TooLong → Rose before now)
  pub library : result ≡ Err Library → Rose before now
  pub kept : OnOk result (now ≡ before)
  pub spared : SparesLibrary result before now
  pub others : IfErr result IsOfMaps
