-- The keys of the owner's disk, and the links between them, as they are in every image.
use Rattle.std.specs.Prelude.{◌≡◌, ℕ, suc, ◌-◌, ◌<◌, ◌≤◌, List, map, IfSome}
use Rattle.std.specs.List.{range_with_len}
use Rattle.std.specs.declared.option.Option.{Option}
use Rattle.std.specs.declared.result.Result.{Result}
use Rattle.std.specs.declared.result.Result.TheVariants.{Ok}
use Rattle.road_io.specs.declared.disk.Disk.{Ghosts}
use Rattle.road_io.specs.Moments.{EachImage}
use Rattle.road_io.specs.Contents.{Folder}
use Rattle.lms_tree.specs.Signatures.{KeyOf, public_key}
use Rattle.lms_tree.specs.Links.{link_text}
use Rattle.lms_tree.specs.ChainFiles.{chain_file}
use Rattle.lms_tree.specs.declared.links.Link.{Link}
use Rattle.desk_areas.specs.Layout.{SlotId, slots_of, IsCurrent, IsSigned}
use Rattle.desk_areas.specs.Keys.{key_from}
use Rattle.key_desk.specs.Links.{link_of}
use Rattle.key_desk.specs.Stands.{key_in}
use Rattle.command_files.specs.HexFiles.{secret_at}
use Rattle.command_files.specs.declared.fault.Fault.{Fault}
use Rattle.command_files.specs.declared.ended.Conclusion.{Conclusion}
use Rattle.owner_commands.specs.Names.{HasDistinctNames}
use Rattle.owner_commands.specs.Signing.{Wrote, OnWriting}

-- the last slot of an area with a key, which is kept for the link to the next key
abbrev pub last_of : (ℕ → KeyOf) → ℕ → SlotId
last_of keys area = record { area = area; number = slots_of (keys area).kind - 1 }

-- the link text that names the key after an area's key
abbrev pub next_text : (ℕ → KeyOf) → ℕ → List ℕ
next_text keys area = link_text (public_key (keys (suc area)))

-- the link from the key of an area to the next key
abbrev pub link_by : (ℕ → KeyOf) → ℕ → Link
link_by keys area = link_of (keys area) (public_key (keys (suc area)))

-- In every image, these are the keys of the areas up to the last open one. No two of them have the same identifier.
-- The last slot of each area but the last has signed the link text of the next key.
pub record KeysStand {D : Type 0} (g : Ghosts D) (disk : D) (last : ℕ)
    (keys : ℕ → KeyOf) : Type 0 where
  pub current : EachImage g disk (λ i. IsCurrent i last)
  pub held : EachImage g disk (λ i. (area : ℕ) → area ≤ last → key_in i area ≡ keys area)
  pub names : EachImage g disk HasDistinctNames
  pub linked : EachImage g disk (λ i. (area : ℕ) → area < last →
      IsSigned i (last_of keys area) (next_text keys area))

-- ---- a new key

-- a key follows another key, which has signed its link text
pub record FollowsAnother {D : Type 0} (g : Ghosts D) (disk : D) (key : KeyOf) : Type 0 where
  pub before : ℕ
  pub keys : ℕ → KeyOf
  pub stand : KeysStand g disk (suc before) keys
  pub is : keys (suc before) ≡ key

-- it follows another, and is the key of the file's secret
pub record FollowsByFile {D : Type 0} (g : Ghosts D) (disk : D) (files : Option Folder)
    (name : List ℕ) (kind : ℕ) : Type 0 where
  pub secret : List ℕ
  pub of_file : IfSome files (λ folder. secret_at folder name ≡ Ok secret)
  pub follows : FollowsAnother g disk (key_from kind secret)

-- ---- a written chain

-- the text is the chain file of keys on the disk
pub record IsStandingChain {D : Type 0} (g : Ghosts D) (disk : D) (text : List ℕ) : Type 0 where
  pub last : ℕ
  pub keys : ℕ → KeyOf
  pub stand : KeysStand g disk last keys
  pub spelled : text ≡ chain_file.spell (map (link_by keys) (range_with_len 0 last))

-- the octets written belong to such a text
pub record WroteChain {D : Type 0} (g : Ghosts D) (disk : D)
    (taken_before taken_now : Option (List ℕ)) (outcome : Result Conclusion Fault) : Type 0 where
  pub text : List ℕ
  pub chain : IsStandingChain g disk text
  pub written : Wrote outcome taken_before taken_now text

-- the same if something may have been written
abbrev pub ChainsWhatItWrites : {D : Type 0} → Ghosts D → D → Option (List ℕ) → Option (List ℕ) →
    Result Conclusion Fault → Type 0
ChainsWhatItWrites g disk taken_before taken_now outcome = OnWriting outcome
    (WroteChain g disk taken_before taken_now outcome)
