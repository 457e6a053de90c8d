-- The keys of a desk and their links are in every image of its disk.
use Rattle.std.proofs.Common.{◌≡◌, ◌⊎◌, inl, inr, ℕ, suc, ◌-◌, ◌<◌, ◌≤◌, List, length, arith, refl, sym, ap, subst, ◌∙◌}
use Rattle.std.specs.declared.option.Option.{Option}
use Rattle.std.specs.declared.result.Result.{Result}
use Rattle.std.specs.declared.result.Result.TheVariants.{Ok, Err}
use Rattle.std.specs.Io.KnownBytes.{Appends}
use Rattle.road_io.specs.declared.disk.Disk.{Ghosts}
use Rattle.road_io.specs.Disk.{Stays}
use Rattle.road_io.specs.Moments.{Image, AtEachMoment}
use Rattle.road_io.specs.Contents.{AppendsFront}
use Rattle.road_io.proofs.MomentLaws.{weaker}
use Rattle.lms_tree.specs.Signatures.{KeyOf}
use Rattle.lms_tree.specs.ChainFiles.{chain_file}
use Rattle.lms_tree.specs.declared.links.Link.{Link}
use Rattle.desk_areas.specs.Layout.{SlotId, slots_of, slots_at, base_of, last_slot, IsSigned}
use Rattle.desk_areas.proofs.Areas.{open_before, open_down, open_link}
use Rattle.key_desk.specs.declared.desk.Desk.{Desk}
use Rattle.key_desk.specs.Desk.{key_of, HasAreas, IsSound, Fits}
use Rattle.key_desk.specs.Links.{links_of}
use Rattle.key_desk.specs.Stands.{SameKeys}
use Rattle.key_desk.proofs.Counts.{key_here}
use Rattle.key_desk.proofs.KeptKeys.{stays_keys}
use Rattle.command_desks.proofs.Disks.{no_moment}
use Rattle.command_files.specs.Endings.{Ending, WhyNot, Writes}
use Rattle.command_files.specs.Reading.{IsOfFiles}
use Rattle.command_files.specs.declared.fault.Fault.{Fault}
use Rattle.command_files.specs.declared.fault.Fault.TheVariants.{Sink, MirrorLost}
use Rattle.command_files.specs.declared.ended.Conclusion.{Conclusion}
use Rattle.command_files.specs.declared.ended.Conclusion.TheVariants.{Done}
use Rattle.owner_commands.proofs.NameLemmas.{held_in, names_on}
use Rattle.owner_commands.specs.Signing.{OnWriting}
use Rattle.owner_commands.specs.StandingKeys.{last_of, next_text, KeysStand, FollowsAnother, IsStandingChain, ChainsWhatItWrites}

-- the link to the key after an area's key is in an image that has a desk's areas
link_stands : (desk : Desk) (i : List ℕ) → HasAreas desk i → (area : ℕ) → area < length desk.earlier → IsSigned i (last_of (key_of desk) area) (next_text (key_of desk) area)
link_stands desk i areas area lt =
    let is_open = open_down i (suc area) (length desk.earlier) lt areas.current.is_open in
    let has = open_link i area is_open in
    let block = areas.keys area (omega (arith, lt)) in
    let slots : slots_at i (base_of i area) ≡ slots_of (key_of desk area).kind = ap (λ (k : ℕ). slots_of k) block.kind in
    let f : ℕ → SlotId = λ n. record { area = area; number = n - 1 } in
    let at : last_slot i area ≡ last_of (key_of desk) area = ap f slots in
    subst (λ (s : SlotId). IsSigned i s (next_text (key_of desk) area)) at
    (record { area = open_before i area is_open; place = has.place; spent = record { gate = has.gate; text_is = areas.linked area lt } })

module _ {D : Type 0} (g : Ghosts D) (desk : Desk) (disk : D) (fits : Fits g desk disk) where
  pub keys_stand : KeysStand g disk (length desk.earlier) (key_of desk)
  keys_stand = record {
    current = λ i now. let areas = fits.areas i now in areas.current;
    held = λ i now area le. held_in desk i fits.sound (fits.areas i now) area le;
    names = names_on g desk disk fits;
    linked = λ i now area lt. link_stands desk i (fits.areas i now) area lt;
  }

  -- the current key, if it follows another key
  pub key_follows : (key : KeyOf) → 0 < length desk.earlier → desk.key ≡ key → FollowsAnother g disk key
  key_follows key some is =
      let there : length desk.earlier ≡ suc (length desk.earlier - 1) = omega (arith, some) in
      record {
        before = length desk.earlier - 1;
        keys = key_of desk;
        stand = subst (λ (n : ℕ). KeysStand g disk n (key_of desk)) there keys_stand;
        is = key_here desk (suc (length desk.earlier - 1)) (sym there) ∙ is;
      }

  -- the desk's chain
  pub chain_stands : (text : List ℕ) (links : List Link) → links ≡ links_of desk → text ≡ chain_file.spell links → IsStandingChain g disk text
  chain_stands text links are spelled = record {
    last = length desk.earlier;
    keys = key_of desk;
    stand = keys_stand;
    spelled = spelled ∙ ap (λ (l : List Link). chain_file.spell l) are;
  }

-- if no call was made to a disk, its keys remain
pub no_keys : {D : Type 0} (g : Ghosts D) (d : D) → AtEachMoment g d d SameKeys
no_keys g d = weaker g d d Stays SameKeys (no_moment g d) (λ x i now is. stays_keys x i is)

-- ---- the octets written

pub on_writing : (o : Result Conclusion Fault) (P : Type 0) → P → OnWriting o P
on_writing (Ok v) P p = p
on_writing (Err Sink) P p = p
on_writing (Err MirrorLost) P p = p
on_writing (Err f) P p = tt

-- work that was not done has written nothing
pub none_written : (DiskFailed : Type 0) (E : Ending) (f : Fault) (P : Type 0) → WhyNot DiskFailed E f → OnWriting (Err f) P
none_written DiskFailed E Sink P h = absurd h
none_written DiskFailed E MirrorLost P h = absurd h
none_written DiskFailed E f P h = tt

-- and nothing is written if a file was not read
pub files_written : (f : Fault) (P : Type 0) → IsOfFiles f → OnWriting (Err f) P
files_written Sink P h = absurd h
files_written MirrorLost P h = absurd h
files_written f P h = tt

-- a chain that was written, or a prefix of it
pub chain_written : {D : Type 0} (g : Ghosts D) (disk : D) (old new : Option (List ℕ)) (k k' : ℕ) (o : Result Conclusion Fault) (text chain : List ℕ) → text ≡ chain → IsStandingChain g disk chain → Writes (Ok Done) text old new k k' o
    → ChainsWhatItWrites g disk old new o
chain_written g disk old new k k' o text chain same stands (inl whole) =
    subst (λ (r : Result Conclusion Fault). ChainsWhatItWrites g disk old new r) (sym whole.0)
    (record { text = text; chain = subst (IsStandingChain g disk) (sym same) stands; written = whole.1 })
chain_written g disk old new k k' o text chain same stands (inr front) =
    subst (λ (r : Result Conclusion Fault). ChainsWhatItWrites g disk old new r) (sym front.0)
    (record { text = text; chain = subst (IsStandingChain g disk) (sym same) stands; written = front.1 })
