-- The releases of some runs, evaluated.
use Rattle.std.proofs.Common.{◌≡◌, ◌≢◌, ℕ, List, [], ◌∷◌, map, refl}
use Rattle.std.specs.List.{range_with_len}
use Rattle.std.specs.declared.option.Option.{Option}
use Rattle.std.specs.declared.option.Option.TheVariants.{None, Some}
use Rattle.std.specs.declared.result.Result.TheVariants.{Ok, Err}
use Rattle.road_io.specs.declared.disk.Disk.{Ghosts}
use Rattle.road_io.specs.Contents.{Folder}
use Rattle.book_model.specs.declared.settings.Settings.{Settings}
use Rattle.road_command.specs.Requests.{Publish, Succeed, Links}
use Rattle.command_files.specs.declared.fault.Fault.TheVariants.{Sink, MirrorLost}
use Rattle.command_files.specs.declared.ended.Conclusion.TheVariants.{Done}
use Rattle.owner_commands.specs.Releases.{Release, header_release, link_release}
use Rattle.road_run.specs.Commands.{OnDisk, OnMirrors}
use Rattle.road_run.specs.Lives.{given_by, EachTells, IsLife}

module _ {M : Type 0} (octets : M → Option (List ℕ)) (label handed puts room : M → ℕ) {D : Type 0} (g : Ghosts D) (old new : D) (files : Option Folder) (tb tn : Option (List ℕ)) (before now : List M) where
  -- a publication that was written, or of which a mirror or the sink did not take everything
  publish_gives : (roads : List ℕ) (s : Settings) (d : OnDisk g old new (Publish roads s) files tb tn (Ok Done)) (m : OnMirrors octets label handed puts room g old new (Some (Publish roads s)) tb tn before now (Ok Done))
      → given_by octets label handed puts room g old new (Some (Publish roads s)) files tb tn before now (Ok Done) d m ≡ header_release m.sealed.on_disk.key m.sealed.on_disk.area m.sealed.publication ∷ []
  publish_gives roads s d m = refl

  cut_gives : (roads : List ℕ) (s : Settings) (d : OnDisk g old new (Publish roads s) files tb tn (Err Sink)) (m : OnMirrors octets label handed puts room g old new (Some (Publish roads s)) tb tn before now (Err Sink))
      → given_by octets label handed puts room g old new (Some (Publish roads s)) files tb tn before now (Err Sink) d m ≡ header_release m.sealed.on_disk.key m.sealed.on_disk.area m.sealed.publication ∷ []
  cut_gives roads s d m = refl

  lost_gives : (roads : List ℕ) (s : Settings) (d : OnDisk g old new (Publish roads s) files tb tn (Err MirrorLost)) (m : OnMirrors octets label handed puts room g old new (Some (Publish roads s)) tb tn before now (Err MirrorLost))
      → given_by octets label handed puts room g old new (Some (Publish roads s)) files tb tn before now (Err MirrorLost) d m ≡ header_release m.sealed.on_disk.key m.sealed.on_disk.area m.sealed.publication ∷ []
  lost_gives roads s d m = refl

  -- the link to a new key
  succeed_gives : (secret : List ℕ) (kind : ℕ) (d : OnDisk g old new (Succeed secret kind) files tb tn (Ok Done)) (m : OnMirrors octets label handed puts room g old new (Some (Succeed secret kind)) tb tn before now (Ok Done))
      → given_by octets label handed puts room g old new (Some (Succeed secret kind)) files tb tn before now (Ok Done) d m ≡ link_release d.follows.follows.keys d.follows.follows.before ∷ []
  succeed_gives secret kind d m = refl

  -- the links of a chain, also if the sink took only a prefix of it
  links_give : (d : OnDisk g old new Links files tb tn (Err Sink)) (m : OnMirrors octets label handed puts room g old new (Some Links) tb tn before now (Err Sink))
      → given_by octets label handed puts room g old new (Some Links) files tb tn before now (Err Sink) d m ≡ map (link_release d.1.chain.keys) (range_with_len 0 d.1.chain.last)
  links_give d m = refl

-- ---- a life without any step

module _ {D : Type 0} (g : Ghosts D) (disk : D) where
  -- exists for every disk that states what it reads, and for no other disk
  tells_alone : g.content disk ≢ None → EachTells g disk []
  tells_alone told = told

  untold_alone : g.content disk ≡ None → EachTells g disk [] → ⊥
  untold_alone is told = told is

  -- each disk of a longer life states its contents, the first and the last
  first_tells : (last : D) (given : List Release) → EachTells g disk ((last, given) ∷ []) → g.content disk ≢ None
  first_tells last given told = told.0

  last_tells : (last : D) (given : List Release) → EachTells g disk ((last, given) ∷ []) → g.content last ≢ None
  last_tells last given told = told.1

  both_tell : (last : D) (given : List Release) → g.content disk ≢ None → g.content last ≢ None → EachTells g disk ((last, given) ∷ [])
  both_tell last given one other = (one, other)

module _ {M : Type 0} (octets : M → Option (List ℕ)) (label handed puts room : M → ℕ) {D : Type 0} (g : Ghosts D) (disk : D) where
  -- a disk to which nothing happens has a life, whatever was released before
  stands_still : (before : List Release) → IsLife octets label handed puts room g disk before []
  stands_still before = tt
