-- The mirrors that `publish` lost: each was handed one piece more after those that it took, and failed at it.
use Rattle.std.specs.Prelude.{◌≡◌, ℕ, List}
use Rattle.std.specs.declared.option.Option.{Option}
use Rattle.std.specs.declared.result.Result.{Result}
use Rattle.std.specs.declared.result.Result.TheVariants.{Ok, Err}
use Rattle.road_io.specs.declared.disk.Disk.{Ghosts}
use Rattle.mirror_out.specs.Gone.{Adds}
use Rattle.publication_out.specs.Sent.{PartsFront, PartsWhole}
use Rattle.proof_octets.specs.declared.publication.Publication.{Publication}
use Rattle.proof_octets.specs.Publications.{publication_text}
use Rattle.owner_commands.specs.Signing.{OnNoWriting, OnWriting, StandsOnDisk, Wrote}
use Rattle.command_files.specs.declared.fault.Fault.{Fault}
use Rattle.command_files.specs.declared.fault.Fault.TheVariants.{MirrorLost}
use Rattle.command_files.specs.declared.ended.Conclusion.{Conclusion}

-- M is a mirror; octets, label, handed, puts, room and faults give its contents, its label, the number of pieces it
-- was handed, its promises, and the number of its failures
module _ {M : Type 0} (octets : M → Option (List ℕ)) (label handed puts room faults : M → ℕ) where
  -- Each mirror took the whole text and stays, or is one of those that are gone, which took fewer pieces of it. If the
  -- sink failed, this holds of the pieces that were handed out.
  abbrev pub PartsBy : Result Conclusion Fault → List ℕ → Option (List ℕ) → Option (List ℕ) →
      List M → List M → List M → Type 0
  PartsBy (Ok verdict) text before now old kept gone =
      PartsWhole octets label handed puts room faults text old kept gone
  PartsBy (Err MirrorLost) text before now old kept gone =
      PartsWhole octets label handed puts room faults text old kept gone
  PartsBy outcome text before now old kept gone =
      PartsFront octets label handed puts room faults text before now old kept gone

  -- The octets that the sink and the mirrors took belong to one publication, whose header is on the disk. The mirrors
  -- that do not stay were appended to those that were gone.
  pub record PartsSealed {D : Type 0} (g : Ghosts D) (before now : D)
      (taken_before taken_now : Option (List ℕ)) (old kept gone_before gone_now : List M)
      (outcome : Result Conclusion Fault) : Type 0 where
    pub publication : Publication
    pub on_disk : StandsOnDisk g before now publication
    pub written : Wrote outcome taken_before taken_now (publication_text publication)
    pub parted : Adds gone_before gone_now
        (PartsBy outcome (publication_text publication) taken_before taken_now old kept)

  -- the same if something may have been written; else no further mirror is gone
  pub record LosesWhatFails {D : Type 0} (g : Ghosts D) (before now : D)
      (taken_before taken_now : Option (List ℕ)) (old kept gone_before gone_now : List M)
      (outcome : Result Conclusion Fault) : Type 0 where
    pub sealed : OnWriting outcome
        (PartsSealed g before now taken_before taken_now old kept gone_before gone_now outcome)
    pub still : OnNoWriting outcome (gone_now ≡ gone_before)
