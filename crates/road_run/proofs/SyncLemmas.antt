-- Nothing is written before the slot is synced.
use Rattle.std.proofs.Common.{◌≡◌, ◌⊎◌, ℕ, List, refl, inl, inr}
use Rattle.std.specs.declared.option.Option.{Option}
use Rattle.std.specs.declared.option.Option.TheVariants.{None, Some}
use Rattle.std.specs.declared.result.Result.{Result}
use Rattle.std.specs.declared.result.Result.TheVariants.{Ok, Err}
use Rattle.std.specs.Io.KnownBytes.{Keeps}
use Rattle.road_io.specs.declared.disk.Disk.{Ghosts}
use Rattle.road_io.specs.Contents.{Folder}
use Rattle.road_command.specs.Requests.{Request, Publish}
use Rattle.command_files.specs.Endings.{IsSilent}
use Rattle.command_files.specs.declared.fault.Fault.{Fault}
use Rattle.command_files.specs.declared.fault.Fault.TheVariants.{Sink, MirrorLost}
use Rattle.command_files.specs.declared.ended.Conclusion.{Conclusion}
use Rattle.owner_commands.specs.Publishing.{TellsLost}
use Rattle.owner_commands.specs.Signing.{SealsWhatItMirrors, SpreadSealed}
use Rattle.road_run.specs.Commands.{OnMirrors, RunPromises, WritesBehindSync}

module _ {M : Type 0} (octets : M → Option (List ℕ)) (label handed puts room : M → ℕ) {D : Type 0} (g : Ghosts D) (old new : D) (taken_before taken_now : Option (List ℕ)) (before now : List M) where
  -- by how the run ended
  behind_sync : (o : Result Conclusion Fault) → IsSilent TellsLost taken_before taken_now o → SealsWhatItMirrors octets label handed puts room g old new taken_before taken_now before now o
      → (Keeps taken_before taken_now × (now ≡ before)) ⊎ SpreadSealed octets label handed puts room g old new taken_before taken_now before now o
  behind_sync (Ok verdict) silent m = inr m.sealed
  behind_sync (Err Sink) silent m = inr m.sealed
  behind_sync (Err MirrorLost) silent m = inr m.sealed
  behind_sync (Err f) silent m = inl (silent f refl (λ e. absurd (cc)) (λ t. t), m.still)

  -- by the command that the arguments request
  pub synced_run : (asked : Option Request) (files : Option Folder) (l l' k k' : ℕ) (o : Result Conclusion Fault) → RunPromises g old new asked files l l' taken_before taken_now k k' o
      → OnMirrors octets label handed puts room g old new asked taken_before taken_now before now o → WritesBehindSync octets label handed puts room g old new asked taken_before taken_now before now o
  synced_run (Some (Publish roads settings)) files l l' k k' o promised m = behind_sync o promised.command.silent m
  synced_run (Some request) files l l' k k' o promised m = tt
  synced_run None files l l' k k' o promised m = tt
