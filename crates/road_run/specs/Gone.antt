-- The effect of a command on the list of the mirrors that are gone.
use Rattle.std.specs.Prelude.{◌≡◌, ℕ, List}
use Rattle.std.specs.declared.option.Option.{Option}
use Rattle.std.specs.declared.option.Option.TheVariants.{None, Some}
use Rattle.std.specs.declared.result.Result.{Result}
use Rattle.road_io.specs.declared.disk.Disk.{Ghosts}
use Rattle.road_command.specs.Requests.{Request}
use Rattle.owner_commands.specs.Losing.{LosesWhatFails}
use Rattle.command_files.specs.declared.fault.Fault.{Fault}
use Rattle.command_files.specs.declared.ended.Conclusion.{Conclusion}
use Rattle.road_run.specs.Forms.{ToMirrors, LeavesMirrors, HandsPublication, form_of}

-- M is a mirror; octets, label, handed, puts, room and faults give its contents, its label, the number of pieces it
-- was handed, its promises, and the number of its failures
module _ {M : Type 0} (octets : M → Option (List ℕ)) (label handed puts room faults : M → ℕ) where
  -- the list is unchanged, or grew by the mirrors that failed
  abbrev pub Loses : {D : Type 0} → Ghosts D → D → D → ToMirrors → Option (List ℕ) →
      Option (List ℕ) → List M → List M → List M → List M → Result Conclusion Fault → Type 0
  Loses g before now LeavesMirrors taken_before taken_now old kept gone_before gone_now outcome =
      gone_now ≡ gone_before
  Loses g before now HandsPublication taken_before taken_now old kept gone_before gone_now outcome =
      LosesWhatFails octets label handed puts room faults g before now taken_before taken_now old kept
      gone_before gone_now outcome

  -- the effect of a command; only `publish` loses mirrors
  abbrev pub OnGone : {D : Type 0} → Ghosts D → D → D → Option Request → Option (List ℕ) →
      Option (List ℕ) → List M → List M → List M → List M → Result Conclusion Fault → Type 0
  OnGone g before now None taken_before taken_now old kept gone_before gone_now outcome =
      gone_now ≡ gone_before
  OnGone g before now (Some request) taken_before taken_now old kept gone_before gone_now outcome =
      Loses g before now (form_of request).to_mirrors taken_before taken_now old kept gone_before
      gone_now outcome
