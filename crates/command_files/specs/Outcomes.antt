-- How a run ends.
use Rattle.std.specs.Prelude.{ℕ, ◌==◌, if◌then◌else◌}
use Rattle.std.specs.declared.option.Option.{Option}
use Rattle.std.specs.declared.option.Option.TheVariants.{None, Some}
use Rattle.std.specs.declared.result.Result.{Result}
use Rattle.std.specs.declared.result.Result.TheVariants.{Ok, Err}
use Rattle.command_files.specs.declared.fault.Fault.{Fault}
use Rattle.command_files.specs.declared.fault.Fault.TheVariants.{Words, Missing, TooLong, Road, Dimacs, Map, Plan, Malformed, HeaderWrong, BadHex, OtherKey, TruncatedFrame, FrameTooLong, Library, Source, Sink, Disk, KeysUsedUp, Memory, UnknownNode, NoRoute, Held, NoKey, BadBlock, TooManyKeys, NoSuccession, SameSecret, TooManyFrames, OtherPublication, MirrorLost}
use Rattle.command_files.specs.declared.ended.Conclusion.{Conclusion}
use Rattle.command_files.specs.declared.ended.Conclusion.TheVariants.{Done, Refused, Evidence}
use Rattle.command_files.specs.declared.ended.Ended.{Ended}

-- the status of an outcome
abbrev pub status_of : Result Conclusion Fault → ℕ
status_of (Ok Done) = 0
status_of (Ok Refused) = 1
status_of (Ok Evidence) = 10
status_of (Err Words) = 2
status_of (Err Missing) = 3
status_of (Err TooLong) = 3
status_of (Err (Road fault)) = 3
status_of (Err (Dimacs fault)) = 3
status_of (Err (Map fault)) = 3
status_of (Err (Plan fault)) = 3
status_of (Err (Malformed at)) = 3
status_of (Err HeaderWrong) = 3
status_of (Err BadHex) = 3
status_of (Err OtherKey) = 3
status_of (Err TruncatedFrame) = 3
status_of (Err FrameTooLong) = 3
status_of (Err Library) = 4
status_of (Err Source) = 5
status_of (Err Sink) = 6
status_of (Err Disk) = 7
status_of (Err KeysUsedUp) = 8
status_of (Err (Memory _)) = 9
status_of (Err (UnknownNode id)) = 11
status_of (Err NoRoute) = 11
status_of (Err Held) = 12
status_of (Err NoKey) = 12
status_of (Err BadBlock) = 12
status_of (Err TooManyKeys) = 12
status_of (Err NoSuccession) = 12
status_of (Err SameSecret) = 12
status_of (Err TooManyFrames) = 13
status_of (Err OtherPublication) = 14
status_of (Err MirrorLost) = 15

-- the verdict of a status without a fault
abbrev pub verdict_of : ℕ → Conclusion
verdict_of status = if status == 1 then Refused else if status == 10 then Evidence else Done

abbrev pub outcome_by : ℕ → Option Fault → Result Conclusion Fault
outcome_by status (Some fault) = Err fault
outcome_by status None = Ok (verdict_of status)

-- the outcome of an end
abbrev pub outcome_of : Ended → Result Conclusion Fault
outcome_of ended = outcome_by ended.status ended.fault
