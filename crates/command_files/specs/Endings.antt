-- The effects of a command, by how it ends.
use Rattle.std.specs.Prelude.{◌≡◌, ◌≢◌, ◌⊎◌, ℕ, List, [], IfSome, IfNone, MatchResult}
use Rattle.std.specs.declared.option.Option.{Option}
use Rattle.std.specs.declared.result.Result.{Result}
use Rattle.std.specs.declared.result.Result.TheVariants.{Ok, Err}
use Rattle.std.specs.Io.KnownBytes.{Appends, Keeps}
use Rattle.road_io.specs.Causes.{Rose}
use Rattle.road_io.specs.Contents.{Folder, AppendsFront}
use Rattle.command_files.specs.declared.fault.Fault.{Fault}
use Rattle.command_files.specs.declared.fault.Fault.TheVariants.{Words, Missing, TooLong, TruncatedFrame, FrameTooLong, Library, Source, Sink, Disk, Memory, UnknownNode, NoRoute, TooManyFrames, MirrorLost}
use Rattle.command_files.specs.declared.ended.Conclusion.{Conclusion}
use Rattle.command_files.specs.declared.ended.Conclusion.TheVariants.{Done}

-- an outcome with which a command may end, and the text that it then writes
abbrev pub Ending : Type 1
Ending = Result Conclusion Fault → List ℕ → Type 0

-- the results that follow reading a file; the first fault of a file has priority, and nothing is then written
abbrev pub EndsReading : {X : Type 0} → Result X Fault → (X → Ending) → Ending
EndsReading read Next outcome text = MatchResult read (λ x. Next x outcome text)
    (λ first. (outcome ≡ Err first) × (text ≡ []))

-- Ends gives the outcomes that the files allow, and the text of each. The outcome is one of these, or out of
-- memory, or the failure of the library or the disk. The sink has taken the text or, if the sink failed, a prefix
-- of such a text. If a mirror was lost, the sink has taken the whole text of work that was done. Only three faults
-- may come with a text: an unknown node, no route, and a fault of frames or of their source.
abbrev pub Answered : Ending → Option (List ℕ) → Option (List ℕ) → Result Conclusion Fault → Type 0
Answered Ends old new (Ok verdict) = (text : List ℕ) × Ends (Ok verdict) text × Appends old new text
Answered Ends old new (Err (Memory _)) = Unit {0}
Answered Ends old new (Err Library) = Unit {0}
Answered Ends old new (Err Disk) = Unit {0}
Answered Ends old new (Err Source) = (text : List ℕ) × Ends (Err Source) text × Appends old new text
Answered Ends old new (Err Sink) = (end : Result Conclusion Fault) × (text : List ℕ) ×
    Ends end text × AppendsFront old new text
Answered Ends old new (Err MirrorLost) = (text : List ℕ) × Ends (Ok Done) text ×
    Appends old new text
Answered Ends old new (Err (UnknownNode id)) = (text : List ℕ) × Ends (Err (UnknownNode id)) text ×
    Appends old new text
Answered Ends old new (Err NoRoute) = (text : List ℕ) × Ends (Err NoRoute) text ×
    Appends old new text
Answered Ends old new (Err TruncatedFrame) = (text : List ℕ) × Ends (Err TruncatedFrame) text ×
    Appends old new text
Answered Ends old new (Err FrameTooLong) = (text : List ℕ) × Ends (Err FrameTooLong) text ×
    Appends old new text
Answered Ends old new (Err TooManyFrames) = (text : List ℕ) × Ends (Err TooManyFrames) text ×
    Appends old new text
Answered Ends old new (Err fault) = Ends (Err fault) []

-- no fault is reported to the client by a text
abbrev pub TellsNone : Fault → Type 0
TellsNone fault = ⊥

-- nothing is written, with three exceptions: work that was done, a report to a client, and a sink that failed
abbrev pub IsSilent : (Fault → Type 0) → Option (List ℕ) → Option (List ℕ) →
    Result Conclusion Fault → Type 0
IsSilent Tells old new outcome = (fault : Fault) → outcome ≡ Err fault → fault ≢ Sink →
    ¬ Tells fault → Keeps old new

-- if a library does not state its files, it has failed whenever a file is reported to be missing or too long
pub record HasUntoldCause (files : Option Folder) (before now : ℕ)
    (outcome : Result Conclusion Fault) : Type 0 where
  pub missing : IfNone files (outcome ≡ Err Missing → Rose before now)
  pub too_long : IfNone files (outcome ≡ Err TooLong → Rose before now)

-- the effect of a failure of the command's disk; a command without a disk has no such failure
abbrev pub NoDisk : Type 0
NoDisk = ⊥

-- The guarantees of a command that loads files and writes to the sink. Ends gives the outcomes that a folder
-- allows, and the text of each. Tells gives the faults that are reported to the client by a text; for example, a
-- command that takes frames has answered frames before its source fails. DiskFailed gives the effect of a failure
-- of the disk.
pub record Promises (Ends : Folder → Ending) (Tells : Fault → Type 0) (DiskFailed : Type 0)
    (files : Option Folder) (library_before library_now : ℕ)
    (old new : Option (List ℕ)) (sink_before sink_now : ℕ)
    (outcome : Result Conclusion Fault) : Type 0 where
  pub answered : IfSome files (λ folder. Answered (Ends folder) old new outcome)
  pub untold : HasUntoldCause files library_before library_now outcome
  pub silent : IsSilent Tells old new outcome
  pub library : outcome ≡ Err Library → Rose library_before library_now
  pub sink : outcome ≡ Err Sink → Rose sink_before sink_now
  pub disk : outcome ≡ Err Disk → DiskFailed
  pub source : outcome ≡ Err Source → Tells Source
  pub mirror : outcome ≡ Err MirrorLost → Tells MirrorLost
  pub words : outcome ≡ Err Words → ⊥

-- the guarantees of a command that loads no file: the same with any library, which the command does not call
abbrev pub PromisesWithoutFiles : Ending → Type 0 → Option (List ℕ) → Option (List ℕ) → ℕ → ℕ →
    Result Conclusion Fault → Type 0
PromisesWithoutFiles Ends DiskFailed old new sink_before sink_now outcome =
    (files : Option Folder) (faults : ℕ) →
    Promises (λ folder. Ends) TellsNone DiskFailed files faults faults old new sink_before
    sink_now outcome

-- no consequence
abbrev pub NoEnd : Ending
NoEnd outcome text = ⊥

-- ---- the results of functions

-- the command loaded its files but did not do its work, for a reason among its ends, unless memory ran out or the
-- disk failed
abbrev pub WhyNot : Type 0 → Ending → Fault → Type 0
WhyNot DiskFailed Ends (Memory _) = Unit {0}
WhyNot DiskFailed Ends Disk = DiskFailed
WhyNot DiskFailed Ends Words = ⊥
WhyNot DiskFailed Ends Missing = ⊥
WhyNot DiskFailed Ends TooLong = ⊥
WhyNot DiskFailed Ends Library = ⊥
WhyNot DiskFailed Ends Source = ⊥
WhyNot DiskFailed Ends Sink = ⊥
WhyNot DiskFailed Ends MirrorLost = ⊥
WhyNot DiskFailed Ends fault = Ends (Err fault) []

-- how a command may end once its text was written
abbrev pub MayEnd : (Fault → Type 0) → Result Conclusion Fault → Type 0
MayEnd Tells (Ok v) = Unit {0}
MayEnd Tells (Err (UnknownNode id)) = Tells (UnknownNode id)
MayEnd Tells (Err NoRoute) = Tells NoRoute
MayEnd Tells (Err TruncatedFrame) = Tells TruncatedFrame
MayEnd Tells (Err FrameTooLong) = Tells FrameTooLong
MayEnd Tells (Err TooManyFrames) = Tells TooManyFrames
MayEnd Tells (Err Source) = Tells Source
MayEnd Tells (Err f) = ⊥

-- a text was written as a whole and the outcome is the one that comes with it, or the sink failed
abbrev pub Writes : Result Conclusion Fault → List ℕ → Option (List ℕ) → Option (List ℕ) → ℕ → ℕ →
    Result Conclusion Fault → Type 0
Writes end text old new before now outcome =
    ((outcome ≡ end) × Appends old new text) ⊎
    ((outcome ≡ Err Sink) × AppendsFront old new text × Rose before now)
