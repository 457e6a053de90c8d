-- The output of `serve`.
use Rattle.std.specs.Prelude.{◌≡◌, ◌⊎◌, ℕ, ◌+◌, ◌≤◌, List, [], ◌++◌, length, take, IfSome}
use Rattle.std.specs.declared.option.Option.{Option}
use Rattle.std.specs.declared.result.Result.{Result}
use Rattle.std.specs.declared.result.Result.TheVariants.{Ok, Err}
use Rattle.std.specs.Io.KnownBytes.{Appends, Consumes, IsAtEnd, Keeps}
use Rattle.sha2.specs.Sha256.{sha256}
use Rattle.road_io.specs.Causes.{Rose}
use Rattle.road_io.specs.Contents.{Folder, AppendsFront}
use Rattle.route_service.specs.Frames.{framed}
use Rattle.proof_octets.specs.declared.publication.Publication.{Publication}
use Rattle.route_client.specs.declared.errors.CheckError.{CheckError}
use Rattle.road_line.specs.VerdictLine.{refused_line}
use Rattle.route_service.specs.declared.guard.Guard.{Guard}
use Rattle.route_service.specs.Machine.{State, first_state, Run}
use Rattle.route_service.specs.Isolation.{IsIsolated}
use Rattle.route_service.specs.Inputs.{Ending as InputEnding, Input, IsInput}
use Rattle.route_service.specs.Serving.{Serves}
use Rattle.route_service.specs.declared.serving.ServeError.{ServeError}
use Rattle.route_service.specs.declared.serving.ServeError.TheVariants as serve
use Rattle.route_service.specs.Inputs.Ending.{Regular, TooLong, Truncated, TooMany}
use Rattle.command_files.specs.Reading.{publication_at}
use Rattle.command_files.specs.Endings.{Ending, EndsReading}
use Rattle.command_files.specs.declared.fault.Fault.{Fault}
use Rattle.command_files.specs.declared.fault.Fault.TheVariants.{TruncatedFrame, FrameTooLong, Library, Source, Sink, Memory, TooManyFrames}
use Rattle.command_files.specs.declared.ended.Conclusion.{Conclusion}
use Rattle.command_files.specs.declared.ended.Conclusion.TheVariants.{Done}
use Rattle.command_books.specs.Installing.{EndsInstalling}
use Rattle.server_commands.specs.Guarding.{ServeFiles, IsAsNamed, guard_at, Holds, tested, EndsTesting}
use Rattle.octet_text.specs.Want.{no_memory}

-- the greatest number of octets in a frame's body, and the greatest number of frames
abbrev pub most_octets : ℕ
most_octets = 4194304

abbrev pub most_frames : ℕ
most_frames = 1000000

-- how a run ends if its input ends in this way
abbrev pub ended_at : InputEnding → Result Conclusion Fault
ended_at Regular = Ok Done
ended_at TooLong = Err FrameTooLong
ended_at Truncated = Err TruncatedFrame
ended_at TooMany = Err TooManyFrames

-- over an installed publication and the frames of an input: the replies, as frames, of a run of the service under
-- this guard; no session gets anything that depends on other sessions
pub record EndsFrames (guard : Guard) (input : Input) (p : Publication) (outcome : Result Conclusion Fault)
    (text : List ℕ) : Type 0 where
  pub last : State
  pub replies : List (List ℕ)
  pub run : Run sha256 sha256 (first_state guard p) input.frames replies last
  pub isolated : IsIsolated sha256 sha256 (first_state guard p) input.frames replies
  pub written : text ≡ framed replies
  pub end : outcome ≡ ended_at input.ending

-- `serve` over an input and a publication, under a guard
abbrev pub EndsServe : Guard → Input → Publication → Ending
EndsServe guard input p = EndsInstalling p (EndsFrames guard input p)

-- `serve` over a publication and some input; the source may fail after the frames of the input
abbrev pub EndsServeSome : Guard → Publication → Ending
EndsServeSome guard p (Err Source) text = (input : Input) × EndsServe guard input p (Ok Done) text
EndsServeSome guard p outcome text = (input : Input) × EndsServe guard input p outcome text

-- How serving ends over the files with these names. It first reads the publication's file, then those of the guard.
-- The publication passes the guard's tests before its book is built.
abbrev pub EndsServing : ServeFiles → (Guard → Publication → Ending) → Folder → Ending
EndsServing files Serves folder = EndsReading (publication_at folder files.publication)
    (λ p. EndsReading (guard_at folder files.guard)
    (λ guard. EndsTesting (tested guard p) (Serves guard p)))

-- `serve` over an input and files
abbrev pub ends_serving : ServeFiles → Input → Folder → Ending
ends_serving files input = EndsServing files (λ guard p. EndsServe guard input p)

-- `serve` over files and some input; `AnswersInput` tells which input
abbrev pub ends_serve : ServeFiles → Folder → Ending
ends_serve files = EndsServing files EndsServeSome

-- the faults that are reported to the client: faults of the frames, since `serve` has answered frames before
abbrev pub TellsFrames : Fault → Type 0
TellsFrames TruncatedFrame = Unit {0}
TellsFrames FrameTooLong = Unit {0}
TellsFrames TooManyFrames = Unit {0}
TellsFrames Source = Unit {0}
TellsFrames (Memory _) = Unit {0}
TellsFrames fault = ⊥

-- ---- the octets that the sink has taken

-- only the first n frames
abbrev pub first_frames : ℕ → Input → Input
first_frames n input = record { frames = take n input.frames; ending = Regular }

-- the replies to the first n frames
abbrev pub EndsFirst : ServeFiles → Input → Folder → ℕ → List ℕ → Type 0
EndsFirst files input folder n = ends_serving files (first_frames n input) folder (Ok Done)

-- The octets that the sink has taken by the end of `serve`: the replies to all frames of the input, or to the first
-- of them if the source or the sink failed or memory ran out; or the line of a guard's test that failed. With any
-- other fault, the sink has taken nothing.
abbrev pub AnswersFrames : ServeFiles → Input → Folder → Option (List ℕ) → Option (List ℕ) →
    Result Conclusion Fault → Type 0
AnswersFrames files input folder old new (Ok verdict) = (text : List ℕ) ×
    ends_serving files input folder (Ok verdict) text × Appends old new text
AnswersFrames files input folder old new (Err FrameTooLong) = (text : List ℕ) ×
    ends_serving files input folder (Err FrameTooLong) text × Appends old new text
AnswersFrames files input folder old new (Err TruncatedFrame) = (text : List ℕ) ×
    ends_serving files input folder (Err TruncatedFrame) text × Appends old new text
AnswersFrames files input folder old new (Err TooManyFrames) = (text : List ℕ) ×
    ends_serving files input folder (Err TooManyFrames) text × Appends old new text
AnswersFrames files input folder old new (Err Source) = (n : ℕ) × (text : List ℕ) ×
    EndsFirst files input folder n text × Appends old new text
AnswersFrames files input folder old new (Err Sink) = (n : ℕ) × (verdict : Conclusion) ×
    (text : List ℕ) × ends_serving files (first_frames n input) folder (Ok verdict) text ×
    AppendsFront old new text
AnswersFrames files input folder old new (Err (Memory _)) =
    Keeps old new ⊎ ((n : ℕ) × (text : List ℕ) × EndsFirst files input folder n text ×
    Appends old new text)
AnswersFrames files input folder old new (Err Library) = Keeps old new
AnswersFrames files input folder old new (Err fault) = ends_serving files input folder (Err fault) []
    × Keeps old new

-- the frames are those of the octets that are left in a source which states its contents
abbrev pub AnswersInput : ServeFiles → Option (List ℕ) → Folder → Option (List ℕ) → Option (List ℕ) →
    Result Conclusion Fault → Type 0
AnswersInput files left folder old new outcome = (input : Input) ×
    IsInput most_octets most_frames left input × AnswersFrames files input folder old new outcome

-- frames were taken from the source, and at most part of one more frame, or all of it
pub record TookFrames (left rest : Option (List ℕ)) : Type 0 where
  pub frames : List (List ℕ)
  pub octets : List ℕ
  pub took : Consumes left rest (framed frames ++ octets)
  pub few : length octets ≤ 4 + most_octets

-- The octets that are left in the source at the end of `serve`: everything after the frames that it took, or the
-- whole input if it took none.
abbrev pub LeavesInput : Option (List ℕ) → Option (List ℕ) → Result Conclusion Fault → Type 0
LeavesInput left rest (Ok Done) = TookFrames left rest
LeavesInput left rest (Ok verdict) = rest ≡ left
LeavesInput left rest (Err FrameTooLong) = TookFrames left rest
LeavesInput left rest (Err TruncatedFrame) = TookFrames left rest
LeavesInput left rest (Err TooManyFrames) = TookFrames left rest
LeavesInput left rest (Err Source) = TookFrames left rest
LeavesInput left rest (Err Sink) = TookFrames left rest
LeavesInput left rest (Err (Memory _)) = TookFrames left rest
LeavesInput left rest (Err fault) = rest ≡ left

-- ---- each frame taken, with its reply

-- Serving over the first publication, which passes the guard's tests: which whole frames were taken, that the
-- replies of a run over exactly these frames are written (except the last reply, if the sink failed or memory ran
-- out), and which octets were taken after them. If no files are known, it serves some publication, under some guard
-- if a public key is given.
pub record ServedOver (named : ServeFiles) (files : Option Folder)
    (left rest old new : Option (List ℕ)) (served : Result (Unit {0}) ServeError) : Type 0 where
  pub publication : Publication
  pub guard : Guard
  pub guarding : IsAsNamed named.guard guard
  pub of_files : IfSome files (Holds named guard publication)
  pub passed : tested guard publication ≡ Ok tt
  pub last : State
  pub serves : Serves sha256 sha256 (first_state guard publication) last most_octets most_frames left
      rest old new served

-- no octet was taken, and none was written
abbrev pub ServedNone : (left rest old new : Option (List ℕ)) → Type 0
ServedNone left rest old new = (rest ≡ left) × Keeps old new

-- no octet was taken, since the first publication fails the guard's tests; the line that `check` would write for
-- the first failed test was written
pub record RefusedFirst (named : ServeFiles) (files : Option Folder) (left rest : Option (List ℕ))
    (Wrote : List ℕ → Type 0) : Type 0 where
  pub publication : Publication
  pub guard : Guard
  pub guarding : IsAsNamed named.guard guard
  pub of_files : IfSome files (Holds named guard publication)
  pub why : CheckError
  pub fails : tested guard publication ≡ Err why
  pub untaken : rest ≡ left
  pub wrote : Wrote (refused_line why)

-- The octets taken and written by the end of `serve`. If it ended before its first frame, there are none, except
-- the line of a test that the first publication fails. Memory may run out before that or later, and the sink may
-- fail at that line or at a reply.
abbrev pub AnswersTaken : ServeFiles → Option Folder → (left rest old new : Option (List ℕ)) →
    Result Conclusion Fault → Type 0
AnswersTaken named files left rest old new (Ok Done) =
    ServedOver named files left rest old new (Ok tt)
AnswersTaken named files left rest old new (Ok verdict) =
    RefusedFirst named files left rest (Appends old new)
AnswersTaken named files left rest old new (Err FrameTooLong) =
    ServedOver named files left rest old new (Err serve.FrameTooLong)
AnswersTaken named files left rest old new (Err TruncatedFrame) =
    ServedOver named files left rest old new (Err serve.TruncatedFrame)
AnswersTaken named files left rest old new (Err TooManyFrames) =
    ServedOver named files left rest old new (Err serve.TooManyFrames)
AnswersTaken named files left rest old new (Err Source) =
    ServedOver named files left rest old new (Err serve.Source)
AnswersTaken named files left rest old new (Err Sink) =
    ServedOver named files left rest old new (Err serve.Sink) ⊎
    RefusedFirst named files left rest (AppendsFront old new)
AnswersTaken named files left rest old new (Err (Memory _)) = ServedNone left rest old new ⊎
    ServedOver named files left rest old new (Err (serve.Memory no_memory))
AnswersTaken named files left rest old new (Err fault) = ServedNone left rest old new

-- The effect of `serve` on its source, besides the guarantees of every command. The sink has taken the replies to
-- the frames that were left in the source. Each whole frame that was taken is answered. A source that is reported
-- to have failed has failed. The octets left come after the frames that were taken. If the work was done, nothing
-- is left.
pub record ServesFrames (named : ServeFiles) (files : Option Folder)
    (left_before left_now : Option (List ℕ)) (source_before source_now : ℕ)
    (old new : Option (List ℕ)) (outcome : Result Conclusion Fault) : Type 0 where
  pub served : IfSome files (λ folder. AnswersInput named left_before folder old new outcome)
  pub taken : AnswersTaken named files left_before left_now old new outcome
  pub source : outcome ≡ Err Source → Rose source_before source_now
  pub left : LeavesInput left_before left_now outcome
  pub drained : outcome ≡ Ok Done → IsAtEnd left_now
