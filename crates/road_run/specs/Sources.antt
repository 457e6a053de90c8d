-- The effect of a run on its source.
use Rattle.std.specs.Prelude.{IfNone, ◌≡◌, ℕ, List, [], IfSome}
use Rattle.std.specs.declared.option.Option.{Option}
use Rattle.std.specs.declared.option.Option.TheVariants.{None, Some}
use Rattle.std.specs.declared.result.Result.{Result}
use Rattle.std.specs.declared.result.Result.TheVariants.{Ok, Err}
use Rattle.road_io.specs.Causes.{Rose}
use Rattle.road_io.specs.Contents.{Folder}
use Rattle.road_io.specs.Given.{Gave}
use Rattle.road_command.specs.Requests.{Request}
use Rattle.route_service.specs.Inputs.{split}
use Rattle.command_files.specs.Exact.{IsExact}
use Rattle.command_files.specs.declared.fault.Fault.{Fault}
use Rattle.command_files.specs.declared.fault.Fault.TheVariants.{TruncatedFrame, Source}
use Rattle.command_files.specs.declared.ended.Conclusion.{Conclusion}
use Rattle.command_files.specs.declared.ended.Conclusion.TheVariants.{Done}
use Rattle.server_commands.specs.Guarding.{ServeFiles}
use Rattle.server_commands.specs.Serving.{ServesFrames, ends_serving, most_octets, most_frames}
use Rattle.road_run.specs.Forms.{Uses, FilesAndSource, form_of}

-- P holds for the files of a service, if the source is among the objects used
abbrev pub IfSource : Uses → (ServeFiles → Type 0) → Type 0
IfSource (FilesAndSource named) P = P named
IfSource uses P = Unit {0}

-- P holds, unless the source is among the objects used
abbrev pub UnlessSource : Uses → Type 0 → Type 0
UnlessSource (FilesAndSource named) P = Unit {0}
UnlessSource uses P = P

-- P holds for the files of a service, if the arguments request serving
abbrev pub IfServe : Option Request → (ServeFiles → Type 0) → Type 0
IfServe None P = Unit {0}
IfServe (Some request) P = IfSource (form_of request).uses P

-- P holds, unless the arguments request serving
abbrev pub UnlessServe : Option Request → Type 0 → Type 0
UnlessServe None P = P
UnlessServe (Some request) P = UnlessSource (form_of request).uses P

-- what a run takes from its source, by the command that its arguments request; only `serve` takes anything
pub record RunTakes (asked : Option Request) (files : Option Folder)
    (left_before left_now : Option (List ℕ)) (source_before source_now : ℕ)
    (taken_before taken_now : Option (List ℕ)) (outcome : Result Conclusion Fault) : Type 0 where
  pub serves : IfServe asked (λ named.
      ServesFrames named files left_before left_now source_before source_now taken_before taken_now
      outcome)
  pub kept : UnlessServe asked (left_now ≡ left_before)
  pub source : outcome ≡ Err Source → Rose source_before source_now

-- A run that read the whole source, or found a frame cut short, found the source at its end. If a guard refuses the
-- first publication, nothing is taken.
abbrev pub HasEnded : ServeFiles → Result Conclusion Fault → Type 0 → Type 0
HasEnded named (Ok Done) Ended = Ended
HasEnded named (Ok conclusion) Ended = IfNone named.guard Ended
HasEnded named (Err TruncatedFrame) Ended = Ended
HasEnded named outcome Ended = Unit {0}

-- The octets that the source of a run gave, by the command that its arguments request. Only `serve` took any, and
-- it answered the frames of exactly these octets.
pub record RunGave (asked : Option Request) (files : Option Folder) (given_before given_now : List ℕ)
    (Ended : Type 0) (source_before source_now : ℕ) (taken_before taken_now : Option (List ℕ))
    (outcome : Result Conclusion Fault) : Type 0 where
  pub serves : IfServe asked (λ named. Gave given_before given_now (λ octets.
      ServesFrames named files (Some octets) (Some []) source_before source_now taken_before
      taken_now outcome))
  pub ended : IfServe asked (λ named. HasEnded named outcome Ended)
  pub nothing : UnlessServe asked (given_now ≡ given_before)

-- the result of `serve` is the one that its files and the rest of its source require, if both are known
abbrev pub IsExactServing : ServeFiles → Option Folder → Option (List ℕ) → Result Conclusion Fault →
    Type 0
IsExactServing named files left outcome =
    IfSome files (λ folder. IfSome left
    (λ text. IsExact (ends_serving named (split most_octets most_frames text) folder) outcome))
