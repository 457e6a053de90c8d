-- Why a process runs no command, and its status then.
use Rattle.std.specs.Prelude.{◌≡◌, ℕ, Bool, true, false}
use Rattle.std.specs.declared.option.Option.{Option}
use Rattle.std.specs.declared.option.Option.TheVariants.{None, Some}
use Rattle.std.specs.declared.result.Result.{Result}
use Rattle.std.specs.declared.result.Result.TheVariants.{Ok, Err}
use Rattle.std.specs.IoError.{error_kind}
use Rattle.std.specs.declared.io.Error.{Error}
use Rattle.std.specs.declared.io.ErrorKind.{ErrorKind}
use Rattle.std.specs.declared.io.ErrorKind.TheVariants as kinds
use Rattle.road_command.specs.Requests.{Request, Publish, Links, Prove, Serve, ServeSigned, Reach}
use Rattle.desk_guard.specs.declared.beginning.Answer.{Answer}
use Rattle.desk_guard.specs.declared.beginning.Answer.TheVariants.{Given, Cut}
use Rattle.desk_guard.specs.declared.beginning.Unbegun.{Unbegun}
use Rattle.desk_guard.specs.declared.beginning.Unbegun.TheVariants.{Memory, NotGiven, NotText}
use Rattle.desk_guard.specs.declared.streams.Clash.{Clash}
use Rattle.desk_guard.specs.declared.streams.Clash.TheVariants.{ErrorIsDesk, OutputIsDesk, OutputIsTerminal, OutputIsInput}

-- ---- arguments

-- why there are none, from the system's error
abbrev pub unbegun_by : ErrorKind → Unbegun
unbegun_by kinds.OutOfMemory = NotGiven
unbegun_by kind = NotText

-- the status
abbrev pub unbegun_exit : Unbegun → ℕ
unbegun_exit (Memory none) = 9
unbegun_exit NotGiven = 9
unbegun_exit NotText = 2

-- ---- standard streams

-- whether a command writes octets that are not text
abbrev pub writes_octets : Option Request → Bool
writes_octets (Some (Publish roads settings)) = true
writes_octets (Some Links) = true
writes_octets (Some (Prove publication query)) = true
writes_octets (Some (Reach publication query)) = true
writes_octets (Some (Serve publication)) = true
writes_octets (Some (ServeSigned publication key chain)) = true
writes_octets asked = false

-- The cause of a refusal: a terminal is refused to a command that writes octets.
abbrev pub IsClash : Option Request → Bool → Clash → Type 0
IsClash asked is_terminal OutputIsTerminal = (is_terminal ≡ true) × (writes_octets asked ≡ true)
IsClash asked is_terminal clash = Unit {0}

-- the status
abbrev pub clash_exit : Clash → ℕ
clash_exit ErrorIsDesk = 7
clash_exit OutputIsDesk = 7
clash_exit OutputIsTerminal = 2
clash_exit (OutputIsInput name) = 6

-- ---- answers to questions about the program

-- how the printing ended, by the system's answer; an early end of the reader is no error
abbrev pub unless_read : Error → ErrorKind → Answer
unless_read e kinds.BrokenPipe = Given
unless_read e kind = Cut e

abbrev pub answer_by : {T : Type 0} → Result T Error → Answer
answer_by (Ok done) = Given
answer_by (Err e) = unless_read e (error_kind e)

-- the status
abbrev pub answer_exit : Answer → ℕ
answer_exit Given = 0
answer_exit (Cut e) = 6
