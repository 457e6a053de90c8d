-- Why a run ended as it did, and what else its owner is to know.
use Rattle.std.specs.Prelude.{Bool, true, false}
use Rattle.std.specs.declared.option.Option.{Option}
use Rattle.std.specs.declared.option.Option.TheVariants.{None, Some}
use Rattle.command_files.specs.declared.fault.Fault.{Fault}
use Rattle.command_files.specs.declared.fault.Fault.TheVariants as faults
use Rattle.desk_disk.specs.declared.unsafe_desk.Unsafe.{Unsafe}
use Rattle.desk_sight.specs.declared.looking.Unfit.TheVariants as unfit
use Rattle.desk_sight.specs.declared.sight.Sight.{Sight}
use Rattle.road_command.specs.Requests.{Request, Key, Succeed, Desk, Publish, Prove}
use Rattle.guarded_run.specs.declared.guarding.End.{End}
use Rattle.guarded_run.specs.declared.guarding.End.TheVariants as ends
use Rattle.guarded_run.specs.declared.telling.Reason.{Reason}
use Rattle.guarded_run.specs.declared.telling.Reason.TheVariants as reasons
use Rattle.guarded_run.specs.declared.telling.News.{News}
use Rattle.guarded_run.specs.declared.telling.News.TheVariants.{Signed, Made, Stands, Shown, Answered, Nothing}

-- why a run with this end ended so, if the desk's file was not opened for a reason, or for none
abbrev pub reason_of : End → Option Unsafe → Reason
reason_of (ends.Refused unfit.Disk) (Some why) = reasons.Unsafe why
reason_of (ends.Refused unfit.Disk) None = reasons.Failed faults.Disk
reason_of (ends.Refused (unfit.Memory none)) unopened = reasons.Failed (faults.Memory none)
reason_of (ends.Refused unfit.BadBlock) unopened = reasons.Failed faults.BadBlock
reason_of (ends.Refused (unfit.Strange strange)) unopened = reasons.Strange strange
reason_of (ends.Refused unfit.OtherKey) unopened = reasons.OtherKey
reason_of (ends.Unsigned ended) unopened = reasons.Unsigned
reason_of (ends.Ran ended) (Some why) = reasons.Unsafe why
reason_of (ends.Ran ended) None = reasons.Ended ended

-- whether the desk failed
abbrev pub is_disk : Option Fault → Bool
is_disk (Some faults.Disk) = true
is_disk fault = false

abbrev pub is_of_desk : Reason → Bool
is_of_desk (reasons.Failed fault) = is_disk (Some fault)
is_of_desk (reasons.Ended ended) = is_disk ended.fault
is_of_desk reason = false

-- ---- news, by the fault with which a run ended, if it had one

-- a map was signed, though it may not be written whole; the desk held this before
abbrev pub map_news : Sight → Option Fault → News
map_news sight None = Signed sight
map_news sight (Some faults.Sink) = Signed sight
map_news sight (Some faults.MirrorLost) = Signed sight
map_news sight fault = Nothing

abbrev pub signed_news : Option Sight → Option Fault → News
signed_news None fault = Nothing
signed_news (Some sight) fault = map_news sight fault

-- a command was done
abbrev pub done_news : News → Option Fault → News
done_news news None = news
done_news news fault = Nothing

-- a first key was made, or there is one
abbrev pub key_news : Option Fault → News
key_news None = Made
key_news (Some faults.Held) = Stands
key_news fault = Nothing

-- after a look that found a desk's contents, or none
abbrev pub news_by : Option Request → Option Sight → Option Fault → News
news_by (Some (Publish roads settings)) sight fault = signed_news sight fault
news_by (Some (Key secret kind)) sight fault = key_news fault
news_by (Some (Succeed secret kind)) sight fault = done_news Made fault
news_by (Some Desk) sight fault = done_news Shown fault
news_by (Some (Prove publication query)) sight fault = done_news Answered fault
news_by asked sight fault = Nothing

-- of a run that did not begin, or wrote nothing since it was not signed, there are none
abbrev pub news_of : Option Request → Option Sight → End → News
news_of asked sight (ends.Ran ended) = news_by asked sight ended.fault
news_of asked sight end = Nothing
