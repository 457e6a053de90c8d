use Rattle.std.proofs.Common.{◌≡◌, ◌≤◌, ◌∷◌, List, ℕ, OnErr, false, true, rules, length}
use Rattle.outside.specs.Called.{Refuses}
use Rattle.outside.specs.Calls.{noted_write}
use Rattle.road_io.specs.Worlds.{Call}
use Rattle.road_io.specs.Disk.{Torn}
use Rattle.road_io.proofs.WorldLaws.{later_noted, past_noted, each_noted, later_kept, past_kept, each_kept, torn_same, write_step, wrote, tore}
use Rattle.desk_disk.specs.Opening.{FailsToWrite}
use Rattle.desk_disk.specs.States.{is_absent, is_unseen, is_writable}
use Rattle.desk_disk.proofs.Failing.{unwritten, unwritten_then}
use Rattle.desk_disk.proofs.desk_disk.DeskDiskDisk.write_at.Goals as goal
use Rattle.desk_disk.proofs.desk_disk.DeskDiskDisk.write_at.Goals.{in-Absent+in-Ok, in_default}

pub returns-in_err-begin-clause-moments : goal.returns-in_err-begin-clause-moments
returns-in_err-begin-clause-moments g c =
    let d = c.args.self.now in
    let w = c.begin.new.self.world.events in
    let h = c.begin.new.self.disk.history.events in
    let same : w ≡ d.world.events = search rules in
    let noted : h ≡ d.disk.history.events = search rules in
    record {
      later = later_kept d.world.events w d.disk.history.events h same noted;
      past = past_kept d.world.events w d.disk.history.events h same noted;
      each = each_kept d.world.events w d.disk.history.events h same noted (Torn c.args.at (length c.args.octets.now)) (λ d. torn_same c.args.at (length c.args.octets.now) d);
    }

pub returns-in-Err-clause-moments : goal.returns-in-Err-clause-moments
returns-in-Err-clause-moments g c =
    let d = c.args.self.now in
    let w = c.unopened.new.self.world.events in
    let h = c.unopened.new.self.disk.history.events in
    let same : w ≡ d.world.events = search rules in
    let noted : h ≡ d.disk.history.events = search rules in
    record {
      later = later_kept d.world.events w d.disk.history.events h same noted;
      past = past_kept d.world.events w d.disk.history.events h same noted;
      each = each_kept d.world.events w d.disk.history.events h same noted (Torn c.args.at (length c.args.octets.now)) (λ d. torn_same c.args.at (length c.args.octets.now) d);
    }

pub returns-clause-moments : goal.returns-clause-moments
returns-clause-moments g c =
    let d = c.args.self.now in
    let w = c.put.new.self.world.events in
    let h = c.put.new.self.disk.history.events in
    let call : Call = noted_write c.put.result c.args.at c.args.octets.now in
    let same : w ≡ d.world.events = search rules in
    let noted : h ≡ call ∷ d.disk.history.events = search rules in
    record {
      later = later_noted d.world.events w d.disk.history.events h call same noted;
      past = past_noted d.world.events w d.disk.history.events h call same noted;
      each = each_noted d.world.events w d.disk.history.events h call same noted (Torn c.args.at (length c.args.octets.now)) (λ d. torn_same c.args.at (length c.args.octets.now) d)
          (write_step d.world.events w d.disk.history.events h same c.args.at c.args.octets.now c.put.result);
    }

pub returns-clause-written : goal.returns-clause-written
returns-clause-written g c =
    let d = c.args.self.now in
    let w = c.put.new.self.world.events in
    let h = c.put.new.self.disk.history.events in
    let same : w ≡ d.world.events = search rules in
    let noted : h ≡ noted_write c.put.result c.args.at c.args.octets.now ∷ d.disk.history.events = search rules in
    wrote d.world.events w d.disk.history.events h same c.args.at c.args.octets.now c.put.result noted

pub returns-clause-torn : goal.returns-clause-torn
returns-clause-torn g c =
    let d = c.args.self.now in
    let w = c.put.new.self.world.events in
    let h = c.put.new.self.disk.history.events in
    let same : w ≡ d.world.events = search rules in
    let noted : h ≡ noted_write c.put.result c.args.at c.args.octets.now ∷ d.disk.history.events = search rules in
    tore d.world.events w d.disk.history.events h same c.args.at c.args.octets.now c.put.result noted

pub returns-clause-failed : goal.returns-clause-failed
returns-clause-failed g c =
    let before = c.args.self.now.disk.names.calls.events in
    let now = c.put.new.self.disk.names.calls.events in
    let why = c.put.new.self.why_unsafe in
    let opened = c.match-self.self in
    let more : length before ≤ length opened.disk.names.calls.events = search rules in
    let same : c.put.new.self.state ≡ opened.state = search rules in
    let refused : is_writable opened.state ≡ true → OnErr c.put.result (Refuses opened.disk.names.calls.events now) = search rules in
    elim c.match-self.branch [
      | in-Absent+in-Ok w ↦ unwritten c.put.result opened.state c.put.new.self.state why before opened.disk.names.calls.events now more same (search rules) refused
      | in_default w ↦ unwritten_then c.put.result opened.state c.put.new.self.state why before opened.disk.names.calls.events now more same (search rules) (search rules) refused
    ]
