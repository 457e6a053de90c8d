use Rattle.std.proofs.Common.{◌≡◌, ◌∷◌, rules, refl}
use Rattle.outside.specs.Calls.{noted_sync}
use Rattle.road_io.specs.Worlds.{Call}
use Rattle.road_io.specs.Disk.{Stays}
use Rattle.road_io.proofs.WorldLaws.{later_noted, past_noted, each_noted, was_image, on_err, sync_step, one_left, settled, left_dropped}
use Rattle.road_io.proofs.file_disk.FileDiskDisk.sync.Goals as goal

pub returns-in_err-begin-clause-dropped : goal.returns-in_err-begin-clause-dropped
returns-in_err-begin-clause-dropped g c =
    let d = c.args.self.now in
    let w = c.begin.new.self.world.events in
    let h = c.begin.new.self.disk.history.events in
    let same : w ≡ d.world.events = search rules in
    let noted : h ≡ d.disk.history.events = search rules in
    on_err c.from_residual.result (λ b is. was_image d.world.events w d.disk.history.events h same noted b is)

pub returns-clause-moments : goal.returns-clause-moments
returns-clause-moments g c =
    let call : Call = noted_sync c.settle.result in
    let d = c.args.self.now in
    let w = c.settle.new.self.world.events in
    let h = c.settle.new.self.disk.history.events in
    let same : w ≡ d.world.events = search rules in
    let noted : h ≡ noted_sync c.settle.result ∷ d.disk.history.events = search rules in
    record {
      later = later_noted d.world.events w d.disk.history.events h call same noted;
      past = past_noted d.world.events w d.disk.history.events h call same noted;
      each = each_noted d.world.events w d.disk.history.events h call same noted Stays (λ d. refl) (sync_step d.world.events w d.disk.history.events h same c.settle.result);
    }

pub returns-clause-one : goal.returns-clause-one
returns-clause-one g c =
    let d = c.args.self.now in
    let w = c.settle.new.self.world.events in
    let h = c.settle.new.self.disk.history.events in
    let same : w ≡ d.world.events = search rules in
    let noted : h ≡ noted_sync c.settle.result ∷ d.disk.history.events = search rules in
    one_left d.world.events w d.disk.history.events h same c.settle.result noted

pub returns-clause-content : goal.returns-clause-content
returns-clause-content g c =
    let d = c.args.self.now in
    let w = c.settle.new.self.world.events in
    let h = c.settle.new.self.disk.history.events in
    let same : w ≡ d.world.events = search rules in
    let noted : h ≡ noted_sync c.settle.result ∷ d.disk.history.events = search rules in
    settled d.world.events w d.disk.history.events h same c.settle.result noted

pub returns-clause-dropped : goal.returns-clause-dropped
returns-clause-dropped g c =
    let d = c.args.self.now in
    let w = c.settle.new.self.world.events in
    let h = c.settle.new.self.disk.history.events in
    let same : w ≡ d.world.events = search rules in
    let noted : h ≡ noted_sync c.settle.result ∷ d.disk.history.events = search rules in
    left_dropped d.world.events w d.disk.history.events h same c.settle.result noted
