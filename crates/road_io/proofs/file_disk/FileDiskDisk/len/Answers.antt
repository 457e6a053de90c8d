use Rattle.std.proofs.Common.{◌≡◌, [], ◌∷◌, rules, refl}
use Rattle.road_io.specs.Worlds.{Call}
use Rattle.road_io.specs.Disk.{Stays}
use Rattle.road_io.proofs.WorldLaws.{later_noted, past_noted, each_noted}
use Rattle.road_io.proofs.file_disk.FileDiskDisk.len.Goals as goal

pub returns-in-Ok-clause-moments : goal.returns-in-Ok-clause-moments
returns-in-Ok-clause-moments g c =
    let d = c.args.self.now in
    let w = c.begin.new.self.world.events in
    let h = c.len.new.self.history.events in
    let call : Call = (0 ∷ c.in-Ok.count ∷ [], []) in
    let same : w ≡ d.world.events = search rules in
    let noted : h ≡ call ∷ d.disk.history.events = search rules in
    record {
      later = later_noted d.world.events w d.disk.history.events h call same noted;
      past = past_noted d.world.events w d.disk.history.events h call same noted;
      each = each_noted d.world.events w d.disk.history.events h call same noted Stays (λ d. refl) (λ d i s. s);
    }
