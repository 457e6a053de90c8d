use Rattle.std.proofs.Common.{◌≡◌, ◌+◌, ◌-◌, ℕ, List, length, arith}
use Rattle.road_io.specs.Moments.{EachImage}
use Rattle.desk_sight.specs.Looks.{HasClosedLink}
use Rattle.desk_sight.proofs.LinkSteps.{spends_after, closed_everywhere, room}
use Rattle.desk_sight.proofs.looking.open_link.Goals as goal

pub open_gate-requires : goal.open_gate-requires
open_gate-requires g c = record {
  within = λ i now.
      room i i c.args.end (closed_everywhere g.D.Disk c.args.disk.now c.sync.new.self c.args.end c.requires.closed c.in_ok-sync.ensures.content c.in_ok-sync.ensures.one i now);
}

pub returns-clause-spends : goal.returns-clause-spends
returns-clause-spends g c =
    spends_after g.D.Disk c.args.disk.now c.sync.new.self c.open_gate.new.disk c.args.end c.sync.ensures.moments
    (closed_everywhere g.D.Disk c.args.disk.now c.sync.new.self c.args.end c.requires.closed c.in_ok-sync.ensures.content c.in_ok-sync.ensures.one) c.open_gate.ensures.moments
