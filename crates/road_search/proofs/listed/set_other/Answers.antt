use Rattle.road_search.proofs.Entries.{marked_last}
use Rattle.road_search.proofs.listed.set_other.Goals as goal

pub returns-clause-marks : goal.returns-clause-marks
returns-clause-marks c = marked_last c.args.id c.args.new c.args.others.now.entries c.insert.new.map.entries c.in_ok-insert.ensures.updates.0
