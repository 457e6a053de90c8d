use Rattle.std.proofs.Common.{sym, subst, ap}
use Rattle.std.specs.List.{zip}
use Rattle.road_map.specs.Places.{AreRising}
use Rattle.landmarks.proofs.table.CodeTable.new.Goals as goal

pub invariant_of-result : goal.invariant_of-result
invariant_of-result c = subst AreRising (sym c.in_ok-rising.ensures) c.requires

pub returns-clause-entries : goal.returns-clause-entries
returns-clause-entries c = ap (λ is. zip is c.args.codes.items) c.in_ok-rising.ensures
