use Rattle.std.proofs.Common.{sym, subst}
use Rattle.road_map.specs.Places.{AreRising}
use Rattle.road_map.proofs.RisingLaws.{none_rise}
use Rattle.road_search.proofs.ground.Ground.ids.Goals as goal

pub returns : goal.returns
returns g c = subst AreRising (sym c.in_ok-ids.ensures.ok) (none_rise c.none.result c.none.ensures)
