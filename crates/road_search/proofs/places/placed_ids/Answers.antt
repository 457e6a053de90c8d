use Rattle.std.proofs.Common.{sym, subst}
use Rattle.road_map.specs.Places.{AreRising}
use Rattle.road_map.proofs.RisingLaws.{rise_from_sorted}
use Rattle.road_search.proofs.places.placed_ids.Goals as goal

pub returns-clause-rise : goal.returns-clause-rise
returns-clause-rise c = subst AreRising (sym c.in_ok-found.ensures) (rise_from_sorted _ c.parts-parts.ensures.by_id.rising)
