use Rattle.road_map.proofs.RisingLaws.{none_rise}
use Rattle.road_map.proofs.rising_ids.RisingIds.none.Goals as goal

pub invariant_of-result : goal.invariant_of-result
invariant_of-result c = none_rise c.new.result.items c.new.ensures.items
