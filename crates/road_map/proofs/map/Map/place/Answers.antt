use Rattle.road_map.specs.Nets.{IsPlace}
use Rattle.road_map.proofs.IdLaws.{place_there, place_within, at_some}
use Rattle.road_map.proofs.map.Map.place.Goals as goal

pub unwrap-requires : goal.unwrap-requires
unwrap-requires c = place_there c.args.self.now.parts.nodes c.args.self.now.order c.parts-parts.ensures.by_id c.args.id c.requires c.position.result c.position.ensures.none

pub returns-clause-within : goal.returns-clause-within
returns-clause-within c = place_within c.args.self.now.order c.args.id c.unwrap.result (at_some (IsPlace c.args.self.now.order c.args.id) c.position.result c.unwrap.result c.unwrap.ensures c.position.ensures.found)
