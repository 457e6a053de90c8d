use Rattle.std.proofs.Common.{subst}
use Rattle.road_map.specs.Maps.{Charted}
use Rattle.road_map.specs.Nets.{IsNet}
use Rattle.road_map.proofs.map.Map.net.Goals as goal

pub returns : goal.returns
returns c = subst (λ (m : Charted). IsNet m.parts m.order c.self.inside.net) c.self.view_is c.self.invariant.steps
