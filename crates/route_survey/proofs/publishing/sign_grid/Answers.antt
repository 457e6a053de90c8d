use Rattle.std.proofs.Common.{sym, subst}
use Rattle.road_map.specs.Maps.{IsMap}
use Rattle.route_survey.proofs.publishing.sign_grid.Goals as goal

pub unreachable-requires-in-Err-Map : goal.unreachable-requires-in-Err-Map
unreachable-requires-in-Err-Map c =
    let why = rw c.in-Err-Map.field-0-is at c.in-Err-Map.ensures.refused in
    why.1 ((c.map_laws.ensures.faults c.in-Ok.parts).none (subst IsMap (sym c.in-Ok.ensures.grid) (c.grid_laws.ensures.map c.args.width c.args.seed c.requires.wide c.requires.narrow)) c.in-Err-Map.field-0-0 why.0)
