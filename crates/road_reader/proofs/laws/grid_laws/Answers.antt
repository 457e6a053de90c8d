use Rattle.road_reader.proofs.GridMaps.{is_map, knows_each, is_connected}
use Rattle.road_reader.proofs.laws.grid_laws.Goals as goal

pub returns : goal.returns
returns c = record { map = is_map; knows = knows_each; connected = is_connected }
