use Rattle.std.proofs.Common.{◌≡◌, take}
use Rattle.road_map.specs.Walks.{distance}
use Rattle.book_model.specs.Orders.{by_id}
use Rattle.landmarks.specs.Rows.{rows_of}
use Rattle.landmarks.proofs.coding.rows_from.Given as goal

abbrev pub invariant-loop-id : goal.invariant-loop-id
invariant-loop-id l = record {
  same : l.survey.map ≡ l.map;
  rows : l.rows.items ≡ rows_of (distance l.map.parts) (by_id l.map.parts.nodes) (take l.id-index l.chosen);
}
