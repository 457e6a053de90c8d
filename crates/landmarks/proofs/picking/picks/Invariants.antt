use Rattle.std.proofs.Common.{◌≡◌}
use Rattle.road_map.specs.Walks.{distance}
use Rattle.book_model.specs.Books.{landmarks}
use Rattle.landmarks.specs.Rows.{rows_of, nearest_row}
use Rattle.landmarks.proofs.picking.picks.Given as goal

abbrev pub invariant-loop-k : goal.invariant-loop-k
invariant-loop-k l = record {
  same : l.survey.map ≡ l.map;
  chosen : l.picked.chosen.items ≡ landmarks l.map.parts l._k;
  near : l.picked.near ≡ nearest_row (distance l.map.parts) l.ids l.picked.chosen.items;
  rows : l.picked.rows.items ≡ rows_of (distance l.map.parts) l.ids l.picked.chosen.items;
}
