use Rattle.std.proofs.Common.{◌≡◌, take, map}
use Rattle.road_map.specs.Walks.{ids}
use Rattle.book_model.specs.Orders.{neighbours}
use Rattle.book_model.specs.Cells.{cell_of, is_border}
use Rattle.method_books.proofs.hyp_method.marks_of.Given as goal

abbrev pub invariant-loop-position : goal.invariant-loop-position
invariant-loop-position l = l.marks.items ≡ map (is_border (cell_of l.map.parts.nodes l.grid.columns l.grid.rows) (neighbours l.map.parts.roads)) (take l.position (ids l.map.order))
