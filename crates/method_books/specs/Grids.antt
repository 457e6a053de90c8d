-- Grids over nodes.
use Rattle.std.specs.Prelude.{◌≤◌, List}
use Rattle.road_map.specs.declared.parts.Node.{Node}
use Rattle.book_model.specs.Frames.{IsFrame, InFrame}
use Rattle.book_model.specs.Orders.{Frame, frame_of}
use Rattle.method_books.specs.declared.grid.Grid.{Grid}

-- the frame of a grid
abbrev pub frame : Grid → Frame
frame g = record {
  low_x = g.frame.low_x;
  high_x = g.frame.high_x;
  low_y = g.frame.low_y;
  high_y = g.frame.high_y;
}

-- a grid over the frame of some nodes
pub record IsGridOf (nodes : List Node) (g : Grid) : Type 0 where
  pub framed : IsFrame (frame_of nodes) g.frame
  pub columns : 1 ≤ g.columns
  pub columns_max : g.columns ≤ 1024
  pub rows : 1 ≤ g.rows
  pub rows_max : g.rows ≤ 1024

-- a node in the frame
pub record Holds (g : Grid) (n : Node) : Type 0 where
  pub columns : 1 ≤ g.columns
  pub columns_max : g.columns ≤ 1024
  pub rows : 1 ≤ g.rows
  pub rows_max : g.rows ≤ 1024
  pub inside : InFrame g.frame n
