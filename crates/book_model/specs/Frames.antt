-- The frame that the code computes.
use Rattle.std.specs.Prelude.{◌≡◌, ◌≤ℤ◌}
use Rattle.road_map.specs.declared.parts.Node.{Node}
use Rattle.book_model.specs.Orders as orders
use Rattle.book_model.specs.declared.frame.Frame.{Frame}

-- the same four numbers
pub record IsFrame (of : orders.Frame) (frame : Frame) : Type 0 where
  pub low_x : frame.low_x ≡ of.low_x
  pub high_x : frame.high_x ≡ of.high_x
  pub low_y : frame.low_y ≡ of.low_y
  pub high_y : frame.high_y ≡ of.high_y

-- the node lies in the frame
pub record InFrame (frame : Frame) (node : Node) : Type 0 where
  pub left : frame.low_x ≤ℤ node.x
  pub right : node.x ≤ℤ frame.high_x
  pub below : frame.low_y ≤ℤ node.y
  pub above : node.y ≤ℤ frame.high_y
