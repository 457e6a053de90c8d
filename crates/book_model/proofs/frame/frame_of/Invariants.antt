use Rattle.std.proofs.Common.{◌≡◌, take}
use Rattle.std.specs.List.{fold}
use Rattle.std.specs.Int.{int_min, int_max}
use Rattle.book_model.proofs.frame.frame_of.Given as goal

abbrev pub invariant-loop-node : goal.invariant-loop-node
invariant-loop-node l = record {
  low_x : l.low_x ≡ fold (λ low n. int_min low n.x) l.initial.low_x (take l.node-index l.nodes);
  high_x : l.high_x ≡ fold (λ high n. int_max high n.x) l.initial.high_x (take l.node-index l.nodes);
  low_y : l.low_y ≡ fold (λ low n. int_min low n.y) l.initial.low_y (take l.node-index l.nodes);
  high_y : l.high_y ≡ fold (λ high n. int_max high n.y) l.initial.high_y (take l.node-index l.nodes);
}
