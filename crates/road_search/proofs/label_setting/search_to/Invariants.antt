use Rattle.std.proofs.Common.{◌-◌, ◌^◌, ◌≤◌}
use Rattle.std.specs.BinaryHeap.{heap_items}
use Rattle.road_search.specs.Queue.{IsFront}
use Rattle.road_search.proofs.Turns.{InTurn, count}
use Rattle.road_search.proofs.Cutting.{Bounded}
use Rattle.road_search.proofs.label_setting.search_to.Given as goal

abbrev pub invariant-loop-queue : goal.invariant-loop-queue
invariant-loop-queue g l = record {
  front : IsFront (g.T.Marks.mark l.marks) (heap_items l.queue);
  searched : InTurn (g.G.Ground.ways l.ground) l.from l.limit (g.T.Marks.mark l.marks);
  low : l.bound ≤ l.limit;
  bounded : Bounded l.limit l.bound l.to (g.T.Marks.mark l.marks);
}

abbrev pub decreases-loop-queue : goal.decreases-loop-queue
decreases-loop-queue g l = 2 ^ 32 - count (g.T.Marks.mark l.marks)
