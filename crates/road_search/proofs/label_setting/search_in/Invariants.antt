use Rattle.std.proofs.Common.{◌≡◌, ◌-◌, ◌^◌, None, IsSome}
use Rattle.std.specs.BinaryHeap.{heap_items}
use Rattle.road_map.specs.Least.{IsLeast}
use Rattle.road_search.specs.Marking.{settled_in}
use Rattle.road_search.specs.Queue.{IsFront}
use Rattle.road_search.proofs.Turns.{InTurn, count}
use Rattle.road_search.proofs.label_setting.search_in.Given as goal

abbrev pub invariant-loop-queue : goal.invariant-loop-queue
invariant-loop-queue g l = record {
  front : IsFront (g.T.Marks.mark l.marks) (heap_items l.queue);
  searched : InTurn (g.G.Ground.ways l.ground) l.from l.limit (g.T.Marks.mark l.marks);
  lacking : IsLeast (λ v. IsSome (settled_in (g.T.Marks.mark l.marks) v) × ((g.G.Ground.ways l.ground).arcs v ≡ None)) l.lacking;
}

abbrev pub decreases-loop-queue : goal.decreases-loop-queue
decreases-loop-queue g l = 2 ^ 32 - count (g.T.Marks.mark l.marks)
