use Rattle.std.proofs.Common.{take}
use Rattle.std.specs.BinaryHeap.{heap_items}
use Rattle.road_search.specs.Queue.{IsFront}
use Rattle.road_search.specs.Labelling.{IsOffered}
use Rattle.road_search.proofs.label_setting.offer_arcs.Given as goal

-- the arcs so far have been offered
abbrev pub invariant-loop-arc : goal.invariant-loop-arc
invariant-loop-arc g l = record {
  front : IsFront (g.T.Marks.mark l.marks) (heap_items l.queue);
  offered : IsOffered (take l.arc-index l.arcs) l.limit l.id l.label (g.T.Marks.mark l.fn.marks) (g.T.Marks.mark l.marks);
}
