use Rattle.road_map.specs.Walks.{Knows}
use Rattle.method_books.proofs.NeedLaws.{HasFirst}
use Rattle.method_books.proofs.near.add_known.Given as goal

abbrev pub invariant-loop-id : goal.invariant-loop-id
invariant-loop-id l = HasFirst (Knows l.map.parts) l.fn.ids.items l.near l.id-index l.ids.items
