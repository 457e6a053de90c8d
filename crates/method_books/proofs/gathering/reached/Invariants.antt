use Rattle.std.proofs.Common.{◌≡◌, ◌++◌, drop}
use Rattle.std.specs.List.{filter_map}
use Rattle.road_search.specs.Labelling.{length_at}
use Rattle.method_books.specs.HypBooks.{with_length}
use Rattle.method_books.proofs.gathering.reached.Given as goal

abbrev pub invariant-loop-id : goal.invariant-loop-id
invariant-loop-id l = l.list.items ++ filter_map (with_length (length_at l.labels)) (drop l.id-index l.borders) ≡ filter_map (with_length (length_at l.labels)) l.borders
