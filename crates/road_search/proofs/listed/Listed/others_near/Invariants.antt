use Rattle.std.proofs.Common.{◌≡◌, take}
use Rattle.std.specs.List.{filter}
use Rattle.road_search.specs.Nearness.{is_within}
use Rattle.road_search.specs.Marking.{mark_at}
use Rattle.road_search.specs.Labelling.{length_in}
use Rattle.road_search.proofs.listed.Listed.others_near.Given as goal

-- those of the ids so far that are near
abbrev pub invariant-loop-id : goal.invariant-loop-id
invariant-loop-id l = l.near.items ≡ filter (λ id. is_within l.most (length_in (mark_at l.self.others) id)) (take l.id-index l.id-items)
