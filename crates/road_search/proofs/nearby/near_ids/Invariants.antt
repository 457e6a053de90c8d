use Rattle.std.proofs.Common.{◌≡◌, ◌*◌, take}
use Rattle.std.specs.List.{filter}
use Rattle.road_search.specs.Listing.{is_near_at}
use Rattle.road_search.specs.Pages.{paged}
use Rattle.road_search.proofs.nearby.near_ids.Given as goal

-- the near ids on the pages so far
abbrev pub invariant-loop-index : goal.invariant-loop-index
invariant-loop-index l = l.near.items ≡ filter (is_near_at l.ids (paged l.marks.pages) l.most) (take (l.index * 64) l.ids)
