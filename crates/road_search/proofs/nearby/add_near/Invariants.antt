use Rattle.std.proofs.Common.{◌≡◌, take}
use Rattle.std.specs.List.{filter}
use Rattle.road_search.specs.Listing.{is_near_at}
use Rattle.road_search.specs.Pages.{paged}
use Rattle.road_search.proofs.nearby.add_near.Given as goal

-- the near ids at the indices so far
abbrev pub invariant-loop-place : goal.invariant-loop-place
invariant-loop-place l = l.near.items ≡ filter (is_near_at l.ids (paged l.marks.pages) l.most) (take l.place l.ids)
