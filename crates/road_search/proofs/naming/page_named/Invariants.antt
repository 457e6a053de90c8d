use Rattle.std.proofs.Common.{◌≡◌, map, take}
use Rattle.std.specs.Option.{option_map}
use Rattle.road_search.specs.Nets.{named}
use Rattle.road_search.proofs.naming.page_named.Given as goal

-- the marks so far are converted
abbrev pub invariant-loop-place : goal.invariant-loop-place
invariant-loop-place l = l.all.items ≡ map (option_map (named l.map.order)) (take l.place l.page.items)
