use Rattle.std.proofs.Common.{◌≡◌, map, take}
use Rattle.std.specs.Option.{option_map}
use Rattle.road_search.specs.MarkLists.{MarkList}
use Rattle.road_search.specs.Nets.{named}
use Rattle.road_search.proofs.naming.all_named.Given as goal

-- the pages so far are converted
abbrev pub invariant-loop-page : goal.invariant-loop-page
invariant-loop-page l = l.all.items ≡ map (λ (page : MarkList). record { items = map (option_map (named l.map.order)) page.items }) (take l.page-index l.page-items)
