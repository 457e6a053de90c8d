use Rattle.std.proofs.Common.{ap}
use Rattle.road_search.specs.Pages.{paged}
use Rattle.road_search.proofs.ListingLaws.{none_marked}
use Rattle.road_search.proofs.listed.Listed.new.Goals as goal

pub returns : goal.returns
returns c = none_marked c.of.result c.new.result.pages c.of.ensures.others c.of.ensures.marks (λ p. ap (λ pages. paged pages p) c.new.ensures)
